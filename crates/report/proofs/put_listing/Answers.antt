use native.Mathlib.Omega.{arith}
use mathlib.Core.Path.{refl}
use lib.ListN.{take}
use Rattle.report.proofs.Answers.{too_long_lem, whole, listing_counted, listing_refused}
use Rattle.report.proofs.Lengths.{refused-length, pairs-length, taken-length}
use Rattle.report.proofs.put_listing.Goals as goal

pub returns-then-input-gt-MOST_INPUT : goal.returns-then-input-gt-MOST_INPUT
returns-then-input-gt-MOST_INPUT g c =
    rw (too_long_lem g.T.Third.text g.T.Third.some_lacks c.args.input.now c.if-input-gt-MOST_INPUT.true) (whole c.put_refused.ensures (omega (arith, refused-length 22)))

pub returns-in-Ok : goal.returns-in-Ok
returns-in-Ok g c =
    rw (← listing_counted g.T.Third.text g.T.Third.some_lacks c.args.input.now _ _ _ _ refl refl c.if-input-gt-MOST_INPUT.false c.in-Ok.count c.in-Ok.ensures)
    (whole c.put_pairs.ensures (omega (arith, pairs-length g.T.Third.text g.met.T.Third.short (take c.in-Ok.count c.decode.new.seqs) (take c.in-Ok.count c.decode.new.secs) g.T.Third.some_lacks, taken-length c.in-Ok.count c.decode.new.secs, c.decode.auto)))

pub returns-in-Err : goal.returns-in-Err
returns-in-Err g c =
    rw (← listing_refused g.T.Third.text g.T.Third.some_lacks c.args.input.now _ _ _ _ refl refl c.if-input-gt-MOST_INPUT.false c.in-Err.refusal c.in-Err.ensures)
    (rw (← c.number.ensures) (whole c.put_refused-in-Err.ensures (omega (arith, refused-length c.number.result))))
