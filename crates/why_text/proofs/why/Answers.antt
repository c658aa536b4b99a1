use native.Mathlib.Nat.{le_trans}
use native.Mathlib.Omega.{arith}
use Rattle.report.proofs.Answers.{whole}
use Rattle.report.proofs.Lengths.{refused-length}
use Rattle.why_text.proofs.Lengths.{image_length}
use Rattle.why_text.proofs.Rule.{asked_text_lem, unasked_text, too_long_lem}
use Rattle.why_text.proofs.why.Goals as goal

pub returns-then-input-gt-MOST_INPUT : goal.returns-then-input-gt-MOST_INPUT
returns-then-input-gt-MOST_INPUT c =
    rw (too_long_lem c.args.input.now c.if-input-gt-MOST_INPUT.true) (whole c.put_refused.ensures (omega (arith, refused-length 22)))

pub returns-in-Some : goal.returns-in-Some
returns-in-Some c =
    rw (asked_text_lem c.args.input.now c.if-input-gt-MOST_INPUT.false c.in-Some.q c.in-Some.image.now c.in-Some.ensures)
    (whole c.put_of_image.ensures (le_trans (image_length _ _) (omega arith)))

pub returns-in-None : goal.returns-in-None
returns-in-None c =
    rw (unasked_text c.args.input.now c.if-input-gt-MOST_INPUT.false c.in-None.ensures)
    (whole c.put_refused-in-None.ensures (omega (arith, refused-length 36)))
