use mathlib.Core.Path.{◌≡◌, refl, sym, ◌∙◌}
use borrow.Author.Rules.{rules}
use Rattle.told.specs.Told.{Told, gave, refused}
use Rattle.code_reader.specs.Refusal as reader
use Rattle.told.specs.Over.{filled}
use Rattle.gorilla.specs.Reading.{pairs_read}
use Rattle.tracker.specs.declared.SequenceTracker.{SequenceTracker}
use Rattle.tracker.specs.Refusal.{told_made}
use Rattle.restoring.specs.Restore.{told_restore, read_table, restore_at}
use Rattle.restoring.proofs.Loading.{into, loaded, unread, long}
use Rattle.restoring.proofs.restore_with_interval.Goals as goal
use Rattle.restoring.proofs.restore_with_interval.Goals.{After-settle}

settled : (c : After-settle) (told : Told SequenceTracker) → told ≡ told_made c.settle.result
    → (told ≡ restore_at c.args.interval_secs c.args.bytes.now c.args.seqs.now c.args.secs.now)
    × (c.settle.new.seqs ≡ filled told (pairs_read (read_table c.args.bytes.now)).seqs c.args.seqs.now)
    × (c.settle.new.secs ≡ filled told (pairs_read (read_table c.args.bytes.now)).secs c.args.secs.now)
settled c told e =
    let a = c.args in
    let d = c.decode.ensures in
    let l = loaded a.bytes.now _ _ (search rules) (search rules) c.in_ok-n.n c.decode.new.seqs c.decode.new.secs (rw c.in_ok-n.was at d.0) d.1 d.2 in (
      e ∙ c.settle.ensures.0 ∙ l.judge a.interval_secs ∙ long a.interval_secs a.bytes.now a.seqs.now a.secs.now (sym c.if-bad_interval.ensures) (sym c.if-short.ensures),
      into (told_made c.settle.result) told _ _ _ a.seqs.now c.settle.ensures.1 l.seqs e,
      into (told_made c.settle.result) told _ _ _ a.secs.now c.settle.ensures.2 l.secs e,
    )

pub returns-in_err-table : goal.returns-in_err-table
returns-in_err-table c = settled (goal.at.returns-in_err-table c).After-settle (told_restore c.from_residual-in_err-table.result) (search rules)

pub returns : goal.returns
returns c = settled (goal.at.returns c).After-settle (gave c.in_ok-table.table) (search rules)

pub returns-in_err-n : goal.returns-in_err-n
returns-in_err-n c =
    let a = c.args in
    let h = unread a.bytes.now _ _ (search rules) (search rules) a.interval_secs (rw c.in_err-n.was at c.decode.ensures.0) in
    let e : told_restore c.from_residual.result ≡ refused (reader.told c.in_err-n.field-0.0) = search rules in
    rw e (h ∙ long a.interval_secs a.bytes.now a.seqs.now a.secs.now (sym c.if-bad_interval.ensures) (sym c.if-short.ensures), refl, refl)
