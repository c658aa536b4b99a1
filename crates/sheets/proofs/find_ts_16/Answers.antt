use borrow.Author.Tests.{ltb-false}
use mathlib.Core.Path.{◌≡◌, sym, ◌∙◌, ap}
use mathlib.Core.Bool.{false}
use mathlib.Core.List.{[], ◌∷◌}
use lib.Dec.{ltb}
use Rattle.order.proofs.Bools.{passed}
use Rattle.told.specs.Told.{gave}
use Rattle.tracker.specs.Table.{check_of}
use Rattle.questions.specs.Asked.{told_asked}
use Rattle.questions.proofs.Good.{gives_ts}
use Rattle.questions.proofs.Left.{if_done}
use Rattle.sheets.proofs.Fill.{filled-by}
use Rattle.sheets.proofs.find_ts_16.Goals as goal
use Rattle.sheets.proofs.find_ts_16.Goals.{In-Ok}

-- not refused, there are at most sixteen questions and the table is good
passes : (c : In-Ok) → let a = c.args in (ltb 16 a.sheet.used ≡ false) × (check_of a.table a.seqs.now a.secs.now ≡ gave tt)
passes c =
    let a = c.args in
    passed (ltb 16 a.sheet.used) (35 ∷ []) _ tt (sym c.judged-asked.ensures ∙ ap told_asked c.in-Ok.is)

pub of-requires : goal.of-requires
of-requires c = (passes c).1

pub answers-back-requires : goal.answers-back-requires
answers-back-requires c = ltb-false _ _ (passes (goal.at.answers-back-requires c).In-Ok).0

pub returns-in-Ok : goal.returns-in-Ok
returns-in-Ok c =
    let a = c.args in (
      c.judged-asked.ensures,
      if_done _ _ _ c.judged-asked.result c.in-Ok.is c.judged-asked.ensures
          (filled-by _ _ _ _ _ _ _ (gives_ts a.table a.seqs.now a.secs.now (passes (goal.at.returns-in-Ok c).In-Ok).1 a.find_opt) (rw (c.of.ensures.0, c.of.ensures.1) at c.answers-back.ensures)),
    )
