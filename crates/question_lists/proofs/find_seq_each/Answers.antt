use mathlib.Core.Path.{◌≡◌, sym, ◌∙◌, ap}
use mathlib.Core.Bool.{false}
use mathlib.Core.List.{[], ◌∷◌}
use lib.ListN.{length}
use Rattle.order.proofs.Bools.{passed}
use Rattle.told.specs.Told.{gave}
use Rattle.tracker.specs.Table.{check_of}
use Rattle.questions.specs.Asked.{told_asked}
use Rattle.questions.proofs.Good.{gives_seq}
use Rattle.questions.proofs.Left.{if_done}
use Rattle.question_lists.specs.Each.{differ, list_rule}
use Rattle.question_lists.proofs.Fill.{filled-by, as_long}
use Rattle.question_lists.proofs.find_seq_each.Goals as goal
use Rattle.question_lists.proofs.find_seq_each.Goals.{After-judged, In_ok-judged}

-- what is told
by_rule : (c : After-judged) → let a = c.args in
    told_asked c.judged.result ≡ list_rule a.table a.seqs.now a.secs.now (length a.keys.now) (length a.answers.now) (length a.found.now)
by_rule c = rw (← c.differ-differ.ensures) c.judged.ensures

-- not refused, the slices have one length and the table is good
passes : (c : In_ok-judged) → let a = c.args in
    (differ (length a.keys.now) (length a.answers.now) (length a.found.now) ≡ false) × (check_of a.table a.seqs.now a.secs.now ≡ gave tt)
passes c =
    let a = c.args in
    passed (differ (length a.keys.now) (length a.answers.now) (length a.found.now)) (18 ∷ []) _ tt (rw (← c.differ-differ.ensures) (sym c.judged.ensures ∙ ap told_asked c.in_ok-judged.was))

pub of-pairs-requires : goal.of-pairs-requires
of-pairs-requires c = (passes (goal.at.of-pairs-requires c).In_ok-judged).1

pub answers-requires : goal.answers-requires
answers-requires c = as_long _ _ _ (passes (goal.at.answers-requires c).In_ok-judged).0

pub returns : goal.returns
returns c =
    let a = c.args in (
      ap told_asked (sym c.in_ok-judged.was) ∙ by_rule (goal.at.returns c).After-judged,
      if_done _ _ _ c.judged.result c.in_ok-judged.was (by_rule (goal.at.returns c).After-judged)
          (filled-by _ _ _ _ _ _ _ _ _ _ (gives_seq a.table a.seqs.now a.secs.now (passes (goal.at.returns c).In_ok-judged).1 a.find_opt) (rw (c.of-pairs.ensures.0, c.of-pairs.ensures.1) at c.answers.ensures)),
    )
