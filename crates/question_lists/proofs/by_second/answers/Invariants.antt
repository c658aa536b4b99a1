use Prim.Native.Nat.{◌≤◌}
use Rattle.question_lists.specs.Inner.{FilledSeq}
use Rattle.question_lists.proofs.by_second.answers.Given as goal

abbrev pub invariant-loop-i : goal.invariant-loop-i
invariant-loop-i l = FilledSeq l.pairs.seqs.now l.pairs.secs.now l.find_opt l.keys l.i l.initial.answers l.initial.found l.answers l.found × (l.i ≤ l.m)
