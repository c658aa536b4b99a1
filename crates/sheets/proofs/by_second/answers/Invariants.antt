use Prim.Native.Nat.{◌≤◌}
use Rattle.sheets.specs.Inner.{FilledSeq}
use Rattle.sheets.proofs.by_second.answers.Given as goal

abbrev pub invariant-loop-i : goal.invariant-loop-i
invariant-loop-i l = FilledSeq l.pairs.seqs.now l.pairs.secs.now l.find_opt l.i l.initial.filled l.filled × (l.i ≤ l.used)
