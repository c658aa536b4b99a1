use Rattle.keeping.proofs.Halve.{Halving}
use Rattle.keeping.proofs.inner.keep.Given as goal

abbrev pub invariant-loop-j : goal.invariant-loop-j
invariant-loop-j g l = Halving l.item l.initial.items l.items l.j
