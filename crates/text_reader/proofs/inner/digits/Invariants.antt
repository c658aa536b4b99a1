use Rattle.std.proofs.Common.{length}
use Rattle.text_reader.proofs.Fronts.{SoFar}
use Rattle.text_reader.proofs.inner.digits.Given as goal

abbrev pub invariant-loop-d : goal.invariant-loop-d
invariant-loop-d l = SoFar l.s l.value l.rest

abbrev pub decreases-loop-d : goal.decreases-loop-d
decreases-loop-d l = length l.rest
