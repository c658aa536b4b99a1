use Rattle.std.proofs.Common.{◌≤◌, length}
use Rattle.array_filler.proofs.Filling.{Left}
use Rattle.array_filler.proofs.fill.fill.Given as goal

abbrev pub invariant-loop-i : goal.invariant-loop-i
invariant-loop-i g l = (1 ≤ l.i) × (l.fn.part.count ≤ length l.out) × Left g.T.Stored.of_z l.s l.fn.part l.initial.out l.initial.c l.out l.i l.c
