use Rattle.std.proofs.Common.{◌≡◌}
use Rattle.strict.proofs.Small.{Calm}
use Rattle.strict.proofs.calm.calm.Given as goal

abbrev pub invariant-loop-i : goal.invariant-loop-i
invariant-loop-i g l = l.over ≡ 0 → Calm g.T.Stored.as_z l.values l.rest l.i
