use Rattle.std.proofs.Common.{map}
use Rattle.code_writer.proofs.Runs.{Zeros, left}
use Rattle.code_writer.proofs.run.take_run.Given as goal

abbrev pub invariant-loop-value : goal.invariant-loop-value
invariant-loop-value g l = Zeros (map g.T.Stored.as_z l.values) l.t l.value-index l.v (left g.T.Stored.as_z l.run l.rest l.value-index)
