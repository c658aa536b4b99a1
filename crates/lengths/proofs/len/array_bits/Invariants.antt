use Rattle.std.proofs.Common.{map, length}
use Rattle.code_writer.proofs.Codes.{Counted}
use Rattle.lengths.proofs.len.array_bits.Given as goal

abbrev pub invariant-loop-value : goal.invariant-loop-value
invariant-loop-value g l = Counted (map g.T.Stored.as_z l.values) l.t l.total (map g.T.Stored.as_z l.rest)

abbrev pub decreases-loop-value : goal.decreases-loop-value
decreases-loop-value g l = length l.rest
