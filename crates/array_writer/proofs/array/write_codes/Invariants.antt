use Rattle.std.proofs.Common.{◌+◌, ◌*◌, map, length, pos}
use Rattle.gorilla.specs.Format.{codes_bits}
use Rattle.array_writer.proofs.Holding.{Holding}
use Rattle.array_writer.proofs.array.write_codes.Given as goal

abbrev pub invariant-loop-value : goal.invariant-loop-value
invariant-loop-value g l =
    Holding (codes_bits l.first (pos 0) (map g.T.Stored.as_z l.values)) l.fn.buf (l.fn.at.byte * 8 + l.fn.at.bit) l.buf l.p l.held l.t (map g.T.Stored.as_z l.rest)

abbrev pub decreases-loop-value : goal.decreases-loop-value
decreases-loop-value g l = length l.rest
