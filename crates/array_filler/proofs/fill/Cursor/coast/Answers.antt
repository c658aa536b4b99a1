use Prim.Native.Nat.{◌*◌}
use lib.ListN.{length}
use lib.IntN.{pos}
use Rattle.bits.specs.Inner.{bits_from}
use Rattle.array_reader.proofs.Runs.{zeros_code}
use Rattle.array_filler.proofs.fill.Cursor.coast.Goals as goal

pub returns : goal.returns
returns c =
    λ xs a i. (pos 0, zeros_code (length xs * 8) a i c.args.self.zeros (bits_from xs c.args.self.at) c.requires, c.follow.ensures)
