use Prim.Native.Nat.{◌-◌, ◌*◌, ◌≤◌}
use mathlib.Core.Path.{◌≡◌}
use lib.ListN.{length}
use Rattle.gorilla.specs.Array.{array_no}
use Rattle.gorilla.specs.Inner.{shape}
use Rattle.bits.specs.Inner.{bits_from}
use Rattle.gorilla.specs.Reading.{read_codes}
use Rattle.array_reader.proofs.scan.scan.Given as goal

-- what is read from the start is what is read from here on
abbrev pub invariant-loop-i : goal.invariant-loop-i
invariant-loop-i l =
    (1 ≤ l.i) × (shape (read_codes (length l.s * 8) (array_no l.array) (l.count - l.i) l.i (bits_from l.s l.p)) ≡ shape (read_codes (length l.s * 8) (array_no l.array) (l.count - 1) 1 (bits_from l.s l.initial.p)))

abbrev pub decreases-loop-i : goal.decreases-loop-i
decreases-loop-i l = l.count - l.i
