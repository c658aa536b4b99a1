use Prim.Native.Nat.{ℕ, ◌+◌, ◌-◌, ◌*◌, ◌/◌, ◌^◌, ◌≤◌, ◌<◌}
use mathlib.Core.Path.{◌≡◌}
use lib.ListN.{length, get_or}
use Rattle.raw_bits.specs.Inner.{put_bits}
use Rattle.raw_bits.proofs.inner.put_bits.Given as goal

abbrev pub invariant-loop-left : goal.invariant-loop-left
invariant-loop-left l =
    (l.left ≤ l.initial.left) × (l.byte * 8 + l.left ≡ l.initial.byte * 8 + l.initial.left) × (length l.buf ≡ length l.initial.buf) × ((j : ℕ) → get_or l.buf j 0 < 256)
    × (l.buf ≡ put_bits l.initial.buf (l.initial.byte * 8) (l.value / 2 ^ l.left) (l.initial.left - l.left)) × (l.initial.byte * 8 + l.initial.left ≤ length l.initial.buf * 8) × (l.initial.left < 64)

abbrev pub decreases-loop-left : goal.decreases-loop-left
decreases-loop-left l = l.left
