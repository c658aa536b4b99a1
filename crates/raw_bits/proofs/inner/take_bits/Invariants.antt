use Prim.Native.Nat.{◌+◌, ◌-◌, ◌*◌, ◌≤◌, ◌<◌}
use mathlib.Core.Path.{◌≡◌}
use Rattle.raw_bits.specs.Inner.{bits_at}
use Rattle.raw_bits.proofs.inner.take_bits.Given as goal

abbrev pub invariant-loop-k : goal.invariant-loop-k
invariant-loop-k l =
    (l.byte * 8 + l.bit ≡ l.from * 8 + l.first + l.k) × (l.bit < 8) × (l.k ≤ l.width) × (l.v ≡ bits_at l.s (l.from * 8 + l.first) l.k)

abbrev pub decreases-loop-k : goal.decreases-loop-k
decreases-loop-k l = l.width - l.k
