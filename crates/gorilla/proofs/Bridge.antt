-- Bits at positions of bytes, and bits taken off the list of their bits. Assumes nothing.
use Prim.Native.Nat.{ℕ, ◌+◌, ◌*◌, ◌≤◌, ◌<◌}
use mathlib.Core.Path.{◌≡◌, ap₂, ◌∙◌}
use mathlib.Core.List.{List}
use native.Mathlib.Omega.{arith}
use lib.ListN.{length, drop, length-drop}
use lib.Seq.{drop-drop}
use Rattle.raw_bits.specs.Inner.{bits_at}
use Rattle.bit_lists.specs.BitList.{bits_of}
use Rattle.bit_lists.proofs.Lists.{length-bits_of}
use Rattle.bit_lists.proofs.Written.{from_at}
use Rattle.gorilla.specs.Parser.{read, refused, take_bits}
use Rattle.gorilla.proofs.Taking.{enough, few}

-- n bits from p on, taken off
module _ (l s : List ℕ) where
  pub take_at : (n p : ℕ) → p + n ≤ length s * 8 → take_bits n l (drop p (bits_of s)) ≡ read (bits_at s p n) (drop (p + n) (bits_of s))
  take_at n p h =
      enough l n (drop p (bits_of s)) (omega (arith, length-drop p (bits_of s), length-bits_of s))
      ∙ ap₂ (λ (u : ℕ) (r : List ℕ). read u r) (from_at s p n h) (drop-drop n p (bits_of s))

  pub take_short : (n p : ℕ) → p ≤ length s * 8 → length s * 8 < p + n → take_bits n l (drop p (bits_of s)) ≡ refused l
  take_short n p g h = few l n (drop p (bits_of s)) (omega (arith, length-drop p (bits_of s), length-bits_of s))
