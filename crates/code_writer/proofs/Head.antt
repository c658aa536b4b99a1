-- How an array begins. Assumes nothing.
use Prim.Native.Nat.{ℕ, ◌+◌, ◌*◌}
use mathlib.Core.Path.{◌≡◌, ap, ap₂, ◌∙◌}
use mathlib.Core.List.{List, ◌++◌}
use native.Mathlib.Nat.{add-zero}
use Rattle.bits.specs.Place.{place_of}
use Rattle.bits.specs.declared.Place.{Place}
use Rattle.bit_lists.specs.BitList.{nat_bits}
use Rattle.raw_bits.specs.Inner.{put_list}
use Rattle.bit_lists.proofs.Lists.{two-parts}
use Rattle.gorilla.proofs.Putting.{place-pos}

-- the count and the first value
pub head_put : (s u t : List ℕ) (k n f : ℕ) {p : Place} → p ≡ place_of (k * 8 + 0 + 32) → u ≡ put_list s (k * 8 + 0) (nat_bits 32 n)
    → t ≡ put_list u (p.byte * 8 + p.bit) (nat_bits 64 f) → t ≡ put_list s (k * 8) (nat_bits 32 n ++ nat_bits 64 f)
head_put s u t k n f {p} e g h =
    h ∙ ap₂ (λ (l : List ℕ) (q : ℕ). put_list l q (nat_bits 64 f)) g (place-pos (k * 8 + 0 + 32) e) ∙ two-parts s (k * 8 + 0) 32 n 64 f
    ∙ ap (λ (q : ℕ). put_list s q (nat_bits 32 n ++ nat_bits 64 f)) (add-zero (k * 8))
