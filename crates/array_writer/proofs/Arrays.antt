-- An array, as its writes put it. Assumes nothing.
use Prim.Native.Nat.{ℕ, ◌+◌, ◌*◌, ◌≤◌, ◌<◌}
use mathlib.Core.Path.{◌≡◌, sym, ap, ap₂, ◌∙◌}
use mathlib.Core.List.{List, [], ◌∷◌, ◌++◌, append-nil, map}
use native.Mathlib.Omega.{arith}
use lib.ListN.{length, get_or, length-append}
use lib.Seq.{sets}
use lib.IntN.{ℤ, pos}
use Rattle.bits.specs.Place.{place_of}
use Rattle.bits.specs.declared.Place.{Place}
use Rattle.signed.specs.Signed.{pattern}
use Rattle.bit_lists.specs.BitList.{nat_bits, byte_len}
use Rattle.raw_bits.specs.Inner.{put_list}
use Rattle.gorilla.specs.Format.{codes_bits, values_bits, array_bits, array_bytes}
use Rattle.bit_lists.proofs.Lists.{length-nat_bits, put_append}
use Rattle.gorilla.proofs.Putting.{place-pos}
use Rattle.bit_lists.proofs.Packing.{put_packed, length-packed}
use Rattle.gorilla.proofs.ImageTrip.{bits_array}
use Rattle.code_writer.proofs.Codes.{none_mapped, array_parts, parts_length}

module _ (s : List ℕ) (k : ℕ) (xs : List ℤ) (b : (j : ℕ) → get_or s j 0 < 256) (r : k * 8 + length (array_bits xs) ≤ length s * 8) where
  all_put : put_list s (k * 8) (array_bits xs) ≡ sets s k (array_bytes xs)
  all_put = put_packed s k (array_bits xs) (bits_array xs) b r

-- no value
pub none_put : {A : Type 0} (f : A → ℤ) (xs : List A) (s : List ℕ) (k : ℕ) → ((j : ℕ) → get_or s j 0 < 256) → k * 8 + length (array_bits (map f xs)) ≤ length s * 8
    → (t : List ℕ) → length xs ≡ 0 → t ≡ put_list s (k * 8) (nat_bits 32 0) → t ≡ sets s k (array_bytes (map f xs))
unfolding array_bits values_bits
none_put f [] s k b r t h e = e ∙ ap (put_list s (k * 8)) (sym (append-nil (nat_bits 32 0))) ∙ all_put s k [] b r
none_put f (x ∷ xs) s k b r t h e = absurd (omega (arith, h))

pub none_end : {A : Type 0} (f : A → ℤ) (xs : List A) (k : ℕ) → length xs ≡ 0 → k + 4 ≡ k + length (array_bytes (map f xs))
none_end f xs k h = omega (arith, length-packed (array_bits (map f xs)), none_mapped f xs h)

-- the head, and codes after it
module _ (x : ℤ) (xs : List ℤ) (k : ℕ) where
  pub array_put : (s : List ℕ) → ((j : ℕ) → get_or s j 0 < 256) → k * 8 + length (array_bits (x ∷ xs)) ≤ length s * 8 → (u t : List ℕ) (n y : ℕ) {p : Place} → n ≡ length (x ∷ xs) → y ≡ pattern x
      → p ≡ place_of (k * 8 + 96) → u ≡ put_list s (k * 8) (nat_bits 32 n ++ nat_bits 64 y) → t ≡ put_list u (p.byte * 8 + p.bit) (codes_bits x (pos 0) xs) → t ≡ sets s k (array_bytes (x ∷ xs))
  array_put s b r u t n y {p} m f e g i =
      let C : List ℕ = codes_bits x (pos 0) xs in
      let H : List ℕ = nat_bits 32 n ++ nat_bits 64 y in
      let l : k * 8 + 96 ≡ k * 8 + length H = omega (arith, length-append (nat_bits 32 n) (nat_bits 64 y), length-nat_bits 32 n, length-nat_bits 64 y) in
      i ∙ ap₂ (λ (v : List ℕ) (q : ℕ). put_list v q C) g (place-pos (k * 8 + 96) e ∙ l) ∙ sym (put_append s (k * 8) H C)
      ∙ ap₂ (λ (o z : ℕ). put_list s (k * 8) ((nat_bits 32 o ++ nat_bits 64 z) ++ C)) m f ∙ ap (put_list s (k * 8)) (sym (array_parts x xs)) ∙ all_put s k (x ∷ xs) b r

  -- the byte after them
  pub array_end : {p q : Place} → p ≡ place_of (k * 8 + 96) → q ≡ place_of (p.byte * 8 + p.bit + length (codes_bits x (pos 0) xs)) → byte_len (q.byte * 8 + q.bit) ≡ k + length (array_bytes (x ∷ xs))
  array_end {p} {q} e f =
      let n : ℕ = p.byte * 8 + p.bit + length (codes_bits x (pos 0) xs) in
      omega (arith, place-pos n f, place-pos (k * 8 + 96) e, parts_length x xs, length-packed (array_bits (x ∷ xs)))
