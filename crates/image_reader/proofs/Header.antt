-- The header of an image, and its two arrays. Assumes nothing.
use Prim.Native.Nat.{ℕ, ◌+◌, ◌*◌, ◌≤◌, ◌<◌}
use mathlib.Core.Path.{◌≡◌, refl, ap, ◌∙◌}
use mathlib.Core.Bool.{Bool, true, false}
use mathlib.Core.List.{List, [], ◌∷◌, map}
use native.Mathlib.Omega.{arith}
use borrow.Author.Tests.{ltb-true, ltb-false, eq-eqb, ne_eqb}
use lib.Dec.{ltb}
use lib.IntN.{ℤ}
use lib.ListN.{length, get_or, drop}
use Rattle.signed.specs.Signed.{pattern}
use Rattle.raw_bits.proofs.Bits.{one_byte}
use Rattle.bit_lists.specs.BitList.{bits_of}
use Rattle.gorilla.specs.Parser.{read, refused, take_bits}
use Rattle.gorilla.specs.Reading.{read_part, le_count, read_arrays, read_pairs, read_image}
use Rattle.gorilla.proofs.Bridge.{take_at, take_short}
use Rattle.image_reader.specs.Inner.{HeaderCount}

-- one byte of the header
byte_at : (l s : List ℕ) (j : ℕ) → j < length s → get_or s j 0 < 256 → take_bits 8 l (drop (j * 8) (bits_of s)) ≡ read (get_or s j 0) (drop (j * 8 + 8) (bits_of s))
byte_at l s j h b =
    take_at l s 8 (j * 8) (omega arith) ∙ ap (λ (u : ℕ). read u (drop (j * 8 + 8) (bits_of s))) (one_byte s j b)

module _ (room : ℕ → Bool) (s : List ℕ) (b : (j : ℕ) → get_or s j 0 < 256) where
  pub head_empty : length s ≡ 0 → read_image room s ≡ refused (1 ∷ [])
  unfolding read_pairs
  head_empty h = rw (take_short (1 ∷ []) s 8 0 (omega arith) (omega arith))

  pub head_version : 0 < length s → (get_or s 0 0 ≡ 1 → ⊥) → read_image room s ≡ refused (2 ∷ get_or s 0 0 ∷ [])
  unfolding read_pairs
  head_version h k = rw (byte_at (1 ∷ []) s 0 h (b 0)) (rw (ne_eqb (get_or s 0 0) 1 k))

  pub le_is : 5 ≤ length s → HeaderCount s (get_or s 1 0 + 256 * (get_or s 2 0 + 256 * (get_or s 3 0 + 256 * get_or s 4 0)))
  unfolding le_count
  le_is h =
      rw (byte_at (3 ∷ []) s 1 (omega arith) (b 1)) (rw (byte_at (3 ∷ []) s 2 (omega arith) (b 2)) (rw (byte_at (3 ∷ []) s 3 (omega arith) (b 3)) (rw (byte_at (3 ∷ []) s 4 (omega arith) (b 4)) refl)))

  pub head_is : (n : ℕ) → 5 ≤ length s → get_or s 0 0 ≡ 1 → HeaderCount s n → read_image room s ≡ read_arrays (length s * 8) room n (drop 40 (bits_of s))
  unfolding read_pairs
  head_is n h k e = rw (byte_at (1 ∷ []) s 0 (omega arith) (b 0)) (rw (eq-eqb (get_or s 0 0) 1 k) (rw e refl))

  le_short : (l : List ℕ) → 0 < length s → length s < 5 → le_count l (drop 8 (bits_of s)) ≡ refused l
  unfolding le_count
  le_short l h k = go₁ (ltb 1 (length s)) refl
    where
      go₃ : (t : Bool) → ltb 3 (length s) ≡ t → 2 < length s → le_count l (drop 8 (bits_of s)) ≡ refused l
      go₃ true e m =
          let i : 3 < length s = ltb-true 3 (length s) e in
          rw (byte_at l s 1 (omega arith) (b 1)) (rw (byte_at l s 2 (omega arith) (b 2)) (rw (byte_at l s 3 (omega arith) (b 3)) (rw (take_short l s 8 32 (omega arith) (omega arith)))))
      go₃ false e m =
          let i : length s ≤ 3 = ltb-false 3 (length s) e in
          rw (byte_at l s 1 (omega arith) (b 1)) (rw (byte_at l s 2 (omega arith) (b 2)) (rw (take_short l s 8 24 (omega arith) (omega arith))))

      go₂ : (t : Bool) → ltb 2 (length s) ≡ t → 1 < length s → le_count l (drop 8 (bits_of s)) ≡ refused l
      go₂ true e m = go₃ (ltb 3 (length s)) refl (ltb-true 2 (length s) e)
      go₂ false e m =
          let i : length s ≤ 2 = ltb-false 2 (length s) e in
          rw (byte_at l s 1 (omega arith) (b 1)) (rw (take_short l s 8 16 (omega arith) (omega arith)))

      go₁ : (t : Bool) → ltb 1 (length s) ≡ t → le_count l (drop 8 (bits_of s)) ≡ refused l
      go₁ true e = go₂ (ltb 2 (length s)) refl (ltb-true 1 (length s) e)
      go₁ false e =
          let i : length s ≤ 1 = ltb-false 1 (length s) e in
          rw (take_short l s 8 8 (omega arith) (omega arith))

  pub head_short : 0 < length s → length s < 5 → get_or s 0 0 ≡ 1 → read_image room s ≡ refused (3 ∷ [])
  unfolding read_pairs
  head_short h k e = rw (byte_at (1 ∷ []) s 0 h (b 0)) (rw (eq-eqb (get_or s 0 0) 1 e) (rw (le_short (3 ∷ []) h k)))

-- both arrays, one after the other
module _ (all : ℕ) (room : ℕ → Bool) (n : ℕ) (bs : List ℕ) where
  pub arrays-found : {xs ys : List ℤ} {r t : List ℕ} → read_part all 0 room n bs ≡ read xs r → read_part all 1 room n r ≡ read ys t
      → read_arrays all room n bs ≡ read (record { seqs = map pattern xs; secs = ys }) t
  arrays-found p q = rw p (rw q)

  pub first-refused : {l : List ℕ} → read_part all 0 room n bs ≡ refused l → read_arrays all room n bs ≡ refused l
  first-refused p = rw p

  pub second-refused : {xs : List ℤ} {r l : List ℕ} → read_part all 0 room n bs ≡ read xs r → read_part all 1 room n r ≡ refused l → read_arrays all room n bs ≡ refused l
  second-refused p q = rw p (rw q)
