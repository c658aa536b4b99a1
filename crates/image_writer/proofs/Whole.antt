-- The buffer that the parts of an image are written into. Assumes nothing.
use Prim.Native.Nat.{ℕ, suc, ◌+◌, ◌≤◌}
use mathlib.Core.Path.{◌≡◌, sym, ap, ap₂, ◌∙◌}
use mathlib.Core.List.{List, [], ◌∷◌, ◌++◌, map}
use native.Mathlib.Nat.{add-zero, zero-add}
use native.Mathlib.Omega.{arith}
use lib.ListN.{length, set, drop, length-append}
use lib.Seq.{sets, sets-eq}
use lib.IntN.{ℤ}
use Rattle.told.specs.Over.{over}
use Rattle.signed.specs.Signed.{signed}
use Rattle.gorilla.specs.Format.{array_bytes, le_bytes, image_bytes}

-- bytes written one after the other
sets_append : (s : List ℕ) (i : ℕ) (a b : List ℕ) → sets s i (a ++ b) ≡ sets (sets s i a) (i + length a) b
sets_append s i [] b = ap (λ (k : ℕ). sets s k b) (sym (add-zero i))
sets_append s i (x ∷ a) b =
    let e : suc i + length a ≡ i + suc (length a) = omega arith in
    sets_append (set s i x) (suc i) a b ∙ ap (λ (k : ℕ). sets (sets (set s i x) (suc i) a) k b) e

sets_over : (l s : List ℕ) → length l ≤ length s → sets s 0 l ≡ over l s
sets_over l s h = sets-eq l s 0 (omega arith) ∙ ap (λ (k : ℕ). l ++ drop k s) (zero-add (length l))

-- the header, the sequences, the seconds
pub image_put : (seqs : List ℕ) (secs : List ℤ) (s u v w : List ℕ) (e : ℕ) → length (image_bytes seqs secs) ≤ length s
    → u ≡ sets s 0 (1 ∷ le_bytes 4 (length seqs)) → v ≡ sets u 5 (array_bytes (map signed seqs)) → e ≡ 5 + length (array_bytes (map signed seqs))
    → w ≡ sets v e (array_bytes secs) → w ≡ over (image_bytes seqs secs) s
unfolding image_bytes le_bytes
image_put seqs secs s u v w e h f g k j =
    let H : List ℕ = 1 ∷ le_bytes 4 (length seqs) in
    let A : List ℕ = array_bytes (map signed seqs) in
    let B : List ℕ = array_bytes secs in
    let l : 5 + length A ≡ 0 + length (H ++ A) = omega (arith, length-append H A) in
    j ∙ ap₂ (λ (x : List ℕ) (y : ℕ). sets x y B) (g ∙ ap (λ (x : List ℕ). sets x 5 A) f ∙ sym (sets_append s 0 H A)) (k ∙ l)
    ∙ sym (sets_append s 0 (H ++ A) B) ∙ sets_over (H ++ A ++ B) s h
