-- Codes of a window: those of one zero bit each, and any other. Assumes nothing.
use Prim.Native.Nat.{ℕ, zero, suc, ◌+◌, ◌-◌, ◌*◌, ◌≤◌, ◌<◌}
use mathlib.Core.Path.{◌≡◌, refl, sym, ap, ap₂, ◌∙◌}
use mathlib.Core.Bool.{Bool, true, false, cond}
use mathlib.Core.List.{List, [], ◌∷◌, ◌++◌}
use native.Mathlib.Nat.{add-zero, not-suc-le-zero}
use native.Mathlib.Numerals.{add-one}
use native.Mathlib.Omega.{arith}
use borrow.Author.Tests.{ltb-true}
use lib.Dec.{ltb}
use lib.ListN.{length, drop, get_or, replicate}
use lib.Seq.{drop-cons}
use lib.IntN.{pos}
use Rattle.raw_bits.specs.Inner.{bit_at}
use Rattle.bits.specs.Place.{pos_of, place_of}
use Rattle.bits.specs.declared.Place.{Place}
use Rattle.bits.proofs.Answers.{pos-place}
use Rattle.bit_lists.specs.BitList.{bits_of}
use Rattle.gorilla.specs.Inner.{shape}
use Rattle.gorilla.specs.Parser.{read, refused, with}
use Rattle.bits.specs.Inner.{bits_from}
use Rattle.gorilla.specs.Reading.{count_ones, read_code, read_codes}
use Rattle.bit_lists.proofs.Lists.{bit_is, length-bits_of}
use Rattle.gorilla.proofs.Taking.{no_bits}
use Rattle.gorilla.proofs.Readers.{shape-next}
use Rattle.code_reader.specs.Inner.{Holds, Zeros, missed, ReadsCode}
use Rattle.code_reader.specs.declared.window.Window.{Window}
use Rattle.std.specs.Prelude.{Ok, Err}
use Rattle.code_reader.specs.declared.code.Code.{Code}
use Rattle.code_reader.specs.declared.missing.Cut.{Cut}

-- ---- n zeros before other bits
zero-code : (all a i : ℕ) (bs : List ℕ) → read (pos 0) bs ≡ read_code all a i (0 ∷ bs)
unfolding read_code count_ones
zero-code all a i bs = rw (no_bits (8 ∷ a ∷ i ∷ 0 ∷ []) bs)

-- the first of them is the code of 0
pub zeros_code : (all a i n : ℕ) (bs : List ℕ) → 0 < n → read (pos 0) (replicate (n - 1) 0 ++ bs) ≡ read_code all a i (replicate n 0 ++ bs)
zeros_code all a i zero bs h = absurd (not-suc-le-zero h)
zeros_code all a i (suc n) bs h = let e : suc n - 1 ≡ n = omega arith in ap (λ (u : ℕ). read (pos 0) (replicate u 0 ++ bs)) e ∙ zero-code all a i (replicate n 0 ++ bs)

-- they are n codes
pub zeros_codes : (all a n k i : ℕ) (bs : List ℕ) → shape (read_codes all a (n + k) i (replicate n 0 ++ bs)) ≡ shape (read_codes all a k (i + n) bs)
zeros_codes all a zero k i bs =
    let e : 0 + k ≡ k = omega arith in
    ap₂ (λ (u v : ℕ). shape (read_codes all a u v bs)) e (sym (add-zero i))
zeros_codes all a (suc n) k i bs =
    let e : suc n + k ≡ suc (n + k) = omega arith in
    let f : i + 1 + n ≡ i + suc n = omega arith in
    ap (λ (u : ℕ). shape (read_codes all a u i (replicate (suc n) 0 ++ bs))) e
    ∙ shape-next all a (n + k) i (replicate (suc n) 0 ++ bs) {d = pos 0} {q = replicate n 0 ++ bs} (zero-code all a i (replicate n 0 ++ bs))
    ∙ zeros_codes all a n k (i + 1) bs ∙ ap (λ (u : ℕ). shape (read_codes all a k u bs)) f

-- those of bytes
zeros_on : (s : List ℕ) (n p : ℕ) → p + n ≤ length s * 8 → ((j : ℕ) → j < n → bit_at s (p + j) ≡ 0) → drop p (bits_of s) ≡ replicate n 0 ++ drop (p + n) (bits_of s)
zeros_on s zero p h z = ap (λ (u : ℕ). drop u (bits_of s)) (sym (add-zero p))
zeros_on s (suc n) p h z =
    let B : List ℕ = bits_of s in
    let k : p < length B = omega (arith, length-bits_of s) in
    let f : p + 1 + n ≡ p + suc n = omega arith in
    let b : get_or B p 0 ≡ 0 = bit_is s p ∙ ap (bit_at s) (sym (add-zero p)) ∙ z 0 (omega arith) in
    drop-cons B p 0 k ∙ ap₂ (λ (u v : ℕ). u ∷ drop v B) b (sym (add-one p))
    ∙ ap (λ (r : List ℕ). 0 ∷ r) (zeros_on s n (p + 1) (omega arith) (λ j l. let w : p + 1 + j ≡ p + suc j = omega arith in ap (bit_at s) w ∙ z (suc j) (omega arith)))
    ∙ ap (λ (u : ℕ). replicate (suc n) 0 ++ drop u B) f

zeros_from : (s : List ℕ) (at q : Place) (n : ℕ) → pos_of (length s) at + n ≤ length s * 8 → pos_of (length s) q ≡ pos_of (length s) at + n
    → ((j : ℕ) → j < n → bit_at s (pos_of (length s) at + j) ≡ 0) → bits_from s at ≡ replicate n 0 ++ bits_from s q
unfolding bits_from
zeros_from s at q n h e z = zeros_on s n (pos_of (length s) at) h z ∙ ap (λ (u : ℕ). replicate n 0 ++ drop u (bits_of s)) (sym e)

-- ---- what a window has at a place
-- a place with bits after it
inside : (len : ℕ) (at : Place) → pos_of len at < len * 8 → (at.byte < len) × (at.bit < 8) × (pos_of len at ≡ at.byte * 8 + at.bit)
unfolding pos_of
inside len at h = go (ltb at.byte len) refl (ltb at.bit 8) refl h
  where
    go : (t : Bool) → ltb at.byte len ≡ t → (u : Bool) → ltb at.bit 8 ≡ u → cond t (cond u (at.byte * 8 + at.bit) (len * 8)) (len * 8) < len * 8
        → (at.byte < len) × (at.bit < 8) × (cond t (cond u (at.byte * 8 + at.bit) (len * 8)) (len * 8) ≡ at.byte * 8 + at.bit)
    go true e true f g = (ltb-true at.byte len e, ltb-true at.bit 8 f, refl)
    go true e false f g = absurd (omega (arith, g))
    go false e u f g = absurd (omega (arith, g))

module _ (s : List ℕ) (at : Place) {w : Window} (h : Holds s (pos_of (length s) at) w) where
  -- n bits on
  module _ (n : ℕ) (k : 0 < n) (l : n ≤ w.have) where
    pub here : (at.byte < length s) × (at.bit < 8) × (pos_of (length s) at ≡ at.byte * 8 + at.bit)
    here = inside (length s) at (omega (arith, h.within))

    on : {q : Place} → q ≡ place_of (at.byte * 8 + at.bit + n) → pos_of (length s) q ≡ pos_of (length s) at + n
    on e =
        let p = here.2 in
        ap (pos_of (length s)) e ∙ ap (λ (u : ℕ). pos_of (length s) (place_of (u + n))) (sym p) ∙ pos-place (length s) (pos_of (length s) at + n) (omega (arith, h.within))

  -- zeros
  pub zeros_on_at : (max n : ℕ) → Zeros w max n → 0 < n → {q : Place} → q ≡ place_of (at.byte * 8 + at.bit + n) → bits_from s at ≡ replicate n 0 ++ bits_from s q
  zeros_on_at max n z k e = zeros_from s at _ n (omega (arith, h.within, z.1)) (on n k z.1 e) (z.2 s (pos_of (length s) at) h)

  -- a code
  pub code_at : (a i : ℕ) (r : Code) → ReadsCode w (Ok r) → {q : Place} → q ≡ place_of (at.byte * 8 + at.bit + r.bits) → read r.diff (bits_from s q) ≡ read_code (length s * 8) a i (bits_from s at)
  unfolding bits_from
  code_at a i r k e = ap (λ (u : ℕ). read r.diff (drop u (bits_of s))) (on r.bits k.0.0 k.0.1 e) ∙ k.1 s (pos_of (length s) at) a i h

  pub code_cut_at : (a i : ℕ) (r : Cut) → ReadsCode w (Err r) → refused (with (missed a i r.missing) (place_of (length s * 8 - r.left))) ≡ read_code (length s * 8) a i (bits_from s at)
  unfolding bits_from
  code_cut_at a i r k = k.1 s (pos_of (length s) at) a i h
