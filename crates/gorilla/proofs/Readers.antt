-- What a call of `read_bits` says of the readers of bit lists. Assumes nothing.
use Prim.Native.Nat.{ℕ, zero, suc, ◌+◌, ◌-◌, ◌*◌, ◌/◌, ◌%◌, ◌≤◌}
use mathlib.Core.Path.{◌≡◌, refl, sym, ap, ap₂, ◌∙◌}
use mathlib.Core.List.{List, [], ◌∷◌}
use native.Mathlib.Omega.{arith}
use lib.ListN.{length, drop, get_or, length-drop}
use lib.IntN.{ℤ}
use Rattle.gorilla.specs.Rows.{decoded}
use Rattle.gorilla.specs.Rows.{widths}
use Rattle.bits.specs.Place.{pos_of, left_at, place_of}
use Rattle.bits.specs.Read.{read_rule, told_read}
use Rattle.bits.specs.declared.Place.{Place}
use Rattle.std.specs.Prelude.{Ok, Err}
use Rattle.bits.specs.declared.ReadRefusal.TheVariants as rv
use Rattle.bits.proofs.Answers.{given, short, pos_le}
use Rattle.bit_lists.specs.BitList.{bits_of}
use Rattle.bit_lists.proofs.Lists.{length-bits_of}
use Rattle.gorilla.specs.Inner.{shape}
use Rattle.gorilla.specs.Parser.{Read, read, refused, Reader, take_bits, with, item, told_at, and_then}
use Rattle.bits.specs.Inner.{bits_from}
use Rattle.gorilla.specs.Reading.{cut_number, count_ones, read_code, read_codes}
use Rattle.gorilla.proofs.Taking.{one_bit}
use Rattle.gorilla.proofs.Bridge.{take_at, take_short}

-- the bits from a place on are those left there
pub left_from : (s : List ℕ) (at : Place) → length (bits_from s at) ≡ left_at (length s) at
unfolding bits_from
left_from s at = length-drop (pos_of (length s) at) (bits_of s) ∙ ap (λ (u : ℕ). u - pos_of (length s) at) (length-bits_of s)

-- what was read was not refused
pub refused_not_read : {A B : Type 0} {l : List ℕ} {x : A} {bs : List ℕ} → refused l ≡ read x bs → B
refused_not_read h = let z : ◌≡◌ {A = ℕ} 0 1 = cc in absurd (omega arith)

-- an item that was read
pub item_was : {A : Type 0} (all : ℕ) (m : Reader A) (bs : List ℕ) {x : A} {left : List ℕ} → item all m bs ≡ read x left → m bs ≡ read x left
item_was all m bs = go (m bs)
  where
    go : {A : Type 0} (r : Read A) {x : A} {left : List ℕ} → told_at (all - length bs) r ≡ read x left → r ≡ read x left
    go (read y l) h = h
    go (refused l) h = refused_not_read h

-- the place by the bits left
abbrev pub At : ℕ → Place → Type 0
At p r = (r.byte ≡ p / 8) × (r.bit ≡ p % 8)

pub place_is : (p : ℕ) {r : Place} → At p r → r ≡ place_of p
place_is p f = ap₂ {C = Place} (λ (x y : ℕ). record { byte = x; bit = y }) f.0 f.1

place-by : (all : ℕ) (bs : List ℕ) {left : ℕ} {r : Place} → left ≡ length bs → At (all - left) r → place_of (all - length bs) ≡ r
place-by all bs e f = ap (λ (u : ℕ). place_of (all - u)) (sym e) ∙ sym (place_is (all - _) f)

-- an item that is read, and one that is refused: it tells the place r from which on as many bits are left
pub item-read : {A : Type 0} (all : ℕ) (m : Reader A) (bs : List ℕ) {x : A} {r : List ℕ} → m bs ≡ read x r → item all m bs ≡ read x r
item-read all m bs h = ap (told_at (all - length bs)) h

pub item_refused : {A : Type 0} (all : ℕ) (m : Reader A) (bs : List ℕ) {l : List ℕ} {left : ℕ} {r : Place} → m bs ≡ refused l → left ≡ length bs → At (all - left) r
    → item all m bs ≡ refused (with l r)
item_refused {A} all m bs {l} h e f =
    ap (told_at (all - length bs)) h ∙ ap (λ (p : Place). refused (with l p)) (place-by all bs e f)

-- n bits as an item of s
module _ (s : List ℕ) (at : Place) (n : ℕ) (l : List ℕ) where
  pub took : {v : ℕ} {q : Place} → told_read (Ok (v, q)) ≡ read_rule s at n → item (length s * 8) (take_bits n l) (bits_from s at) ≡ read v (bits_from s q)
  unfolding bits_from
  took h =
      let g = given s at n h in
      item-read (length s * 8) (take_bits n l) (bits_from s at)
      (take_at l s n (pos_of (length s) at) g.within ∙ ap₂ (λ (u p : ℕ). read u (drop p (bits_of s))) (sym g.value) (sym g.pos))

  pub ended : {left : ℕ} {r : Place} → told_read (Err (rv.Short left)) ≡ read_rule s at n → At (length s * 8 - left) r
      → item (length s * 8) (take_bits n l) (bits_from s at) ≡ refused (with l r)
  unfolding bits_from
  ended h e =
      let g = short s at n h in
      item_refused (length s * 8) (take_bits n l) (bits_from s at) (take_short l s n (pos_of (length s) at) (pos_le (length s) at) g.0) (g.1 ∙ sym (left_from s at)) e

-- one bit of a prefix
module _ (a i k n : ℕ) where
  pub at_zero : (bs : List ℕ) {b : ℕ} {r : List ℕ} → take_bits 1 [] bs ≡ read b r → b ≡ 0 → count_ones a i (suc k) n bs ≡ read n r
  unfolding take_bits count_ones
  at_zero [] h e = let z : ◌≡◌ {A = ℕ} 0 1 = cc in absurd (omega arith)
  at_zero (zero ∷ bs) h e = let o = one_bit [] 0 bs in cc
  at_zero (suc c ∷ bs) {b} {r} h e = let o = one_bit [] (suc c) bs in let z : suc c ≡ b = cc in absurd (omega arith)

  pub at_one : (bs : List ℕ) {b : ℕ} {r : List ℕ} → take_bits 1 [] bs ≡ read b r → (b ≡ 0 → ⊥) → count_ones a i (suc k) n bs ≡ count_ones a i k (n + 1) r
  unfolding take_bits count_ones
  at_one [] h e = let z : ◌≡◌ {A = ℕ} 0 1 = cc in absurd (omega arith)
  at_one (zero ∷ bs) {b} {r} h e = let o = one_bit [] 0 bs in let z : 0 ≡ b = cc in absurd (e (sym z))
  at_one (suc c ∷ bs) {b} {r} h e = let o = one_bit [] (suc c) bs in let z : bs ≡ r = cc in ap (count_ones a i k (n + 1)) z

  pub at-end : (bs : List ℕ) → take_bits 1 [] bs ≡ refused [] → count_ones a i (suc k) n bs ≡ refused (cut_number n ∷ a ∷ i ∷ [])
  unfolding take_bits count_ones
  at-end [] h = refl
  at-end (zero ∷ bs) h = let o = one_bit [] 0 bs in let z : ◌≡◌ {A = ℕ} 0 1 = cc in absurd (omega arith)
  at-end (suc c ∷ bs) h = let o = one_bit [] (suc c) bs in let z : ◌≡◌ {A = ℕ} 0 1 = cc in absurd (omega arith)

-- a width is at most 32
pub width_most : (n : ℕ) → get_or widths n 0 ≤ 32
width_most zero = omega arith
width_most (suc zero) = omega arith
width_most (suc (suc zero)) = omega arith
width_most (suc (suc (suc zero))) = omega arith
width_most (suc (suc (suc (suc zero)))) = omega arith
width_most (suc (suc (suc (suc (suc n))))) = omega arith

-- ---- one code
module _ (all a i n : ℕ) (bs : List ℕ) where
  pub code_read : {v : ℕ} {r q : List ℕ} → read n r ≡ count_ones a i 4 0 bs → take_bits (get_or widths n 0) (8 ∷ a ∷ i ∷ get_or widths n 0 ∷ []) r ≡ read v q
      → read_code all a i bs ≡ read (decoded (get_or widths n 0) v) q
  unfolding read_code
  code_read h k = rw (← h) (rw k)

  pub code_short : {r : List ℕ} {left : ℕ} → read n r ≡ count_ones a i 4 0 bs
      → take_bits (get_or widths n 0) (8 ∷ a ∷ i ∷ get_or widths n 0 ∷ []) r ≡ refused (8 ∷ a ∷ i ∷ get_or widths n 0 ∷ []) → left ≡ length bs
      → read_code all a i bs ≡ refused (with (8 ∷ a ∷ i ∷ get_or widths n 0 ∷ []) (place_of (all - left)))
  unfolding read_code
  code_short h k e = rw (← h) (rw k (ap (λ (u : ℕ). refused (with (8 ∷ a ∷ i ∷ get_or widths n 0 ∷ []) (place_of (all - u)))) (sym e)))

pub code_cut : (all a i : ℕ) (bs : List ℕ) {l : List ℕ} {left : ℕ} → refused l ≡ count_ones a i 4 0 bs → left ≡ length bs → read_code all a i bs ≡ refused (with l (place_of (all - left)))
unfolding read_code
code_cut all a i bs {l} h e = rw (← h) (ap (λ (u : ℕ). refused (with l (place_of (all - u)))) (sym e))

-- ---- the codes, one after the other
shape_then : {A B : Type 0} (r : Read A) (f : A → B) → shape (and_then r (λ x bs. read (f x) bs)) ≡ shape r
shape_then (read x bs) f = refl
shape_then (refused l) f = refl

module _ (all a k i : ℕ) (bs : List ℕ) where
  pub codes_next : {d : ℤ} {q : List ℕ} → read d q ≡ read_code all a i bs → read_codes all a (suc k) i bs ≡ and_then (read_codes all a k (i + 1) q) (λ ds r. read (d ∷ ds) r)
  unfolding read_codes
  codes_next h = rw (← h)

  pub shape-next : {d : ℤ} {q : List ℕ} → read d q ≡ read_code all a i bs → shape (read_codes all a (suc k) i bs) ≡ shape (read_codes all a k (i + 1) q)
  shape-next {d} {q} h = ap shape (codes_next h) ∙ shape_then (read_codes all a k (i + 1) q) (λ ds. d ∷ ds)

  pub codes_cut : {l : List ℕ} → refused l ≡ read_code all a i bs → read_codes all a (suc k) i bs ≡ refused l
  unfolding read_codes
  codes_cut h = rw (← h)
