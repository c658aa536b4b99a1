-- What was looked over of an array, as its reader reads it. Assumes nothing.
use Prim.Native.Nat.{ℕ, zero, suc, ◌+◌, ◌-◌, ◌*◌, ◌%◌, ◌≤◌}
use mathlib.Core.Path.{◌≡◌, refl, sym, ap, ap₂, ◌∙◌}
use mathlib.Core.Bool.{Bool, true, false, cond}
use mathlib.Core.List.{List, [], ◌∷◌}
use native.Mathlib.Nat.{add-zero}
use native.Mathlib.Omega.{arith}
use borrow.Author.Tests.{ltb-false, eq-eqb, ne_eqb}
use lib.Dec.{ltb, eqb}
use lib.IntN.{ℤ, pos}
use lib.ListN.{length, drop, length-drop, drop_of_length-le}
use lib.Seq.{drop-drop}
use Rattle.bits.specs.Place.{pos_of}
use Rattle.signed.specs.Signed.{signed}
use Rattle.bits.specs.declared.Place.{Place}
use Rattle.bits.proofs.Answers.{pos_le}
use Rattle.bit_lists.specs.BitList.{bits_of, byte_len}
use Rattle.gorilla.specs.Inner.{shape, is_read}
use Rattle.gorilla.specs.Parser.{Read, read, refused, take_bits, item, and_then, read_or, require}
use Rattle.bits.specs.Inner.{bits_from}
use Rattle.gorilla.specs.Reading.{read_code, read_codes, values_after, read_values, read_array, read_part}
use Rattle.bit_lists.proofs.Lists.{length-bits_of}
use Rattle.gorilla.proofs.ImageTrip.{length-after}
use Rattle.array_reader.specs.Inner.{array_at, passed_at, aligned}

-- ---- a scan says what there is to read
shape-read : (r : Read (List ℤ)) {bs : List ℕ} → read tt bs ≡ shape r → r ≡ read (read_or [] r) bs
shape-read (read x cs) h = cc
shape-read (refused l) h = let z : ◌≡◌ {A = ℕ} 0 1 = cc in absurd (omega arith)

shape_is : (r : Read (List ℤ)) {bs : List ℕ} → read tt bs ≡ shape r → is_read r ≡ true
shape_is (read x cs) h = refl
shape_is (refused l) h = let z : ◌≡◌ {A = ℕ} 0 1 = cc in absurd (omega arith)

shape-refused : (r : Read (List ℤ)) {l : List ℕ} → refused l ≡ shape r → r ≡ refused l
shape-refused (read x cs) h = let z : ◌≡◌ {A = ℕ} 0 1 = cc in absurd (omega arith)
shape-refused (refused l) h = cc

-- from a place to the next whole byte
pub align-at : (s : List ℕ) (e : Place) → drop (length (bits_from s e) % 8) (bits_from s e) ≡ drop (byte_len (pos_of (length s) e) * 8) (bits_of s)
unfolding bits_from
align-at s e =
    let p : ℕ = pos_of (length s) e in
    let l = length-drop p (bits_of s) in
    let k : p + length (drop p (bits_of s)) % 8 ≡ byte_len p * 8 = omega (arith, pos_le (length s) e, length-bits_of s) in
    drop-drop (length (drop p (bits_of s)) % 8) p (bits_of s) ∙ ap (λ (u : ℕ). drop u (bits_of s)) k

-- a byte after a place is one of the slice, or its end
pub end-within : (len : ℕ) (e : Place) → byte_len (pos_of len e) ≤ len
end-within len e = omega (arith, pos_le len e)

-- ---- the values, by what was scanned
module _ (s : List ℕ) (a : ℕ) (bs : List ℕ) where
  pub values-found : (n : ℕ) (q e : Place) → 1 ≤ n → {v : ℕ} {f : ℤ} → f ≡ signed v → item (length s * 8) (take_bits 64 (5 ∷ a ∷ [])) bs ≡ read v (bits_from s q)
      → read tt (bits_from s e) ≡ shape (read_codes (length s * 8) a (n - 1) 1 (bits_from s q))
      → read (array_at s a n f q) (drop (byte_len (pos_of (length s) e) * 8) (bits_of s)) ≡ aligned (read_values (length s * 8) a n bs)
  unfolding read_values array_at
  values-found zero q e h i j k = absurd (omega (arith, h))
  values-found (suc m) q e h {v} {f} i j k =
      let o : suc m - 1 ≡ m = omega arith in
      let c : read_codes (length s * 8) a m 1 (bits_from s q) ≡ read (read_or [] (read_codes (length s * 8) a m 1 (bits_from s q))) (bits_from s e) = shape-read (read_codes (length s * 8) a m 1 (bits_from s q)) (rw o at k) in
      rw j
      (ap₂ (λ (x : ℤ) (r : List ℕ). read (x ∷ values_after x (pos 0) (read_or [] (read_codes (length s * 8) a m 1 (bits_from s q)))) r) i (sym (align-at s e))
      ∙ sym (ap (λ (r : Read (List ℤ)). aligned (and_then r (λ ds cs. read (signed v ∷ values_after (signed v) (pos 0) ds) cs))) c))

  pub values_passed : (n : ℕ) (q e : Place) → 1 ≤ n → 8 ≤ length s → read tt (bits_from s e) ≡ shape (read_codes (length s * 8) a (n - 1) 1 (bits_from s q)) → passed_at s a n q
  unfolding passed_at
  values_passed zero q e h l k = tt
  values_passed (suc m) q e h l k = let o : suc m - 1 ≡ m = omega arith in (l, shape_is (read_codes (length s * 8) a m 1 (bits_from s q)) (rw o at k))

  pub values_cut : (n : ℕ) → 1 ≤ n → {v : ℕ} {q : List ℕ} {l : List ℕ} → item (length s * 8) (take_bits 64 (5 ∷ a ∷ [])) bs ≡ read v q → refused l ≡ shape (read_codes (length s * 8) a (n - 1) 1 q)
      → refused l ≡ aligned (read_values (length s * 8) a n bs)
  unfolding read_values
  values_cut zero h j k = absurd (omega (arith, h))
  values_cut (suc m) h {v} {q} {l} j k =
      let o : suc m - 1 ≡ m = omega arith in
      rw j (rw (shape-refused (read_codes (length s * 8) a m 1 q) (rw o at k)))

  pub values_short : (n : ℕ) → 1 ≤ n → {l : List ℕ} → item (length s * 8) (take_bits 64 (5 ∷ a ∷ [])) bs ≡ refused l → refused l ≡ aligned (read_values (length s * 8) a n bs)
  unfolding read_values
  values_short zero h j = absurd (omega (arith, h))
  values_short (suc m) h j = rw j

-- ---- the count
module _ (all a : ℕ) (room : ℕ → Bool) (bs : List ℕ) where
  pub array_some : {n : ℕ} {q : List ℕ} → item all (take_bits 32 (4 ∷ a ∷ [])) bs ≡ read n q → room n ≡ true → read_array all a room bs ≡ read_values all a n q
  unfolding read_array
  array_some h k = rw h (rw k)

  pub array_many : {n : ℕ} {q : List ℕ} → item all (take_bits 32 (4 ∷ a ∷ [])) bs ≡ read n q → room n ≡ false → read_array all a room bs ≡ refused (10 ∷ a ∷ [])
  unfolding read_array
  array_many h k = rw h (rw k)

  pub array_cut : {l : List ℕ} → item all (take_bits 32 (4 ∷ a ∷ [])) bs ≡ refused l → read_array all a room bs ≡ refused l
  unfolding read_array
  array_cut h = rw h

-- a whole byte as a place
pub from_byte : (s : List ℕ) (n : ℕ) → bits_from s (record { byte = n; bit = 0 }) ≡ drop (n * 8) (bits_of s)
unfolding bits_from pos_of
from_byte s n = go (ltb n (length s)) refl
  where
    go : (t : Bool) → ltb n (length s) ≡ t → drop (cond t (n * 8 + 0) (length s * 8)) (bits_of s) ≡ drop (n * 8) (bits_of s)
    go true e = ap (λ (u : ℕ). drop u (bits_of s)) (add-zero (n * 8))
    go false e =
        let k : length s ≤ n = ltb-false n (length s) e in
        let l : length (bits_of s) ≤ length s * 8 = omega (arith, length-bits_of s) in
        let m : length (bits_of s) ≤ n * 8 = omega arith in
        drop_of_length-le (bits_of s) l ∙ sym (drop_of_length-le (bits_of s) m)

-- an array of no values
pub none_found : (all : ℕ) (s : List ℕ) (a n : ℕ) (p : Place) (f : ℤ) → n ≡ 0 → read (array_at s a 0 f p) (drop (byte_len (pos_of (length s) p) * 8) (bits_of s)) ≡ aligned (read_values all a n (bits_from s p))
unfolding read_values array_at
none_found all s a zero p f e = ap (read []) (sym (align-at s p))
none_found all s a (suc n) p f e = absurd (omega arith)

-- ---- one array of an image

-- as many differences are read as there are codes
codes_length : (all a k i : ℕ) (bs : List ℕ) → is_read (read_codes all a k i bs) ≡ true → length (read_or [] (read_codes all a k i bs)) ≡ k
unfolding read_codes
codes_length all a zero i bs h = refl
codes_length all a (suc k) i bs h = go (read_code all a i bs) h (λ r. codes_length all a k (i + 1) r)
  where
    last : (d : ℤ) (r : Read (List ℤ)) → is_read (and_then r (λ ds cs. read (d ∷ ds) cs)) ≡ true → (is_read r ≡ true → length (read_or [] r) ≡ k)
        → length (read_or [] (and_then r (λ ds cs. read (d ∷ ds) cs))) ≡ suc k
    last d (read ds cs) g f = ap suc (f refl)
    last d (refused l) g f = let z : ◌≡◌ {A = ℕ} 0 1 = cc in absurd (omega arith)

    go : (c : Read ℤ) → is_read (and_then c (λ d r. and_then (read_codes all a k (i + 1) r) (λ ds cs. read (d ∷ ds) cs))) ≡ true
        → ((r : List ℕ) → is_read (read_codes all a k (i + 1) r) ≡ true → length (read_or [] (read_codes all a k (i + 1) r)) ≡ k)
        → length (read_or [] (and_then c (λ d r. and_then (read_codes all a k (i + 1) r) (λ ds cs. read (d ∷ ds) cs)))) ≡ suc k
    go (read d r) g f = last d (read_codes all a k (i + 1) r) g (f r)
    go (refused l) g f = let z : ◌≡◌ {A = ℕ} 0 1 = cc in absurd (omega arith)

pub array_length : (s : List ℕ) (a n : ℕ) (f : ℤ) (q : Place) → passed_at s a n q → length (array_at s a n f q) ≡ n
unfolding array_at passed_at
array_length s a zero f q h = refl
array_length s a (suc k) f q h = ap suc (length-after f (pos 0) _ ∙ codes_length (length s * 8) a k 1 (bits_from s q) h.1)

module _ (all a : ℕ) (room : ℕ → Bool) (n : ℕ) (bs : List ℕ) where
  pub part-found : {xs : List ℤ} {r : List ℕ} → read xs r ≡ aligned (read_array all a room bs) → length xs ≡ n → read_part all a room n bs ≡ read xs r
  unfolding read_part
  part-found {xs} {r} h e = go (read_array all a room bs) h
    where
      go : (t : Read (List ℤ)) → read xs r ≡ aligned t
          → and_then t (λ ys cs. and_then (require (eqb (length ys) n) (9 ∷ a ∷ []) cs) (λ u ds. read ys (drop (length ds % 8) ds))) ≡ read xs r
      go (read ys cs) g = let y : xs ≡ ys = cc in let l : length ys ≡ n = ap length (sym y) ∙ e in rw (eq-eqb (length ys) n l) (sym g)
      go (refused l) g = let z : ◌≡◌ {A = ℕ} 0 1 = cc in absurd (omega arith)

  pub part_differs : {xs : List ℤ} {r : List ℕ} → read xs r ≡ aligned (read_array all a room bs) → (length xs ≡ n → ⊥) → read_part all a room n bs ≡ refused (9 ∷ a ∷ [])
  unfolding read_part
  part_differs {xs} {r} h e = go (read_array all a room bs) h
    where
      go : (t : Read (List ℤ)) → read xs r ≡ aligned t
          → and_then t (λ ys cs. and_then (require (eqb (length ys) n) (9 ∷ a ∷ []) cs) (λ u ds. read ys (drop (length ds % 8) ds))) ≡ refused (9 ∷ a ∷ [])
      go (read ys cs) g = let y : xs ≡ ys = cc in rw (ne_eqb (length ys) n (λ l. e (ap length y ∙ l)))
      go (refused l) g = let z : ◌≡◌ {A = ℕ} 0 1 = cc in absurd (omega arith)

  pub part-refused : {l : List ℕ} → refused l ≡ aligned (read_array all a room bs) → read_part all a room n bs ≡ refused l
  unfolding read_part
  part-refused {l} h = go (read_array all a room bs) h
    where
      go : (t : Read (List ℤ)) → refused l ≡ aligned t
          → and_then t (λ ys cs. and_then (require (eqb (length ys) n) (9 ∷ a ∷ []) cs) (λ u ds. read ys (drop (length ds % 8) ds))) ≡ refused l
      go (read ys cs) g = let z : ◌≡◌ {A = ℕ} 0 1 = cc in absurd (omega arith)
      go (refused m) g = sym g

-- ---- an array that is read has found room
values_length : (all a n : ℕ) (q : List ℕ) {xs : List ℤ} {r : List ℕ} → read xs r ≡ aligned (read_values all a n q) → length xs ≡ n
unfolding read_values
values_length all a zero q {xs} {r} h = let e : xs ≡ [] = cc in ap length e
values_length all a (suc k) q {xs} {r} h = go (item all (take_bits 64 (5 ∷ a ∷ [])) q) h
  where
    last : (x : ℤ) (t : Read (List ℤ)) → (is_read t ≡ true → length (read_or [] t) ≡ k) → read xs r ≡ aligned (and_then t (λ ds cs. read (x ∷ values_after x (pos 0) ds) cs)) → length xs ≡ suc k
    last x (read ds cs) f g = let e : xs ≡ x ∷ values_after x (pos 0) ds = cc in ap length e ∙ ap suc (length-after x (pos 0) ds ∙ f refl)
    last x (refused l) f g = let z : ◌≡◌ {A = ℕ} 0 1 = cc in absurd (omega arith)

    go : (t : Read ℕ) → read xs r ≡ aligned (and_then t (λ v cs. and_then (read_codes all a k 1 cs) (λ ds ws. read (signed v ∷ values_after (signed v) (pos 0) ds) ws))) → length xs ≡ suc k
    go (read v cs) g = last (signed v) (read_codes all a k 1 cs) (codes_length all a k 1 cs) g
    go (refused l) g = let z : ◌≡◌ {A = ℕ} 0 1 = cc in absurd (omega arith)

pub array_room : (all a : ℕ) (room : ℕ → Bool) (bs : List ℕ) {xs : List ℤ} {r : List ℕ} → read xs r ≡ aligned (read_array all a room bs) → room (length xs) ≡ true
unfolding read_array
array_room all a room bs {xs} {r} h = go (item all (take_bits 32 (4 ∷ a ∷ [])) bs) h
  where
    by_room : (n : ℕ) (q : List ℕ) (t : Bool) → room n ≡ t → read xs r ≡ aligned (and_then (require t (10 ∷ a ∷ []) q) (λ u. read_values all a n)) → room (length xs) ≡ true
    by_room n q true e g = ap room (values_length all a n q g) ∙ e
    by_room n q false e g = let z : ◌≡◌ {A = ℕ} 0 1 = cc in absurd (omega arith)

    go : (t : Read ℕ) → read xs r ≡ aligned (and_then t (λ n cs. and_then (require (room n) (10 ∷ a ∷ []) cs) (λ u. read_values all a n))) → room (length xs) ≡ true
    go (read n cs) g = by_room n cs (room n) refl g
    go (refused l) g = let z : ◌≡◌ {A = ℕ} 0 1 = cc in absurd (omega arith)

-- an array of a count that is not 0
pub array_first : (s : List ℕ) (a n : ℕ) (f : ℤ) (q : Place) → 1 ≤ n → array_at s a n f q ≡ f ∷ values_after f (pos 0) (read_or [] (read_codes (length s * 8) a (n - 1) 1 (bits_from s q)))
unfolding array_at
array_first s a zero f q h = absurd (omega (arith, h))
array_first s a (suc k) f q h = let o : k ≡ suc k - 1 = omega arith in ap (λ (u : ℕ). f ∷ values_after f (pos 0) (read_or [] (read_codes (length s * 8) a u 1 (bits_from s q)))) o

pub passed_first : (s : List ℕ) (a n : ℕ) (q : Place) → 1 ≤ n → passed_at s a n q → is_read (read_codes (length s * 8) a (n - 1) 1 (bits_from s q)) ≡ true
unfolding passed_at
passed_first s a zero q h p = absurd (omega (arith, h))
passed_first s a (suc k) q h p = let o : suc k - 1 ≡ k = omega arith in ap (λ (u : ℕ). is_read (read_codes (length s * 8) a u 1 (bits_from s q))) o ∙ p.1

pub passed_long : (s : List ℕ) (a n : ℕ) (q : Place) → 1 ≤ n → passed_at s a n q → 8 ≤ length s
unfolding passed_at
passed_long s a zero q h p = absurd (omega (arith, h))
passed_long s a (suc k) q h p = p.0

pub array_none : (s : List ℕ) (a n : ℕ) (f : ℤ) (q : Place) → n ≡ 0 → array_at s a n f q ≡ []
unfolding array_at
array_none s a zero f q h = refl
array_none s a (suc k) f q h = absurd (omega arith)
