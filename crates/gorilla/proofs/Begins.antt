-- The item that is missing begins at the place that a refusal tells: what stands before it is read. Assumes nothing.
use Prim.Native.Nat.{ℕ, zero, suc, ◌+◌, ◌-◌, ◌*◌, ◌≤◌}
use mathlib.Core.Path.{◌≡◌, refl, sym, ap, ap₂, ◌∙◌, subst}
use mathlib.Core.Bool.{Bool, true, false}
use mathlib.Core.List.{List, [], ◌∷◌, map}
use native.Mathlib.Nat.{add-zero}
use native.Mathlib.Omega.{arith}
use lib.Dec.{eqb}
use lib.ListN.{length, get_or, drop, length-drop}
use lib.IntN.{ℤ, pos}
use Rattle.signed.specs.Signed.{signed, pattern}
use Rattle.bit_lists.specs.BitList.{bits_of}
use Rattle.bit_lists.proofs.Lists.{length-bits_of}
use Rattle.bits.specs.Place.{place_of}
use Rattle.bits.specs.declared.Place.{Place}
use Rattle.gorilla.specs.Rows.{widths}
use Rattle.gorilla.specs.Parser.{read, refused, Reader, and_then, ◌>>=◌, give, require, take_bits, with, item, align}
use Rattle.gorilla.specs.Reading.{cut_number, count_ones, read_code, read_codes, values_after, read_values, read_array, le_count, read_part, Pairs, read_arrays, read_pairs}
use Rattle.gorilla.specs.Stops.{TellsPlace, before_count, before_first, before_code, Begins, BeginsThere, OnePlace}
use Rattle.gorilla.specs.Stops as begins
use Rattle.gorilla.proofs.Readers.{refused_not_read, codes_next}
use Rattle.gorilla.proofs.Stops.{short_of, item_of, Either, earlier, later, either, diff_as, diff_of, Last, p, place_in, bits_on_lem, plain_halts, values_halt, count_halts, header_halts, part_halts}

-- l names k, and tells the place with bs left
abbrev Told : ℕ → List ℕ → List ℕ → List ℕ → Type 0
Told all bs l k = l ≡ with k (place_of (all - length bs))

-- ---- one code
-- k names the code of index i of array a
record Names (a i : ℕ) (k : List ℕ) : Type 0 where
  number : ℕ
  more : List ℕ
  six : 6 ≤ number
  is : k ≡ number ∷ a ∷ i ∷ more

cut_number_lem : (t : ℕ) → 6 ≤ cut_number t
unfolding cut_number
cut_number_lem zero = omega arith
cut_number_lem (suc t) = omega arith

ones_name : (a i k n : ℕ) (bs : List ℕ) {l : List ℕ} → count_ones a i k n bs ≡ refused l → Names a i l
unfolding count_ones
ones_name a i zero n bs h = refused_not_read (sym h)
ones_name a i (suc k) n [] h = record { number = cut_number n; more = []; six = cut_number_lem n; is = cc }
ones_name a i (suc k) n (zero ∷ bs) h = refused_not_read (sym h)
ones_name a i (suc k) n (suc c ∷ bs) h = ones_name a i k (n + 1) bs h

diff_name : (a i n : ℕ) (rest : List ℕ) {k : List ℕ} → diff_of a i n rest ≡ refused k → Names a i k
diff_name a i n rest {k} h = go (get_or widths n 0) (either (take_bits (get_or widths n 0) (8 ∷ a ∷ i ∷ get_or widths n 0 ∷ []) rest) (diff_as n) h)
  where
    go : (w : ℕ) → Either (take_bits w (8 ∷ a ∷ i ∷ w ∷ []) rest) (diff_as n) k → Names a i k
    go w (earlier g) = record { number = 8; more = w ∷ []; six = omega arith; is = (short_of w (8 ∷ a ∷ i ∷ w ∷ []) rest g).0 }
    go w (later v q g e) = refused_not_read (sym e)

code-named : (all a i : ℕ) (bs : List ℕ) {l : List ℕ} → read_code all a i bs ≡ refused l → (k : List ℕ) × Names a i k × Told all bs l k
unfolding read_code
code-named all a i bs h =
    let r = item_of all (◌>>=◌ (count_ones a i 4 0) (diff_of a i)) bs h in
    (r.0, go r.0 (either (count_ones a i 4 0 bs) (diff_of a i) r.1), r.2)
  where
    go : (k : List ℕ) → Either (count_ones a i 4 0 bs) (diff_of a i) k → Names a i k
    go k (earlier f) = ones_name a i 4 0 bs f
    go k (later n rest f g) = diff_name a i n rest g

-- ---- the codes of an array: j are read, and the next is not
record CodeAt (all a i : ℕ) (bs l : List ℕ) : Type 0 where
  j : ℕ
  ds : List ℤ
  left : List ℕ
  before : read_codes all a j i bs ≡ read ds left
  k : List ℕ
  names : Names a (i + j) k
  told : Told all left l k

codes_at : (all a n i : ℕ) (bs l : List ℕ) → read_codes all a n i bs ≡ refused l → CodeAt all a i bs l
unfolding read_codes
codes_at all a zero i bs l h = refused_not_read (sym h)
codes_at all a (suc n) i bs l h = go (λ mid e. codes_at all a n (i + 1) mid l e) (either (read_code all a i bs) _ h)
  where
    on : (d : ℤ) (mid : List ℕ) → read_code all a i bs ≡ read d mid → CodeAt all a (i + 1) mid l → CodeAt all a i bs l
    on d mid f c =
        let e : i + 1 + c.j ≡ i + suc c.j = omega arith in
        record {
          j = suc c.j;
          ds = d ∷ c.ds;
          left = c.left;
          before = codes_next all a c.j i bs (sym f) ∙ ap (λ r. and_then r (λ ds q. read (d ∷ ds) q)) c.before;
          k = c.k;
          names = subst (λ (u : ℕ). Names a u c.k) e c.names;
          told = c.told;
        }

    rest : (d : ℤ) (mid : List ℕ) → read_code all a i bs ≡ read d mid → ((mid : List ℕ) → read_codes all a n (i + 1) mid ≡ refused l → CodeAt all a (i + 1) mid l)
        → Either (read_codes all a n (i + 1) mid) (λ ds. give (d ∷ ds)) l → CodeAt all a i bs l
    rest d mid f again (earlier e) = on d mid f (again mid e)
    rest d mid f again (later ds q e g) = refused_not_read (sym g)

    go : ((mid : List ℕ) → read_codes all a n (i + 1) mid ≡ refused l → CodeAt all a (i + 1) mid l)
        → Either (read_code all a i bs) (λ d. ◌>>=◌ (read_codes all a n (i + 1)) (λ ds. give (d ∷ ds))) l → CodeAt all a i bs l
    go again (earlier f) =
        let c = code-named all a i bs f in
        record { j = 0; ds = []; left = bs; before = refl; k = c.0; names = subst (λ (u : ℕ). Names a u c.0) (sym (add-zero i)) c.1; told = c.2 }
    go again (later d mid f g) = rest d mid f again (either (read_codes all a n (i + 1) mid) (λ ds. give (d ∷ ds)) g)

-- ---- one array, from bs on: the item that is missing, and what is read before it
data ItemAt (all a : ℕ) (bs l : List ℕ) : Type 0 where
  count : Told all bs l (4 ∷ a ∷ []) → ItemAt all a bs l
  first : (n : ℕ) (mid : List ℕ) → item all (take_bits 32 (4 ∷ a ∷ [])) bs ≡ read n mid → Told all mid l (5 ∷ a ∷ []) → ItemAt all a bs l
  code : (n i : ℕ) (mid left k : List ℕ) (xs : List ℤ) → item all (take_bits 32 (4 ∷ a ∷ [])) bs ≡ read n mid → read_values all a i mid ≡ read xs left
      → Names a i k → Told all left l k → ItemAt all a bs l

-- an item of so many bits
bits_told : (all n : ℕ) (k bs l : List ℕ) → item all (take_bits n k) bs ≡ refused l → Told all bs l k
bits_told all n k bs l h =
    let r = item_of all (take_bits n k) bs h in
    r.2 ∙ ap (λ (u : List ℕ). with u (place_of (all - length bs))) (short_of n k bs r.1).0

module _ (all a : ℕ) (bs l : List ℕ) where
  values-at : (n m : ℕ) (mid : List ℕ) → item all (take_bits 32 (4 ∷ a ∷ [])) bs ≡ read n mid → read_values all a m mid ≡ refused l → ItemAt all a bs l
  unfolding read_values
  values-at n zero mid c h = refused_not_read (sym h)
  values-at n (suc m) mid c h = go (either (item all (take_bits 64 (5 ∷ a ∷ [])) mid) (λ v. ◌>>=◌ (read_codes all a m 1) (λ ds. give (signed v ∷ values_after (signed v) (pos 0) ds))) h)
    where
      on : (v : ℕ) (q : List ℕ) → item all (take_bits 64 (5 ∷ a ∷ [])) mid ≡ read v q → CodeAt all a 1 q l → ItemAt all a bs l
      on v q f t =
          let e : 1 + t.j ≡ suc t.j = omega arith in
          code n (suc t.j) mid t.left t.k (signed v ∷ values_after (signed v) (pos 0) t.ds) c (rw f (rw t.before)) (subst (λ (u : ℕ). Names a u t.k) e t.names) t.told

      rest : (v : ℕ) (q : List ℕ) → item all (take_bits 64 (5 ∷ a ∷ [])) mid ≡ read v q
          → Either (read_codes all a m 1 q) (λ ds. give (signed v ∷ values_after (signed v) (pos 0) ds)) l → ItemAt all a bs l
      rest v q f (earlier g) = on v q f (codes_at all a m 1 q l g)
      rest v q f (later ds r g e) = refused_not_read (sym e)

      go : Either (item all (take_bits 64 (5 ∷ a ∷ [])) mid) (λ v. ◌>>=◌ (read_codes all a m 1) (λ ds. give (signed v ∷ values_after (signed v) (pos 0) ds))) l → ItemAt all a bs l
      go (earlier f) = first n mid c (bits_told all 64 (5 ∷ a ∷ []) mid l f)
      go (later v q f g) = rest v q f (either (read_codes all a m 1 q) (λ ds. give (signed v ∷ values_after (signed v) (pos 0) ds)) g)

  array_at : (room : ℕ → Bool) → read_array all a room bs ≡ refused l → TellsPlace l → ItemAt all a bs l
  unfolding read_array
  array_at room h t = go (either (item all (take_bits 32 (4 ∷ a ∷ [])) bs) _ h)
    where
      rest : (n : ℕ) (mid : List ℕ) (b : Bool) → item all (take_bits 32 (4 ∷ a ∷ [])) bs ≡ read n mid
          → and_then (require b (10 ∷ a ∷ []) mid) (λ u. read_values all a n) ≡ refused l → ItemAt all a bs l
      rest n mid true c g = values-at n n mid c g
      rest n mid false c g = let e : 10 ∷ a ∷ [] ≡ l = cc in let o = subst TellsPlace (sym e) t in absurd (omega (arith, o.1))

      go : Either (item all (take_bits 32 (4 ∷ a ∷ [])) bs) (λ n. λ mid. and_then (require (room n) (10 ∷ a ∷ []) mid) (λ u. read_values all a n)) l → ItemAt all a bs l
      go (earlier f) = count (bits_told all 32 (4 ∷ a ∷ []) bs l f)
      go (later n mid f g) = rest n mid (room n) f g

  part_at : (room : ℕ → Bool) (n : ℕ) → read_part all a room n bs ≡ refused l → TellsPlace l → ItemAt all a bs l
  unfolding read_part
  part_at room n h t = go (either (read_array all a room bs) _ h)
    where
      rest : (xs : List ℤ) (mid : List ℕ) (b : Bool) → and_then (require b (9 ∷ a ∷ []) mid) (λ u q. and_then (align q) (λ v. give xs)) ≡ refused l → ItemAt all a bs l
      rest xs mid true g = refused_not_read (sym g)
      rest xs mid false g = let e : 9 ∷ a ∷ [] ≡ l = cc in let o = subst TellsPlace (sym e) t in absurd (omega (arith, o.1))

      go : Either (read_array all a room bs) (λ xs. λ mid. and_then (require (eqb (length xs) n) (9 ∷ a ∷ []) mid) (λ u q. and_then (align q) (λ v. give xs))) l → ItemAt all a bs l
      go (earlier f) = array_at room f t
      go (later xs mid f g) = rest xs mid (eqb (length xs) n) g

-- ---- the image
-- what the reader makes of both arrays
abbrev paired : List ℤ → List ℤ → Pairs
paired xs ys = record { seqs = map pattern xs; secs = ys }

-- a reader that has no item refuses without a place
abbrev Plain : {A : Type 0} → Reader A → Type 0
Plain m = (bs l : List ℕ) → m bs ≡ refused l → TellsPlace l → ⊥

give-plain : {A : Type 0} (x : A) → Plain (give x)
give-plain x bs l h t = refused_not_read (sym h)

bits_plain : (n : ℕ) (k : List ℕ) → (TellsPlace k → ⊥) → Plain (take_bits n k)
bits_plain n k other bs l h t = other (subst TellsPlace (short_of n k bs h).0 t)

then_plain : {A B : Type 0} {m : Reader A} {f : A → Reader B} → Plain m → ((x : A) → Plain (f x)) → Plain (◌>>=◌ m f)
then_plain {A} {B} {m} {f} M F bs l h t = go (either (m bs) f h)
  where
    go : Either (m bs) f l → ⊥
    go (earlier g) = M bs l g t
    go (later x mid g e) = F x mid l e t

header-plain : Plain (le_count (3 ∷ []))
unfolding le_count
header-plain = then_plain byte (λ a. then_plain byte (λ b. then_plain byte (λ c. then_plain byte (λ d. give-plain _))))
  where
    byte : Plain (take_bits 8 (3 ∷ []))
    byte = bits_plain 8 (3 ∷ []) (λ o. omega (arith, o.0))

module _ (room : ℕ → Bool) (bytes l : List ℕ) (t : TellsPlace l) where
  abbrev all : ℕ
  all = length bytes * 8

  -- an item of array a, from where the array begins
  item_begins : (a : ℕ) (bs : List ℕ) → before_count all room a (bits_of bytes) ≡ read tt bs → Last bytes bs → ItemAt all a bs l → Begins room bytes l
  unfolding before_first before_code
  item_begins a bs h z (count e) = begins.count a (place_of (p z)) e (place_in z) (h ∙ ap (λ (u : List ℕ). read tt u) (sym (bits_on_lem z)))
  item_begins a bs h z (first n mid c e) =
      let y = (count_halts bytes a).fronts bs mid n z c in
      begins.first a (place_of (p y)) e (place_in y) (rw h (rw c (ap (λ (u : List ℕ). read tt u) (sym (bits_on_lem y)))))
  item_begins a bs h z (code n i mid left k xs c v m e) =
      let y = (values_halt bytes a i).fronts mid left xs ((count_halts bytes a).fronts bs mid n z c) v in
      begins.code m.number a i m.more (place_of (p y)) (e ∙ ap (λ (u : List ℕ). with u (place_of (p y))) m.is) m.six (place_in y)
      (rw h (rw c (rw v (ap (λ (u : List ℕ). read tt u) (sym (bits_on_lem y))))))

  -- both arrays, from the end of the header on
  arrays_begin : (mid bs : List ℕ) (v n : ℕ) → take_bits 8 (1 ∷ []) (bits_of bytes) ≡ read v mid → le_count (3 ∷ []) mid ≡ read n bs → Last bytes bs
      → and_then (read_part all 0 room n bs) (λ xs q. and_then (read_part all 1 room n q) (λ ys. give (paired xs ys))) ≡ refused l → Begins room bytes l
  unfolding before_count
  arrays_begin mid bs v n e c z h = go (either (read_part all 0 room n bs) _ h)
    where
      rest : (xs : List ℤ) (q : List ℕ) → read_part all 0 room n bs ≡ read xs q → Either (read_part all 1 room n q) (λ ys. give (paired xs ys)) l → Begins room bytes l
      rest xs q f (earlier g) = item_begins 1 q (rw e (rw c (rw f))) ((part_halts bytes 0 room n).fronts bs q xs z f) (part_at all 1 q l room n g t)
      rest xs q f (later ys r g k) = refused_not_read (sym k)

      go : Either (read_part all 0 room n bs) (λ xs. λ q. and_then (read_part all 1 room n q) (λ ys. give (paired xs ys))) l → Begins room bytes l
      go (earlier f) = item_begins 0 bs (rw e (rw c)) z (part_at all 0 bs l room n f t)
      go (later xs q f g) = rest xs q f (either (read_part all 1 room n q) (λ ys. give (paired xs ys)) g)

  -- the header, and both arrays
  image_begins : read_pairs all room (bits_of bytes) ≡ refused l → Begins room bytes l
  unfolding read_pairs
  image_begins h = go (either (take_bits 8 (1 ∷ []) (bits_of bytes)) _ h)
    where
      counted : (v : ℕ) (mid : List ℕ) → take_bits 8 (1 ∷ []) (bits_of bytes) ≡ read v mid → Either (le_count (3 ∷ []) mid) (read_arrays all room) l → Begins room bytes l
      counted v mid e (earlier f) = absurd (header-plain mid l f t)
      counted v mid e (later n bs f g) = arrays_begin mid bs v n e f ((header_halts bytes).fronts mid bs n ((plain_halts bytes 8 (1 ∷ []) (λ o. omega (arith, o.0))).fronts (bits_of bytes) mid v (record { before = []; parts = refl }) e) f) g

      version : (v : ℕ) (mid : List ℕ) (b : Bool) → take_bits 8 (1 ∷ []) (bits_of bytes) ≡ read v mid
          → and_then (require b (2 ∷ v ∷ []) mid) (λ u q. and_then (le_count (3 ∷ []) q) (read_arrays all room)) ≡ refused l → Begins room bytes l
      version v mid true e g = counted v mid e (either (le_count (3 ∷ []) mid) (read_arrays all room) g)
      version v mid false e g = let d : 2 ∷ v ∷ [] ≡ l = cc in let o = subst TellsPlace (sym d) t in absurd (omega (arith, o.0))

      go : Either (take_bits 8 (1 ∷ []) (bits_of bytes)) (λ v mid. and_then (require (eqb v 1) (2 ∷ v ∷ []) mid) (λ u q. and_then (le_count (3 ∷ []) q) (read_arrays all room))) l → Begins room bytes l
      go (earlier f) = absurd (bits_plain 8 (1 ∷ []) (λ o. omega (arith, o.0)) (bits_of bytes) l f t)
      go (later v mid f g) = version v mid (eqb v 1) f g

pub begins_there : BeginsThere
begins_there room bytes l h t = image_begins room bytes l t h

pub one_place : OnePlace
one_place bytes at other h k e =
    let n = length-bits_of bytes in
    let left : length (drop (at.byte * 8 + at.bit) (bits_of bytes)) ≡ length (drop (other.byte * 8 + other.bit) (bits_of bytes)) = ap length e in
    let u = length-drop (at.byte * 8 + at.bit) (bits_of bytes) in
    let v = length-drop (other.byte * 8 + other.bit) (bits_of bytes) in
    let same : at.byte * 8 + at.bit ≡ other.byte * 8 + other.bit = omega (arith, n, left, u, v, h.1, k.1) in
    let byte : at.byte ≡ other.byte = omega (arith, same, h.0, k.0) in
    let bit : at.bit ≡ other.bit = omega (arith, same, h.0, k.0) in
    ap₂ {C = Place} (λ (x y : ℕ). record { byte = x; bit = y }) byte bit
