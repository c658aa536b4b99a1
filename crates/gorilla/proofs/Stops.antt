-- From the place on that a refusal tells, the input has too few bits for the item that is missing. Assumes nothing.
use Prim.Native.Nat.{ℕ, zero, suc, ◌+◌, ◌-◌, ◌*◌, ◌/◌, ◌%◌, ◌≤◌, ◌<◌}
use mathlib.Core.Path.{◌≡◌, refl, sym, ap, ◌∙◌, subst}
use mathlib.Core.Bool.{Bool, true, false, cond}
use mathlib.Core.List.{List, [], ◌∷◌, ◌++◌, append_assoc}
use native.Mathlib.Nat.{add-zero, zero-add}
use native.Mathlib.Omega.{arith}
use borrow.Author.Tests.{ltb-true}
use lib.Dec.{ltb, eqb}
use lib.ListN.{length, get_or, take, drop, replicate, length-append}
use lib.Seq.{drop_at, take-nil}
use lib.IntN.{ℤ}
use Rattle.bit_lists.specs.BitList.{bits_of, nat_from}
use Rattle.bit_lists.proofs.Lists.{length-bits_of}
use Rattle.bit_lists.proofs.Packing.{AllBits, bits_of_lem}
use Rattle.bits.specs.Place.{place_of}
use Rattle.gorilla.specs.Rows.{widths, decoded}
use Rattle.gorilla.specs.Parser.{Read, read, refused, Reader, and_then, ◌>>=◌, give, require, take_bits, with, item, told_at, align}
use Rattle.gorilla.specs.Reading.{cut_number, count_ones, read_code, read_codes, read_values, read_array, le_count, read_part, read_pairs}
use Rattle.gorilla.specs.Stops.{TellsPlace, PlaceIn, bits_on, prefix_of, Stop, StopsThere}
use Rattle.gorilla.specs.Stops as stop
use Rattle.gorilla.proofs.Readers.{refused_not_read}
use Rattle.gorilla.proofs.Counts.{both}
use Rattle.gorilla.proofs.Ignored.{Takes, Any, any_grow, bits_takes, item_takes, code_takes, align_takes}

-- ---- what a refused reader was given
pub short_of : (n : ℕ) (k bs : List ℕ) {l : List ℕ} → take_bits n k bs ≡ refused l → (l ≡ k) × (length bs < n)
unfolding take_bits
short_of n k bs {l} h = go (ltb (length bs) n) refl h
  where
    go : (t : Bool) → ltb (length bs) n ≡ t → cond t (refused k) (read (nat_from 0 (take n bs)) (drop n bs)) ≡ refused l → (l ≡ k) × (length bs < n)
    go true e g = (cc, ltb-true (length bs) n e)
    go false e g = refused_not_read (sym g)

-- a bit that is not 0 is 1
one : (b : ℕ) → suc b < 2 → suc b ≡ 1
one b h = omega arith

-- the end after t ones
record Ended (a i k n : ℕ) (bs l : List ℕ) : Type 0 where
  ones : ℕ
  few : ones < k
  is : bs ≡ replicate ones 1
  told : l ≡ cut_number (n + ones) ∷ a ∷ i ∷ []

ones_ended : (a i k n : ℕ) (bs l : List ℕ) → AllBits bs → count_ones a i k n bs ≡ refused l → Ended a i k n bs l
unfolding count_ones AllBits
ones_ended a i zero n bs l b h = refused_not_read (sym h)
ones_ended a i (suc k) n [] l b h = record { ones = 0; few = omega arith; is = refl; told = let e : l ≡ cut_number n ∷ a ∷ i ∷ [] = cc in e ∙ ap (λ (u : ℕ). cut_number u ∷ a ∷ i ∷ []) (sym (add-zero n)) }
ones_ended a i (suc k) n (zero ∷ bs) l b h = refused_not_read (sym h)
ones_ended a i (suc k) n (suc c ∷ bs) l (b, bb) h =
    let e = ones_ended a i k (n + 1) bs l bb h in
    let s : n + 1 + e.ones ≡ n + suc e.ones = omega arith in
    record {
      ones = suc e.ones;
      few = omega (arith, e.few);
      is = ap (λ (u : ℕ). u ∷ bs) (one c b) ∙ ap (λ (r : List ℕ). 1 ∷ r) e.is;
      told = e.told ∙ ap (λ (u : ℕ). cut_number u ∷ a ∷ i ∷ []) s;
    }

-- a prefix that is there
record Counted (k n m : ℕ) (bs rest : List ℕ) : Type 0 where
  ones : ℕ
  few : ones ≤ k
  count : m ≡ n + ones
  prefix : bs ≡ take k (replicate ones 1 ++ (0 ∷ [])) ++ rest

counted : (a i k n : ℕ) (bs : List ℕ) {m : ℕ} {rest : List ℕ} → AllBits bs → count_ones a i k n bs ≡ read m rest → Counted k n m bs rest
unfolding count_ones AllBits
counted a i zero n bs {m} b h = record { ones = 0; few = omega arith; count = let e : m ≡ n = cc in e ∙ sym (add-zero n); prefix = cc }
counted a i (suc k) n [] b h = refused_not_read h
counted a i (suc k) n (zero ∷ bs) {m} {rest} b h =
    record {
      ones = 0;
      few = omega arith;
      count = let e : m ≡ n = cc in e ∙ sym (add-zero n);
      prefix = let e : bs ≡ rest = cc in ap (λ (r : List ℕ). 0 ∷ r) e ∙ ap (λ (u : List ℕ). 0 ∷ u ++ rest) (sym (take-nil k));
    }
counted a i (suc k) n (suc c ∷ bs) (b, bb) h =
    let e = counted a i k (n + 1) bs bb h in
    record {
      ones = suc e.ones;
      few = omega (arith, e.few);
      count = omega (arith, e.count);
      prefix = ap (λ (u : ℕ). u ∷ bs) (one c b) ∙ ap (λ (r : List ℕ). 1 ∷ r) e.prefix;
    }

-- ---- a place, by the bits left
-- bs are the last bits of the input
pub record Last (bytes bs : List ℕ) : Type 0 where
  pub before : List ℕ
  pub parts : bits_of bytes ≡ before ++ bs

bits_last : (u v : List ℕ) → AllBits (u ++ v) → AllBits v
unfolding AllBits
bits_last [] v b = b
bits_last (x ∷ u) v (b, bb) = bits_last u v bb

-- the bits before it
module _ {bytes bs : List ℕ} (z : Last bytes bs) where
  abbrev pub p : ℕ
  p = length bytes * 8 - length bs

  before_is : length z.before ≡ p
  before_is = omega (arith, length-bits_of bytes, ap length z.parts, length-append z.before bs)

  pub place_in : PlaceIn bytes (place_of p)
  place_in = (omega arith, omega arith)

  pub bits_on_lem : bits_on bytes (place_of p) ≡ bs
  bits_on_lem =
      let e : p / 8 * 8 + p % 8 ≡ p = omega arith in
      ap (λ (u : ℕ). drop u (bits_of bytes)) e ∙ ap (drop p) z.parts ∙ drop_at z.before bs p before_is

  all_bits : AllBits bs
  all_bits = bits_last z.before bs (subst AllBits z.parts (bits_of_lem bytes))

-- of a refused item: what its reader refused with, and the place
pub item_of : {A : Type 0} (all : ℕ) (m : Reader A) (bs : List ℕ) {l : List ℕ} → item all m bs ≡ refused l
    → (k : List ℕ) × (m bs ≡ refused k) × (l ≡ with k (place_of (all - length bs)))
item_of {A} all m bs {l} h = go (m bs) h
  where
    go : (r : Read A) → told_at (all - length bs) r ≡ refused l
        → (k : List ℕ) × (r ≡ refused k) × (l ≡ with k (place_of (all - length bs)))
    go (read x r) g = refused_not_read (sym g)
    go (refused k) g = (k, refl, cc)

-- two readers, one after the other, that refuse: the first, or the second after what the first read
pub data Either {A B : Type 0} (r : Read A) (f : A → Reader B) (l : List ℕ) : Type 0 where
  earlier : r ≡ refused l → Either r f l
  later : (x : A) (mid : List ℕ) → r ≡ read x mid → f x mid ≡ refused l → Either r f l

pub either : {A B : Type 0} (r : Read A) (f : A → Reader B) {l : List ℕ} → and_then r f ≡ refused l → Either r f l
either (read x mid) f h = later x mid refl h
either (refused k) f {l} h = earlier (let e : k ≡ l = cc in ap (λ (u : List ℕ). refused u) e)

-- ---- the items
-- what follows a prefix of n ones, and what its bits stand for
abbrev pub diff_as : ℕ → ℕ → Reader ℤ
diff_as n = λ v. give (decoded (get_or widths n 0) v)

abbrev pub diff_of : ℕ → ℕ → ℕ → Reader ℤ
diff_of a i = λ n. ◌>>=◌ (take_bits (get_or widths n 0) (8 ∷ a ∷ i ∷ get_or widths n 0 ∷ [])) (diff_as n)

module _ (bytes bs : List ℕ) (z : Last bytes bs) where
  abbrev all : ℕ
  all = length bytes * 8

  count_stops : (a : ℕ) (l : List ℕ) → item all (take_bits 32 (4 ∷ a ∷ [])) bs ≡ refused l → Stop bytes l
  count_stops a l h =
      let r = item_of all (take_bits 32 (4 ∷ a ∷ [])) bs h in
      let s = short_of 32 (4 ∷ a ∷ []) bs r.1 in
      stop.count a (place_of (p z)) (r.2 ∙ ap (λ (k : List ℕ). with k (place_of (p z))) s.0) (place_in z)
      (subst (λ (u : List ℕ). length u < 32) (sym (bits_on_lem z)) s.1)

  first_stops : (a : ℕ) (l : List ℕ) → item all (take_bits 64 (5 ∷ a ∷ [])) bs ≡ refused l → Stop bytes l
  first_stops a l h =
      let r = item_of all (take_bits 64 (5 ∷ a ∷ [])) bs h in
      let s = short_of 64 (5 ∷ a ∷ []) bs r.1 in
      stop.first a (place_of (p z)) (r.2 ∙ ap (λ (k : List ℕ). with k (place_of (p z))) s.0) (place_in z)
      (subst (λ (u : List ℕ). length u < 64) (sym (bits_on_lem z)) s.1)

  -- the end after so many ones
  ones_stop : (a i n : ℕ) {k l : List ℕ} → n < 4 → bs ≡ replicate n 1 → k ≡ cut_number n ∷ a ∷ i ∷ []
      → l ≡ with k (place_of (p z)) → Stop bytes l
  unfolding cut_number
  ones_stop a i zero h e f g = stop.code a i (place_of (p z)) (g ∙ ap (λ (k : List ℕ). with k (place_of (p z))) f) (place_in z) (bits_on_lem z ∙ e)
  ones_stop a i (suc n) h e f g =
      stop.prefix a i (suc n) (place_of (p z)) (g ∙ ap (λ (k : List ℕ). with k (place_of (p z))) f) (place_in z) (omega arith) (omega arith) (bits_on_lem z ∙ e)

  code_stops : (a i : ℕ) (l : List ℕ) → read_code all a i bs ≡ refused l → Stop bytes l
  unfolding read_code
  code_stops a i l h =
      let r = item_of all (◌>>=◌ (count_ones a i 4 0) (diff_of a i)) bs h in
      go r.0 r.2 (either (count_ones a i 4 0 bs) (diff_of a i) r.1)
    where
      go_late : (n : ℕ) (rest k : List ℕ) → l ≡ with k (place_of (p z)) → n ≤ 4 → bs ≡ prefix_of n ++ rest
          → Either (take_bits (get_or widths n 0) (8 ∷ a ∷ i ∷ get_or widths n 0 ∷ []) rest) (diff_as n) k → Stop bytes l
      go_late n rest k e m f (earlier g) =
          let w : ℕ = get_or widths n 0 in
          let s = short_of w (8 ∷ a ∷ i ∷ w ∷ []) rest g in
          stop.difference a i n (place_of (p z)) rest (e ∙ ap (λ (u : List ℕ). with u (place_of (p z))) s.0) (place_in z) m (bits_on_lem z ∙ f)
          (subst (λ (u : List ℕ). length u < length (prefix_of n) + w) (sym (bits_on_lem z ∙ f)) (omega (arith, s.1, length-append (prefix_of n) rest)))
      go_late n rest k e m f (later v q g h) = refused_not_read (sym h)

      go : (k : List ℕ) → l ≡ with k (place_of (p z)) → Either (count_ones a i 4 0 bs) (diff_of a i) k → Stop bytes l
      go k e (earlier f) =
          let t = ones_ended a i 4 0 bs k (all_bits z) f in
          ones_stop a i t.ones t.few t.is (t.told ∙ ap (λ (u : ℕ). cut_number u ∷ a ∷ i ∷ []) (zero-add t.ones)) e
      go k e (later n rest f g) =
          let t = counted a i 4 0 bs (all_bits z) f in
          let c : n ≡ t.ones = t.count ∙ zero-add t.ones in
          let w : ℕ = get_or widths n 0 in
          go_late n rest k e (subst (λ (u : ℕ). u ≤ 4) (sym c) t.few) (t.prefix ∙ ap (λ (u : ℕ). prefix_of u ++ rest) (sym c)) (either (take_bits w (8 ∷ a ∷ i ∷ w ∷ []) rest) (diff_as n) g)

-- ---- all readers of an image
-- of the last bits of the input a reader takes some off the front, or refuses, and where it does so with one of 4 to 8 the input stops there
pub record Halts {A : Type 0} (bytes : List ℕ) (m : Reader A) : Type 0 where
  pub fronts : (bs left : List ℕ) (x : A) → Last bytes bs → m bs ≡ read x left → Last bytes left
  pub halts : (bs l : List ℕ) → Last bytes bs → m bs ≡ refused l → TellsPlace l → Stop bytes l

-- bits off the front leave last bits
off : {bytes bs left : List ℕ} (used : List ℕ) → Last bytes bs → bs ≡ used ++ left → Last bytes left
off {bytes} {bs} {left} used z e = record { before = z.before ++ used; parts = z.parts ∙ ap (λ (u : List ℕ). z.before ++ u) e ∙ sym (append_assoc z.before used left) }

module _ (bytes : List ℕ) where
  give_halts : {A : Type 0} (x : A) → Halts bytes (give x)
  give_halts x = record { fronts = λ bs left y z h. let e : bs ≡ left = cc in subst (Last bytes) e z; halts = λ bs l z h. refused_not_read (sym h) }

  then_halts : {A B : Type 0} {m : Reader A} {f : A → Reader B} → Halts bytes m → ((x : A) → Halts bytes (f x)) → Halts bytes (◌>>=◌ m f)
  then_halts {A} {B} {m} {f} M F = record {
    fronts = λ bs left y z h. let b = both (m bs) f h in (F b.value).fronts b.between left y (M.fronts bs b.between b.value z b.first) b.second;
    halts = λ bs l z h t. go bs l z t (either (m bs) f h);
  }
    where
      go : (bs l : List ℕ) → Last bytes bs → TellsPlace l → Either (m bs) f l → Stop bytes l
      go bs l z t (earlier g) = M.halts bs l z g t
      go bs l z t (later x mid g h) = (F x).halts mid l (M.fronts bs mid x z g) h t

  pub require_halts : (b : Bool) (l : List ℕ) → (TellsPlace l → ⊥) → Halts bytes (require b l)
  require_halts true l n = give_halts tt
  require_halts false l n = record { fronts = λ bs left x z h. refused_not_read h; halts = λ bs k z h t. absurd (n (let e : l ≡ k = cc in subst TellsPlace (sym e) t)) }

  -- the front, as `Takes` has it
  taken : {A : Type 0} {m : ℕ → Reader A} {May : List ℕ → List ℕ → Type 0} → Takes May m → (n : ℕ) (bs left : List ℕ) (x : A) → Last bytes bs → m n bs ≡ read x left → Last bytes left
  taken T n bs left x z h = let t = T.takes n bs left x h in off t.used z t.front

  -- bits that no item has
  pub plain_halts : (n : ℕ) (k : List ℕ) → (TellsPlace k → ⊥) → Halts bytes (take_bits n k)
  plain_halts n k other = record {
    fronts = taken (bits_takes Any any_grow n k) 0;
    halts = λ bs l z h t. absurd (other (subst TellsPlace (short_of n k bs h).0 t));
  }

  code_halts : (a i : ℕ) → Halts bytes (read_code (length bytes * 8) a i)
  code_halts a i = record { fronts = taken (code_takes Any any_grow a i) (length bytes * 8); halts = λ bs l z h t. code_stops bytes bs z a i l h }

  codes_halt : (a k i : ℕ) → Halts bytes (read_codes (length bytes * 8) a k i)
  unfolding read_codes
  codes_halt a zero i = give_halts []
  codes_halt a (suc k) i = then_halts (code_halts a i) (λ d. then_halts (codes_halt a k (i + 1)) (λ ds. give_halts (d ∷ ds)))

  pub values_halt : (a n : ℕ) → Halts bytes (read_values (length bytes * 8) a n)
  unfolding read_values
  values_halt a zero = give_halts []
  values_halt a (suc k) = then_halts first (λ v. then_halts (codes_halt a k 1) (λ ds. give_halts _))
    where
      first : Halts bytes (item (length bytes * 8) (take_bits 64 (5 ∷ a ∷ [])))
      first = record { fronts = taken (item_takes Any any_grow (bits_takes Any any_grow 64 (5 ∷ a ∷ []))) (length bytes * 8); halts = λ bs l z h t. first_stops bytes bs z a l h }

  pub count_halts : (a : ℕ) → Halts bytes (item (length bytes * 8) (take_bits 32 (4 ∷ a ∷ [])))
  count_halts a = record { fronts = taken (item_takes Any any_grow (bits_takes Any any_grow 32 (4 ∷ a ∷ []))) (length bytes * 8); halts = λ bs l z h t. count_stops bytes bs z a l h }

  array_halts : (a : ℕ) (room : ℕ → Bool) → Halts bytes (read_array (length bytes * 8) a room)
  unfolding read_array
  array_halts a room = then_halts (count_halts a) (λ n. then_halts (require_halts (room n) (10 ∷ a ∷ []) (λ t. omega (arith, t))) (λ u. values_halt a n))

  pub header_halts : Halts bytes (le_count (3 ∷ []))
  unfolding le_count
  header_halts = then_halts byte (λ a. then_halts byte (λ b. then_halts byte (λ c. then_halts byte (λ d. give_halts _))))
    where
      byte : Halts bytes (take_bits 8 (3 ∷ []))
      byte = plain_halts 8 (3 ∷ []) (λ t. omega (arith, t))

  pub part_halts : (a : ℕ) (room : ℕ → Bool) (n : ℕ) → Halts bytes (read_part (length bytes * 8) a room n)
  unfolding read_part
  part_halts a room n =
      then_halts (array_halts a room) (λ xs. then_halts (require_halts (eqb (length xs) n) (9 ∷ a ∷ []) (λ t. omega (arith, t))) (λ u. then_halts aligned (λ v. give_halts xs)))
    where
      aligned : Halts bytes align
      aligned = record { fronts = taken align_takes 0; halts = λ bs l z h t. refused_not_read (sym h) }

  pairs_halt : (room : ℕ → Bool) → Halts bytes (read_pairs (length bytes * 8) room)
  unfolding read_pairs
  pairs_halt room =
      then_halts (plain_halts 8 (1 ∷ []) (λ t. omega (arith, t))) (λ v.
      then_halts (require_halts (eqb v 1) (2 ∷ v ∷ []) (λ t. omega (arith, t))) (λ u.
      then_halts header_halts (λ n.
      then_halts (part_halts 0 room n) (λ xs.
      then_halts (part_halts 1 room n) (λ ys. give_halts _)))))

pub stops_there : StopsThere
stops_there room bytes l h t = (pairs_halt bytes room).halts (bits_of bytes) l (record { before = []; parts = refl }) h t
