-- What an image that is read holds: as many sequences as seconds, and a count that found room. Assumes nothing.
use Prim.Native.Nat.{ℕ, zero, suc, ◌+◌, ◌*◌}
use mathlib.Core.Path.{◌≡◌, refl, sym, ap, ◌∙◌}
use mathlib.Core.Bool.{Bool, true, false}
use mathlib.Core.List.{List, [], ◌∷◌}
use native.Mathlib.Omega.{arith}
use borrow.Author.Tests.{eqb-true}
use lib.Dec.{eqb}
use lib.ListN.{length, length-map}
use lib.IntN.{ℤ, pos}
use Rattle.signed.specs.Signed.{signed, pattern}
use Rattle.gorilla.specs.Parser.{Read, read, refused, Reader, and_then, require, take_bits, item}
use Rattle.gorilla.specs.Reading.{read_code, read_codes, read_values, read_array, le_count, read_part, Pairs, read_pairs, read_image}
use Rattle.gorilla.proofs.ImageTrip.{length-after}

-- two readers, one after the other, that read: what the first read, and what the second made of it
pub record Both {A B : Type 0} (r : Read A) (f : A → Reader B) (y : B) (left : List ℕ) : Type 0 where
  pub value : A
  pub between : List ℕ
  pub first : r ≡ read value between
  pub second : f value between ≡ read y left

pub both : {A B : Type 0} (r : Read A) (f : A → Reader B) {y : B} {left : List ℕ} → and_then r f ≡ read y left → Both r f y left
both (read x bs) f h = record { value = x; between = bs; first = refl; second = h }
both (refused l) f h = let z : ◌≡◌ {A = ℕ} 0 1 = cc in absurd (omega arith)

-- a test that was passed
required : (b : Bool) (l bs : List ℕ) {x : Unit {0}} {left : List ℕ} → require b l bs ≡ read x left → b ≡ true
required true l bs h = refl
required false l bs h = let z : ◌≡◌ {A = ℕ} 0 1 = cc in absurd (omega arith)

same : {A : Type 0} {x y : A} {a b : List ℕ} → read x a ≡ read y b → x ≡ y
same h = cc

codes_count : (all a k i : ℕ) (bs : List ℕ) {ds : List ℤ} {left : List ℕ} → read_codes all a k i bs ≡ read ds left → length ds ≡ k
unfolding read_codes
codes_count all a zero i bs h = ap length (sym (same h))
codes_count all a (suc k) i bs h =
    let one = both (read_code all a i bs) _ h in
    let more = both (read_codes all a k (i + 1) one.between) _ one.second in
    ap length (sym (same more.second)) ∙ ap suc (codes_count all a k (i + 1) one.between more.first)

values-count : (all a n : ℕ) (bs : List ℕ) {xs : List ℤ} {left : List ℕ} → read_values all a n bs ≡ read xs left → length xs ≡ n
unfolding read_values
values-count all a zero bs h = ap length (sym (same h))
values-count all a (suc k) bs h =
    let one = both (item all (take_bits 64 (5 ∷ a ∷ [])) bs) _ h in
    let more = both (read_codes all a k 1 one.between) _ one.second in
    ap length (sym (same more.second))
    ∙ ap suc (length-after (signed one.value) (pos 0) more.value ∙ codes_count all a k 1 one.between more.first)

array_found_room : (all a : ℕ) (room : ℕ → Bool) (bs : List ℕ) {xs : List ℤ} {left : List ℕ} → read_array all a room bs ≡ read xs left → room (length xs) ≡ true
unfolding read_array
array_found_room all a room bs h =
    let one = both (item all (take_bits 32 (4 ∷ a ∷ [])) bs) _ h in
    let more = both (require (room one.value) (10 ∷ a ∷ []) one.between) _ one.second in
    ap room (values-count all a one.value more.between more.second) ∙ required (room one.value) (10 ∷ a ∷ []) one.between more.first

-- one array of an image: its count is the header's, and found room
part_count : (all a : ℕ) (room : ℕ → Bool) (n : ℕ) (bs : List ℕ) {xs : List ℤ} {left : List ℕ} → read_part all a room n bs ≡ read xs left → (length xs ≡ n) × (room (length xs) ≡ true)
unfolding read_part
part_count all a room n bs h =
    let one = both (read_array all a room bs) _ h in
    let more = both (require (eqb (length one.value) n) (9 ∷ a ∷ []) one.between) _ one.second in
    let e = same more.second in (
      ap length (sym e) ∙ eqb-true (length one.value) n (required (eqb (length one.value) n) (9 ∷ a ∷ []) one.between more.first),
      ap (λ (l : List ℤ). room (length l)) (sym e) ∙ array_found_room all a room bs one.first,
    )

pub image_counts : (room : ℕ → Bool) (bytes : List ℕ) {p : Pairs} {left : List ℕ} → read_image room bytes ≡ read p left
    → (length p.seqs ≡ length p.secs) × (room (length p.secs) ≡ true)
unfolding read_pairs
image_counts room bytes {p} h =
    let version = both (take_bits 8 (1 ∷ []) _) _ h in
    let good = both (require (eqb version.value 1) (2 ∷ version.value ∷ []) version.between) _ version.second in
    let count = both (le_count (3 ∷ []) good.between) _ good.second in
    let all : ℕ = length bytes * 8 in
    let seqs = both (read_part all 0 room count.value count.between) _ count.second in
    let secs = both (read_part all 1 room count.value seqs.between) _ seqs.second in
    let e = same secs.second in
    let a = part_count all 0 room count.value count.between seqs.first in
    let b = part_count all 1 room count.value seqs.between secs.first in (
      ap (λ (q : Pairs). length q.seqs) (sym e) ∙ length-map seqs.value pattern ∙ a.0 ∙ sym b.0 ∙ ap (λ (q : Pairs). length q.secs) e,
      ap (λ (q : Pairs). room (length q.secs)) (sym e) ∙ b.1,
    )
