-- A reader takes bits off the front, and reads the same whatever stands after them: so bytes after an image, and padding, change nothing. Assumes nothing.
use Prim.Native.Nat.{ℕ, zero, suc, ◌+◌, ◌*◌, ◌%◌, ◌<◌}
use mathlib.Core.Path.{◌≡◌, refl, sym, ap, ap₂, subst, ◌∙◌}
use mathlib.Core.Bool.{Bool, true, false}
use mathlib.Core.List.{List, [], ◌∷◌, ◌++◌, append_assoc, append-nil, map}
use native.Mathlib.Omega.{arith}
use borrow.Author.Tests.{eqb-true}
use lib.Dec.{eqb}
use lib.ListN.{length, get_or, take, drop, length-append, length-drop, take-append-drop}
use lib.Seq.{take_at, drop_at, length-take-le}
use lib.IntN.{ℤ}
use Rattle.signed.specs.Signed.{pattern}
use Rattle.bit_lists.specs.BitList.{bits_of, nat_from}
use Rattle.gorilla.specs.Rows.{widths}
use Rattle.gorilla.specs.Parser.{Read, read, Reader, and_then, ◌>>=◌, give, require, take_bits, item, align}
use Rattle.gorilla.specs.Reading.{count_ones, read_code, read_codes, read_values, read_array, le_count, read_part, Pairs, read_pairs}
use Rattle.gorilla.specs.Ignored.{FollowingIgnored, Padded, PaddingIgnored}
use Rattle.bit_lists.proofs.Lists.{length-bits_of, bits_of-append}
use Rattle.gorilla.proofs.Taking.{enough, were_enough}
use Rattle.gorilla.proofs.Readers.{refused_not_read, item_was, item-read}
use Rattle.gorilla.proofs.Counts.{both}

-- m is a reader in an input of so many bits: of bs the bits `used` are taken, and read as r in an input of any length, with any others after them that may
-- stand for those that are left
pub record Taken {A : Type 0} (May : List ℕ → List ℕ → Type 0) (m : ℕ → Reader A) (bs : List ℕ) (r : A) (left : List ℕ) : Type 0 where
  pub used : List ℕ
  pub front : bs ≡ used ++ left
  pub same : (n : ℕ) (x : List ℕ) → May x left → m n (used ++ x) ≡ read r x

pub record Takes {A : Type 0} (May : List ℕ → List ℕ → Type 0) (m : ℕ → Reader A) : Type 0 where
  pub takes : (n : ℕ) (bs left : List ℕ) (r : A) → m n bs ≡ read r left → Taken May m bs r left

module _ (May : List ℕ → List ℕ → Type 0) (grow : (u x y : List ℕ) → May x y → May (u ++ x) (u ++ y)) where
  give_takes : {A : Type 0} (x : A) → Takes May (λ n. give x)
  give_takes x = record { takes = λ n bs left r h. record { used = []; front = cc; same = λ k y m. cc } }

  then_takes : {A B : Type 0} {m : ℕ → Reader A} {f : A → ℕ → Reader B} → Takes May m → ((x : A) → Takes May (f x)) → Takes May (λ n. ◌>>=◌ (m n) (λ x. f x n))
  then_takes {A} {B} {m} {f} M F = record {
    takes = λ n bs left r h.
        let b = both (m n bs) (λ x. f x n) h in
        let one = M.takes n bs b.between b.value b.first in
        let two = (F b.value).takes n b.between left r b.second in
        record {
          used = one.used ++ two.used;
          front = one.front ∙ ap (λ (l : List ℕ). one.used ++ l) two.front ∙ sym (append_assoc one.used two.used left);
          same = λ k x a. rw (append_assoc one.used two.used x, one.same k (two.used ++ x) (subst (May (two.used ++ x)) (sym two.front) (grow two.used x left a))) (two.same k x a);
        };
  }

  require_takes : (b : Bool) (l : List ℕ) → Takes May (λ n. require b l)
  require_takes true l = give_takes tt
  require_takes false l = record { takes = λ n bs left r h. refused_not_read h }

  pub bits_takes : (n : ℕ) (l : List ℕ) → Takes May (λ all. take_bits n l)
  bits_takes n l = record {
    takes = λ all bs left r h.
        let w = were_enough l n bs h in
        let k : length (take n bs) ≡ n = length-take-le n bs w.0 in
        record {
          used = take n bs;
          front = sym (take-append-drop n bs) ∙ ap (λ (u : List ℕ). take n bs ++ u) (sym w.2);
          same = λ all x a.
              enough l n (take n bs ++ x) (omega (arith, length-append (take n bs) x))
              ∙ ap₂ (λ (u v : List ℕ). read (nat_from 0 u) v) (take_at (take n bs) x n k) (drop_at (take n bs) x n k)
              ∙ ap (λ (u : ℕ). read u x) (sym w.1);
        };
  }

  ones_taken : (a i k n : ℕ) (bs left : List ℕ) (r : ℕ) → count_ones a i k n bs ≡ read r left → Taken May (λ all. count_ones a i k n) bs r left
  unfolding count_ones
  ones_taken a i zero n bs left r h = record { used = []; front = cc; same = λ all x a. cc }
  ones_taken a i (suc k) n [] left r h = refused_not_read h
  ones_taken a i (suc k) n (zero ∷ bs) left r h = record { used = 0 ∷ []; front = cc; same = λ all x a. cc }
  ones_taken a i (suc k) n (suc b ∷ bs) left r h =
      let t = ones_taken a i k (n + 1) bs left r h in
      record { used = suc b ∷ t.used; front = ap (λ (l : List ℕ). suc b ∷ l) t.front; same = t.same }

  ones_take : (a i k n : ℕ) → Takes May (λ all. count_ones a i k n)
  ones_take a i k n = record { takes = λ all. ones_taken a i k n }

  -- an item that is read tells no place
  pub item_takes : {A : Type 0} {m : ℕ → Reader A} → Takes May m → Takes May (λ n. item n (m n))
  item_takes {A} {m} M = record {
    takes = λ n bs left r h.
        let t = M.takes n bs left r (item_was n (m n) bs h) in
        record { used = t.used; front = t.front; same = λ k x a. item-read k (m k) (t.used ++ x) (t.same k x a) };
  }

  pub code_takes : (a i : ℕ) → Takes May (λ n. read_code n a i)
  unfolding read_code
  code_takes a i = item_takes (then_takes (ones_take a i 4 0) (λ n. then_takes (bits_takes (get_or widths n 0) _) (λ v. give_takes _)))

  codes_take : (a k i : ℕ) → Takes May (λ n. read_codes n a k i)
  unfolding read_codes
  codes_take a zero i = give_takes []
  codes_take a (suc k) i = then_takes (code_takes a i) (λ d. then_takes (codes_take a k (i + 1)) (λ ds. give_takes (d ∷ ds)))

  values-take : (a n : ℕ) → Takes May (λ all. read_values all a n)
  unfolding read_values
  values-take a zero = give_takes []
  values-take a (suc k) = then_takes (item_takes (bits_takes 64 _)) (λ v. then_takes (codes_take a k 1) (λ ds. give_takes _))

  array_takes : (a : ℕ) (room : ℕ → Bool) → Takes May (λ n. read_array n a room)
  unfolding read_array
  array_takes a room = then_takes (item_takes (bits_takes 32 _)) (λ n. then_takes (require_takes (room n) _) (λ u. values-take a n))

  count_takes : (l : List ℕ) → Takes May (λ n. le_count l)
  unfolding le_count
  count_takes l = then_takes (bits_takes 8 l) (λ a. then_takes (bits_takes 8 l) (λ b. then_takes (bits_takes 8 l) (λ c. then_takes (bits_takes 8 l) (λ d. give_takes _))))

-- ---- padding

-- as many bits more than whole bytes
pub Whole : List ℕ → List ℕ → Type 0
Whole x y = length x % 8 ≡ length y % 8

whole_grow : (u x y : List ℕ) → Whole x y → Whole (u ++ x) (u ++ y)
unfolding Whole
whole_grow u x y h = omega (arith, h, length-append u x, length-append u y)

-- bits passed over to a whole byte
padding_passed : (pad after : List ℕ) → length pad < 8 → length after % 8 ≡ 0 → align (pad ++ after) ≡ read tt after
padding_passed pad after h k = ap (read tt) (drop_at pad after (length (pad ++ after) % 8) (omega (arith, length-append pad after)))

align_leaves : (bs : List ℕ) → length (drop (length bs % 8) bs) % 8 ≡ 0
align_leaves bs = omega (arith, length-drop (length bs % 8) bs)

pub align_takes : Takes Whole (λ n. align)
unfolding Whole
align_takes = record {
  takes = λ all bs left r h.
      let n : ℕ = length bs % 8 in
      let e : drop n bs ≡ left = cc in
      let k : length left % 8 ≡ 0 = rw (← e) (align_leaves bs) in
      let t : length (take n bs) ≡ n = length-take-le n bs (omega arith) in
      record {
        used = take n bs;
        front = sym (take-append-drop n bs) ∙ ap (λ (l : List ℕ). take n bs ++ l) e;
        same = λ every x a. padding_passed (take n bs) x (omega arith) (a ∙ k);
      };
}

part_takes : (a : ℕ) (room : ℕ → Bool) (n : ℕ) → Takes Whole (λ all. read_part all a room n)
unfolding read_part
part_takes a room n =
    then_takes Whole whole_grow (array_takes Whole whole_grow a room) (λ xs.
    then_takes Whole whole_grow (require_takes Whole whole_grow (eqb (length xs) n) _) (λ u.
    then_takes Whole whole_grow align_takes (λ v. give_takes Whole whole_grow xs)))

pairs-take : (room : ℕ → Bool) → Takes Whole (λ n. read_pairs n room)
unfolding read_pairs
pairs-take room =
    then_takes Whole whole_grow (bits_takes Whole whole_grow 8 _) (λ v.
    then_takes Whole whole_grow (require_takes Whole whole_grow (eqb v 1) _) (λ u.
    then_takes Whole whole_grow (count_takes Whole whole_grow _) (λ n.
    then_takes Whole whole_grow (part_takes 0 room n) (λ xs.
    then_takes Whole whole_grow (part_takes 1 room n) (λ ys. give_takes Whole whole_grow _)))))

pub following-ignored : FollowingIgnored
unfolding Whole
following-ignored room bytes following left p h =
    let t = (pairs-take room).takes (length bytes * 8) (bits_of bytes) left p h in
    rw (bits_of-append bytes following, t.front, append_assoc t.used left (bits_of following))
    (t.same (length (bytes ++ following) * 8) (left ++ bits_of following) (omega (arith, length-append left (bits_of following), length-bits_of following)))

-- one array, and the bits of its padding, which may be any
record Part (all a : ℕ) (room : ℕ → Bool) (n : ℕ) (bs : List ℕ) (xs : List ℤ) (left : List ℕ) : Type 0 where
  bits : List ℕ
  padding : List ℕ
  parts : bs ≡ bits ++ padding ++ left
  whole : read_array (length bits) a room bits ≡ read xs []
  short : length padding < 8
  bytes : length left % 8 ≡ 0
  ignored : (x after : List ℕ) → length x ≡ length padding → length after % 8 ≡ 0 → read_part all a room n (bits ++ x ++ after) ≡ read xs after

pub Any : List ℕ → List ℕ → Type 0
Any x y = Unit {0}

pub any_grow : (u x y : List ℕ) → Any x y → Any (u ++ x) (u ++ y)
unfolding Any
any_grow u x y m = tt

pub passed : {A : Type 0} (b : Bool) (l bs : List ℕ) (k : Reader A) {r : A} {left : List ℕ} → and_then (require b l bs) (λ u. k) ≡ read r left → (b ≡ true) × (k bs ≡ read r left)
passed true l bs k h = (refl, h)
passed false l bs k h = refused_not_read h

part_of : (all a : ℕ) (room : ℕ → Bool) (n : ℕ) (bs left : List ℕ) (xs : List ℤ) → read_part all a room n bs ≡ read xs left → Part all a room n bs xs left
unfolding read_part Any
part_of all a room n bs left xs h =
    let one = both (read_array all a room bs) _ h in
    let two = passed (eqb (length one.value) n) (9 ∷ a ∷ []) one.between _ one.second in
    go one.value one.between one.first two.0 two.1
  where
    go : (ys : List ℤ) (rest : List ℕ) → read_array all a room bs ≡ read ys rest → eqb (length ys) n ≡ true → read ys (drop (length rest % 8) rest) ≡ read xs left → Part all a room n bs xs left
    go ys rest e t f =
        let array = (array_takes Any any_grow a room).takes all bs rest ys e in
        let same : ys ≡ xs = cc in
        let left_is : drop (length rest % 8) rest ≡ left = cc in
        let k : length (take (length rest % 8) rest) ≡ length rest % 8 = length-take-le (length rest % 8) rest (omega arith) in
        record {
          bits = array.used;
          padding = take (length rest % 8) rest;
          parts = array.front
              ∙ ap (λ (l : List ℕ). array.used ++ l) (sym (take-append-drop (length rest % 8) rest) ∙ ap (λ (l : List ℕ). take (length rest % 8) rest ++ l) left_is)
              ∙ sym (append_assoc array.used (take (length rest % 8) rest) left);
          whole = rw (← same) (ap (read_array (length array.used) a room) (sym (append-nil array.used)) ∙ array.same (length array.used) [] tt);
          short = omega arith;
          bytes = rw (← left_is) (align_leaves rest);
          ignored = λ x after l b.
              rw (append_assoc array.used x after, array.same all (x ++ after) tt, t, ← same)
              (ap (λ (r : Read (Unit {0})). and_then r (λ u. give ys)) (padding_passed x after (omega arith) b));
        }

-- the header is five bytes
off_length : (l : List ℕ) (n : ℕ) (bs left : List ℕ) (r : ℕ) → take_bits n l bs ≡ read r left → length bs ≡ n + length left
off_length l n bs left r h = let w = were_enough l n bs h in let k : length left ≡ length (drop n bs) = ap length w.2 in omega (arith, w.0, k, length-drop n bs)

pub count-length : (l bs left : List ℕ) (r : ℕ) → le_count l bs ≡ read r left → length bs ≡ 32 + length left
unfolding le_count
count-length l bs left r h =
    let a = both (take_bits 8 l bs) _ h in
    let b = both (take_bits 8 l a.between) _ a.second in
    let c = both (take_bits 8 l b.between) _ b.second in
    let d = both (take_bits 8 l c.between) _ c.second in
    let e : d.between ≡ left = cc in
    rw (← e) (omega (arith, off_length l 8 bs a.between a.value a.first, off_length l 8 a.between b.between b.value b.first, off_length l 8 b.between c.between c.value c.first, off_length l 8 c.between d.between d.value d.first))

-- what the readers of an image read, one after the other
pub record Steps (all : ℕ) (room : ℕ → Bool) (bs : List ℕ) (p : Pairs) (left : List ℕ) : Type 0 where
  pub count : ℕ
  pub values : List ℤ
  pub after_version : List ℕ
  pub after-header : List ℕ
  pub after-seqs : List ℕ
  pub version_read : take_bits 8 (1 ∷ []) bs ≡ read 1 after_version
  pub count-read : le_count (3 ∷ []) after_version ≡ read count after-header
  pub seqs_read : read_part all 0 room count after-header ≡ read values after-seqs
  pub secs_read : read_part all 1 room count after-seqs ≡ read p.secs left
  pub patterns : p.seqs ≡ map pattern values

pub steps_of : (all : ℕ) (room : ℕ → Bool) (bs left : List ℕ) (p : Pairs) → read_pairs all room bs ≡ read p left → Steps all room bs p left
unfolding read_pairs
steps_of all room bs left p h =
    let version = both (take_bits 8 (1 ∷ []) bs) _ h in
    let one = passed (eqb version.value 1) (2 ∷ version.value ∷ []) version.between _ version.second in
    let count = both (le_count (3 ∷ []) version.between) _ one.1 in
    let seqs = both (read_part all 0 room count.value count.between) _ count.second in
    let secs = both (read_part all 1 room count.value seqs.between) _ seqs.second in
    let e : secs.between ≡ left = cc in
    let q : record { seqs = map pattern seqs.value; secs = secs.value } ≡ p = cc in
    record {
      count = count.value;
      values = seqs.value;
      after_version = version.between;
      after-header = count.between;
      after-seqs = seqs.between;
      version_read = version.first ∙ ap (λ (v : ℕ). read v version.between) (eqb-true version.value 1 one.0);
      count-read = count.first;
      seqs_read = seqs.first;
      secs_read = secs.first ∙ ap₂ (λ (ys : List ℤ) (l : List ℕ). read ys l) (ap (λ (r : Pairs). r.secs) q) e;
      patterns = sym (ap (λ (r : Pairs). r.seqs) q);
    }

padded : (room : ℕ → Bool) (bs left : List ℕ) (p : Pairs) → length bs % 8 ≡ 0 → Steps (length bs) room bs p left → Padded room bs p left
unfolding Any read_pairs
padded room bs left p even s =
    let v = (bits_takes Any any_grow 8 (1 ∷ [])).takes (length bs) bs s.after_version 1 s.version_read in
    let c = (count_takes Any any_grow (3 ∷ [])).takes (length bs) s.after_version s.after-header s.count s.count-read in
    let a = part_of (length bs) 0 room s.count s.after-header s.after-seqs s.values s.seqs_read in
    let b = part_of (length bs) 1 room s.count s.after-seqs left p.secs s.secs_read in
    let laid : (x y : List ℕ) → v.used ++ c.used ++ a.bits ++ x ++ b.bits ++ y ++ left ≡ v.used ++ (c.used ++ (a.bits ++ x ++ (b.bits ++ y ++ left))) = λ x y. simp append_assoc in
    let whole : (y : List ℕ) → length y ≡ length b.padding → length (b.bits ++ y ++ left) % 8 ≡ 0 = λ y e.
    omega (arith, a.bytes, ap length b.parts, length-append (b.bits ++ y) left, length-append b.bits y, length-append (b.bits ++ b.padding) left, length-append b.bits b.padding) in
    let five : length (v.used ++ c.used) ≡ 40 = omega (
      arith,
      ap length v.front,
      ap length c.front,
      length-append v.used s.after_version,
      length-append c.used s.after-header,
      length-append v.used c.used,
      off_length (1 ∷ []) 8 bs s.after_version 1 s.version_read,
      count-length (3 ∷ []) s.after_version s.after-header s.count s.count-read,
    ) in
    let front : length bs ≡ 40 + length (a.bits ++ a.padding) + length s.after-seqs =
    omega (arith, five, ap length v.front, ap length c.front, ap length a.parts, length-append v.used s.after_version, length-append c.used s.after-header, length-append v.used c.used, length-append (a.bits ++ a.padding) s.after-seqs) in
    record {
      header = v.used ++ c.used;
      seqs = a.bits;
      seqs_padding = a.padding;
      secs = b.bits;
      secs_padding = b.padding;
      parts = v.front ∙ ap (λ (l : List ℕ). v.used ++ l) (c.front ∙ ap (λ (l : List ℕ). c.used ++ l) (a.parts ∙ ap (λ (l : List ℕ). a.bits ++ a.padding ++ l) b.parts)) ∙ sym (laid a.padding b.padding);
      five = five;
      values = s.values;
      patterns = s.patterns;
      seqs_read = a.whole;
      secs_read = b.whole;
      seqs_padded = (a.short, omega (arith, even, a.bytes, front));
      secs_padded = (b.short, omega (arith, a.bytes, b.bytes, ap length b.parts, length-append (b.bits ++ b.padding) left));
      ignored = λ x y e f.
          rw (laid x y, v.same (length bs) (c.used ++ (a.bits ++ x ++ (b.bits ++ y ++ left))) tt)
          (rw (c.same (length bs) (a.bits ++ x ++ (b.bits ++ y ++ left)) tt)
          (rw (a.ignored x (b.bits ++ y ++ left) e (whole y f))
          (rw (b.ignored y left f b.bytes)
          (ap (λ (q : Pairs). read q left) (λ i. record { seqs = sym s.patterns i; secs = p.secs })))));
    }

pub padding_ignored : PaddingIgnored
padding_ignored room bytes left p h =
    padded room (bits_of bytes) left p (omega (arith, length-bits_of bytes))
    (steps_of (length (bits_of bytes)) room (bits_of bytes) left p (ap (λ (n : ℕ). read_pairs n room (bits_of bytes)) (length-bits_of bytes) ∙ h))
