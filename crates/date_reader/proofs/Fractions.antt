-- A fraction changes nothing in what is read. Assumes nothing.
use mathlib.Core.Path.{◌≡◌, refl, ◌∙◌, sym}
use mathlib.Core.Bool.{Bool, true, false, cond, not, ◌||◌, true≢false}
use mathlib.Core.List.{List, [], ◌∷◌, ◌++◌}
use Prim.Native.Nat.{ℕ, zero, suc, ◌+◌, ◌-◌, ◌*◌, ◌≤◌}
use native.Mathlib.Omega.{arith}
use lib.Dec.{eqb}
use lib.ListN.{length}
use Rattle.gorilla.specs.Parser.{Read, read, Reader, and_then, give}
use Rattle.text_reader.specs.Digits.{is_digit}
use Rattle.text_reader.proofs.Readers.{then_read}
use Rattle.calendar.specs.declared.Date.{Date}
use Rattle.calendar.proofs.Moments.{and_true}
use Rattle.date_reader.specs.Grammar.{bad, more_digits, either, up_to, fraction, offset, end, date_time}
use Rattle.date_reader.specs.Fraction.{all_digits, other_first}
use Rattle.date_reader.specs.declared.Stamp.{Stamp}

-- what follows the local date and time of day
abbrev after_head : Date → List ℕ → Read Stamp
after_head d s = and_then (fraction s) (λ _ s. and_then (offset s) (λ z s. and_then (end s) (λ _. give (record { date = d; zone = z }))))

-- ---- what is read of k bytes and then of X or of Y
abbrev Same : {A : Type 0} → List ℕ → List ℕ → ℕ → Reader A → Type 0
Same X Y k m = (l : List ℕ) → length l ≡ k → m (l ++ X) ≡ m (l ++ Y)

by_test : {A B : Type 0} (f : A → Reader B) (t : Bool) (m n : Read A) → and_then m f ≡ and_then n f → and_then (cond t m bad) f ≡ and_then (cond t n bad) f
by_test f true m n e = e
by_test f false m n e = refl

module _ {A : Type 0} (X Y : List ℕ) (j : ℕ) where
  digits_same : (k n : ℕ) (f : ℕ → Reader A) → ((a : ℕ) → Same X Y j (f a)) → Same X Y (k + j) (λ s. and_then (more_digits k n s) f)
  unfolding more_digits
  digits_same zero n f h l e = h n l (omega (arith, e))
  digits_same (suc k) n f h [] e = absurd (omega (arith, e))
  digits_same (suc k) n f h (x ∷ l) e = by_test f (is_digit x) (more_digits k (n * 10 + (x - 48)) (l ++ X)) (more_digits k (n * 10 + (x - 48)) (l ++ Y)) (digits_same k (n * 10 + (x - 48)) f h l (omega (arith, e)))

  either_same : (a b : ℕ) (f : Reader A) → Same X Y j f → Same X Y (1 + j) (λ s. and_then (either a b s) (λ _. f))
  unfolding either
  either_same a b f h [] e = absurd (omega (arith, e))
  either_same a b f h (x ∷ l) e = by_test (λ _. f) (eqb x a || eqb x b) (read tt (l ++ X)) (read tt (l ++ Y)) (h l (omega (arith, e)))

-- local date and time of day: 19 bytes
head_same : (X Y : List ℕ) → ((d : Date) → after_head d X ≡ after_head d Y) → Same X Y 19 date_time
unfolding date_time
head_same X Y h =
    digits_same X Y 15 4 0 _ (λ year. either_same X Y 14 45 45 _
    (digits_same X Y 12 2 0 _ (λ month. either_same X Y 11 45 45 _
    (digits_same X Y 9 2 0 _ (λ day. either_same X Y 8 84 116 _
    (digits_same X Y 6 2 0 _ (λ hour. either_same X Y 5 58 58 _
    (digits_same X Y 3 2 0 _ (λ minute. either_same X Y 2 58 58 _
    (digits_same X Y 0 2 0 _ (λ second. ended (record { year = year; month = month; day = day; hour = hour; minute = minute; second = second }))))))))))))
  where
    ended : (d : Date) (l : List ℕ) → length l ≡ 0 → after_head d (l ++ X) ≡ after_head d (l ++ Y)
    ended d [] e = h d
    ended d (x ∷ l) e = absurd (omega (arith, e))

-- ---- a fraction, and what follows it
not_so : (a : Bool) → not a ≡ true → a ≡ false
not_so true e = absurd (true≢false (sym e))
not_so false e = refl

none_more : (k : ℕ) (tail : List ℕ) → other_first tail ≡ true → up_to k tail ≡ read tt tail
unfolding up_to other_first
none_more zero tail h = refl
none_more (suc k) [] h = refl
none_more (suc k) (x ∷ s) h = rw (not_so (is_digit x) (and_true (not (is_digit x)) (not (eqb x 46)) h).0)

up_to_lem : (k : ℕ) (ds tail : List ℕ) → length ds ≤ k → all_digits ds ≡ true → other_first tail ≡ true → up_to k (ds ++ tail) ≡ read tt tail
unfolding up_to all_digits
up_to_lem k [] tail l h g = none_more k tail g
up_to_lem zero (x ∷ ds) tail l h g = absurd (omega arith)
up_to_lem (suc k) (x ∷ ds) tail l h g = let p = and_true (is_digit x) (all_digits ds) h in rw p.0 (up_to_lem k ds tail (omega arith) p.1 g)

no_fraction : (tail : List ℕ) → other_first tail ≡ true → fraction tail ≡ read tt tail
unfolding fraction other_first
no_fraction [] h = refl
no_fraction (x ∷ s) h = rw (not_so (eqb x 46) (and_true (not (is_digit x)) (not (eqb x 46)) h).1)

a_fraction : (ds tail : List ℕ) → 1 ≤ length ds → length ds ≤ 9 → all_digits ds ≡ true → other_first tail ≡ true → fraction (46 ∷ ds ++ tail) ≡ read tt tail
unfolding fraction all_digits more_digits
a_fraction [] tail k l h g = absurd (omega arith)
a_fraction (x ∷ ds) tail k l h g =
    let p = and_true (is_digit x) (all_digits ds) h in
    rw p.0 (up_to_lem 8 ds tail (omega arith) p.1 g)

pub left_out : (head ds tail : List ℕ) → length head ≡ 19 → 1 ≤ length ds → length ds ≤ 9 → all_digits ds ≡ true → other_first tail ≡ true
    → date_time (head ++ (46 ∷ ds ++ tail)) ≡ date_time (head ++ tail)
left_out head ds tail e k l h g =
    head_same (46 ∷ ds ++ tail) tail
    (λ d. then_read _ (a_fraction ds tail k l h g) ∙ sym (then_read _ (no_fraction tail g)))
    head e
