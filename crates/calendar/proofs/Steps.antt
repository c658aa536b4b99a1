-- The steps of the code, over plain numbers. Assumes nothing.
use mathlib.Core.Path.{◌≡◌, refl, ap, ◌∙◌, sym}
use mathlib.Core.Bool.{Bool, true, false}
use mathlib.Core.List.{List, [], ◌∷◌}
use Prim.Native.Nat.{ℕ, zero, suc, ◌+◌, ◌*◌, ◌/◌, ◌≤◌, ◌<◌}
use native.Mathlib.Numerals.{add-one}
use native.Mathlib.Omega.{arith}
use borrow.Author.Tests.{lt-ltb, le-ltb, ltb-true, ltb-false}
use lib.Dec.{ltb}
use lib.ListN.{take, get_or, length}
use Rattle.calendar.specs.Calendar.{days_of_years, month_lengths, lengths_of, summed}
use Rattle.calendar.specs.Inner.{part, years_before}
use Rattle.calendar.proofs.Parts.{part_at}
use Rattle.calendar.proofs.Trip.{twelve}

-- ---- month_lengths
pub february : (m : ℕ) → m ≡ 1 → ◌≡◌ {A = ℕ} 29 (get_or (lengths_of true) m 0)
unfolding lengths_of
february m e = rw e

pub other : (m : ℕ) → (m ≡ 1 → ⊥) → get_or month_lengths m 0 ≡ get_or (lengths_of true) m 0
unfolding lengths_of
other zero h = refl
other (suc zero) h = absurd (h refl)
other (suc (suc m)) h = refl

pub common : (m : ℕ) → get_or month_lengths m 0 ≡ get_or (lengths_of false) m 0
unfolding lengths_of
common m = refl

total_more : (ns : List ℕ) (i : ℕ) → i < length ns → summed (take (suc i) ns) ≡ summed (take i ns) + get_or ns i 0
unfolding summed
total_more [] i h = absurd (omega arith)
total_more (n ∷ ns) zero h = omega arith
total_more (n ∷ ns) (suc i) h = omega (arith, total_more ns i (omega arith))

total-all : (ns : List ℕ) (i : ℕ) → length ns ≤ i → summed (take i ns) ≡ summed ns
unfolding summed
total-all [] zero h = refl
total-all [] (suc i) h = refl
total-all (n ∷ ns) zero h = absurd (omega arith)
total-all (n ∷ ns) (suc i) h = ap (λ (x : ℕ). n + x) (total-all ns i (omega arith))

-- one month on
pub ahead_more : (l : Bool) (m : ℕ) → m < 12 → summed (take (m + 1) (lengths_of l)) ≡ summed (take m (lengths_of l)) + get_or (lengths_of l) m 0
ahead_more l m h = rw add-one (total_more (lengths_of l) m (omega (arith, twelve l)))

-- a year's month_lengths are not used up before its days are
pub not_yet : (l : Bool) (m d x : ℕ) → d < summed (lengths_of l) → d ≡ summed (take m (lengths_of l)) + x → m < 12
not_yet l m d x h e = go (ltb m 12) refl
  where
    go : (b : Bool) → ltb m 12 ≡ b → m < 12
    go true t = ltb-true m 12 t
    go false t = absurd (omega (arith, total-all (lengths_of l) m (omega (arith, twelve l, ltb-false m 12 t))))

pub found : (l : Bool) (m d x : ℕ) → m < 12 → d ≡ summed (take m (lengths_of l)) + x → x < get_or (lengths_of l) m 0 → record { index = m; rest = x } ≡ part (lengths_of l) d
found l m d x h e k = sym (ap (part (lengths_of l)) e ∙ part_at (lengths_of l) m x (omega (arith, twelve l)) k)

-- ---- years
pub guess_holds : (d : ℕ) → d < days_of_years (d * 400 / 146097 + 1) → d * 400 / 146097 ≡ years_before d
unfolding years_before
guess_holds d h = rw (lt-ltb d (days_of_years (d * 400 / 146097 + 1)) h)

pub guess_low : (d : ℕ) → days_of_years (d * 400 / 146097 + 1) ≤ d → d * 400 / 146097 + 1 ≡ years_before d
unfolding years_before
guess_low d h = rw (le-ltb d (days_of_years (d * 400 / 146097 + 1)) h)

-- ---- bounds
total_le : (ns : List ℕ) (i : ℕ) → summed (take i ns) ≤ summed ns
unfolding summed
total_le [] zero = omega arith
total_le [] (suc i) = omega arith
total_le (n ∷ ns) zero = omega arith
total_le (n ∷ ns) (suc i) = omega (arith, total_le ns i)

pub year_small : (l : Bool) → summed (lengths_of l) ≤ 366
unfolding lengths_of summed
year_small true = omega arith
year_small false = omega arith

pub ahead_small : (l : Bool) (m : ℕ) → summed (take m (lengths_of l)) ≤ 366
ahead_small l m = omega (arith, total_le (lengths_of l) m, year_small l)

pub with_next : (l : Bool) (m : ℕ) → m < 12 → summed (take m (lengths_of l)) + get_or (lengths_of l) m 0 ≤ 366
with_next l m h = omega (arith, ahead_more l m h, ahead_small l (m + 1))
