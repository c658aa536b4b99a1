-- What holds of the calendar. Proved in proofs/Laws.antt.
use Rattle.std.specs.Prelude.{ℕ, ◌+◌, ◌-◌, ◌*◌, ◌/◌, ◌≡◌, Bool, true, false, ◌||◌, ◌&&◌, List, [], ◌∷◌, ltb, eqb, ℤ}
use Rattle.std.specs.Int.Signed.{lt_z}
use Rattle.limits.specs.Domain.{outside}
use Rattle.calendar.specs.declared.Date.{Date}
use Rattle.calendar.specs.Calendar.{days_of_years, second_of, is_date, IsDateOf}

-- the numbers of a date, the year first
abbrev pub numbers : Date → List ℕ
numbers d = d.year ∷ d.month ∷ d.day ∷ d.hour ∷ d.minute ∷ d.second ∷ []

-- a list of numbers before another: at the first place at which they differ its number is below
unfoldable pub before : List ℕ → List ℕ → Bool
before [] [] = false
before [] (y ∷ ys) = true
before (x ∷ xs) [] = false
before (x ∷ xs) (y ∷ ys) = ltb x y || eqb x y && before xs ys

pub record Calendar : Type 0 where
  -- the days of the years are 365 for each, and one for each that is leap
  pub closed_form : (k : ℕ) → days_of_years k ≡ 365 * k + k / 4 - k / 100 + k / 400
  -- each second of the domain is that of a date, each date's second is in the domain, and no two dates have one second
  pub a_date : (z : ℤ) → outside z ≡ false → (d : Date) × IsDateOf z d
  pub in_domain : (d : Date) → is_date d ≡ true → outside (second_of d) ≡ false
  pub one_date : (z : ℤ) (d e : Date) → IsDateOf z d → IsDateOf z e → d ≡ e
  -- the order of the dates, by year, month, day, hour, minute and second, is the order of their seconds
  pub order : (d e : Date) → is_date d ≡ true → is_date e ≡ true → before (numbers d) (numbers e) ≡ lt_z (second_of d) (second_of e)
