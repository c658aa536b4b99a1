-- THE LAW: from a moment to its date and back, and from a date to its moment and back. Assumes nothing.
use mathlib.Core.Path.{◌≡◌, refl, ap, ◌∙◌}
use mathlib.Core.Bool.{Bool, true, false}
use mathlib.Core.List.{List}
use Prim.Native.Nat.{ℕ, ◌+◌, ◌-◌, ◌*◌, ◌/◌, ◌%◌, ◌≤◌, ◌<◌}
use native.Mathlib.Omega.{arith}
use borrow.Author.Tests.{ltb-true, ltb-false}
use lib.Dec.{ltb}
use lib.ListN.{take, get_or, length}
use Rattle.calendar.specs.declared.Date.{Date}
use Rattle.calendar.specs.Calendar.{leap, days_of_years, lengths_of, summed, days_before, moment_of}
use Rattle.calendar.specs.Inner.{Valid, Part, part, years_before, dated, date_at, date_of}
use Rattle.calendar.proofs.Parts.{part-sum, part_in, part_at, part-below}
use Rattle.calendar.proofs.YearDays.{closed_form, year-length, days_mono, year-from, year_to, year_is}

pub twelve : (l : Bool) → length (lengths_of l) ≡ 12
unfolding lengths_of
twelve true = refl
twelve false = refl

all_days : days_of_years 9999 ≡ 3652059
all_days = closed_form 9999

less_one : (n : ℕ) → n + 1 - 1 ≡ n
less_one n = omega arith

-- ---- a date made of a year, a time and a place among the month_lengths
abbrev lens : ℕ → List ℕ
lens y = lengths_of (leap (y + 1))

moment_dated : (y s : ℕ) (p : Part) → moment_of (dated y s p) ≡ (days_of_years y + summed (take p.index (lens y)) + p.rest) * 86400 + s
moment_dated y s p = rw (less_one y, less_one p.index) (clock (days_of_years y + summed (take p.index (lens y))) p.rest s)
  where
    clock : (d r s : ℕ) → (d + (r + 1 - 1)) * 86400 + s / 3600 * 3600 + s / 60 % 60 * 60 + s % 60 ≡ (d + r) * 86400 + s
    clock d r s = omega arith

module _ (d : ℕ) where
  pub in_year : d - days_of_years (years_before d) < summed (lens (years_before d))
  in_year = omega (arith, year-from d, year_to d, year-length (years_before d))

  place : Part
  place = part (lens (years_before d)) (d - days_of_years (years_before d))

  place-sum : days_of_years (years_before d) + summed (take place.index (lens (years_before d))) + place.rest ≡ d
  unfolding place
  place-sum = omega (arith, part-sum (lens (years_before d)) (d - days_of_years (years_before d)), year-from d)

  pub last-year : d < 3652059 → years_before d ≤ 9998
  last-year h = go (ltb (years_before d) 9999) refl
    where
      go : (b : Bool) → ltb (years_before d) 9999 ≡ b → years_before d ≤ 9998
      go true e = omega (arith, ltb-true (years_before d) 9999 e)
      go false e = absurd (omega (arith, days_mono 9999 (years_before d) (ltb-false (years_before d) 9999 e), year-from d, all_days))

  dated_valid : (s : ℕ) → d < 3652059 → s < 86400 → Valid (date_at d s (years_before d))
  dated_valid s h k =
      let i = part_in (lens (years_before d)) (d - days_of_years (years_before d)) in_year in
      record {
        from_1 = (omega arith, omega arith, omega arith);
        year = omega (arith, last-year h);
        month = omega (arith, i.0, twelve (leap (years_before d + 1)));
        day = rw (less_one (part (lens (years_before d)) (d - days_of_years (years_before d))).index) (omega (arith, i.1));
        time = (omega arith, omega arith, omega arith);
      }

-- ---- the law, one way
pub date_valid : (n : ℕ) → n < 315537897600 → Valid (date_of n)
unfolding date_of
date_valid n h = dated_valid (n / 86400) (n % 86400) (omega arith) (omega arith)

pub moment_date : (n : ℕ) → moment_of (date_of n) ≡ n
unfolding date_of place
moment_date n =
    moment_dated (years_before (n / 86400)) (n % 86400) (place (n / 86400))
    ∙ ap (λ (d : ℕ). d * 86400 + n % 86400) (place-sum (n / 86400))
    ∙ whole n
  where
    whole : (n : ℕ) → n / 86400 * 86400 + n % 86400 ≡ n
    whole n = omega arith

-- ---- and the other
module _ (d : Date) (v : Valid d) where
  abbrev clock : ℕ
  clock = d.hour * 3600 + d.minute * 60 + d.second

  abbrev ahead : ℕ
  ahead = summed (take (d.month - 1) (lengths_of (leap d.year)))

  pub clock_in : clock < 86400
  clock_in = omega (arith, v.time.0, v.time.1, v.time.2)

  months_in : d.month - 1 < length (lengths_of (leap d.year))
  months_in = omega (arith, twelve (leap d.year), v.month, v.from_1.1)

  pub day_in : d.day - 1 < get_or (lengths_of (leap d.year)) (d.month - 1) 0
  day_in = omega (arith, v.day, v.from_1.2)

  year-back : d.year - 1 + 1 ≡ d.year
  year-back = omega (arith, v.from_1.0)

  year-end : days_of_years (d.year - 1 + 1) ≡ days_of_years (d.year - 1) + summed (lengths_of (leap d.year))
  year-end = year-length (d.year - 1) ∙ ap (λ (y : ℕ). days_of_years (d.year - 1) + summed (lengths_of (leap y))) year-back

  year-found : years_before (days_before d) ≡ d.year - 1
  year-found =
      year_is (days_before d) (d.year - 1) (omega arith)
      (omega (arith, year-end, part-below (lengths_of (leap d.year)) (d.month - 1) (d.day - 1) months_in day_in))

  place_found : part (lengths_of (leap d.year)) (days_before d - days_of_years (d.year - 1)) ≡ record { index = d.month - 1; rest = d.day - 1 }
  place_found =
      let e : days_before d - days_of_years (d.year - 1) ≡ ahead + (d.day - 1) = omega arith in
      ap (part (lengths_of (leap d.year))) e ∙ part_at (lengths_of (leap d.year)) (d.month - 1) (d.day - 1) months_in day_in

  day-of : moment_of d / 86400 ≡ days_before d
  day-of = days (days_before d) d.hour d.minute d.second clock_in
    where
      days : (k h m s : ℕ) → h * 3600 + m * 60 + s < 86400 → (k * 86400 + h * 3600 + m * 60 + s) / 86400 ≡ k
      days k h m s l = omega arith

  time-of : moment_of d % 86400 ≡ clock
  time-of = rest (days_before d) d.hour d.minute d.second clock_in
    where
      rest : (k h m s : ℕ) → h * 3600 + m * 60 + s < 86400 → (k * 86400 + h * 3600 + m * 60 + s) % 86400 ≡ h * 3600 + m * 60 + s
      rest k h m s l = omega arith

  hour_of : clock / 3600 ≡ d.hour
  hour_of = omega (arith, v.time.1, v.time.2)

  minute_of : clock / 60 % 60 ≡ d.minute
  minute_of = omega (arith, v.time.1, v.time.2)

  second-of : clock % 60 ≡ d.second
  second-of = omega (arith, v.time.2)

  month-back : d.month - 1 + 1 ≡ d.month
  month-back = omega (arith, v.from_1.1)

  day-back : d.day - 1 + 1 ≡ d.day
  day-back = omega (arith, v.from_1.2)

  made : dated (d.year - 1) clock (record { index = d.month - 1; rest = d.day - 1 }) ≡ d
  made = λ i. record { year = year-back i; month = month-back i; day = day-back i; hour = hour_of i; minute = minute_of i; second = second-of i }

  date-at : date_at (days_before d) clock (d.year - 1) ≡ d
  date-at =
      ap (λ (y : ℕ). dated (d.year - 1) clock (part (lengths_of (leap y)) (days_before d - days_of_years (d.year - 1)))) year-back
      ∙ ap (dated (d.year - 1) clock) place_found
      ∙ made

  pub date_moment : date_of (moment_of d) ≡ d
  unfolding date_of
  date_moment = rw (day-of, time-of, year-found) date-at

  -- the day is before the next year
  pub day-below : days_before d < days_of_years d.year
  day-below =
      omega (arith, year-end, ap days_of_years year-back, part-below (lengths_of (leap d.year)) (d.month - 1) (d.day - 1) months_in day_in)

  pub moment_in : moment_of d < 315537897600
  moment_in = omega (arith, clock_in, days_mono d.year 9999 v.year, all_days, day-below)
