-- What our own functions promise each other. No public statement cites this file: the date of a second is that whose second it is
-- (specs/Calendar.antt: `IsDateOf`), and how it is found is told here.
use Rattle.std.specs.Prelude.{ℕ, suc, ◌+◌, ◌-◌, ◌*◌, ◌/◌, ◌%◌, ◌≤◌, ◌<◌, cond, List, [], ◌∷◌, ltb, get_or, ℤ, pos, negsuc}
use Rattle.calendar.specs.declared.Date.{Date}
use Rattle.calendar.specs.Calendar.{leap, lengths_of, days_of_years}

-- what the test of a date says
pub record Valid (d : Date) : Type 0 where
  pub from_1 : (1 ≤ d.year) × (1 ≤ d.month) × (1 ≤ d.day)
  pub year : d.year ≤ 9999
  pub month : d.month ≤ 12
  pub day : d.day ≤ get_or (lengths_of (leap d.year)) (d.month - 1) 0
  pub time : (d.hour < 24) × (d.minute < 60) × (d.second < 60)

-- a place in a row of parts of these lengths: which part, and how far in it
pub record Part : Type 0 where
  pub index : ℕ
  pub rest : ℕ

abbrev pub further : Part → Part
further p = record { index = suc p.index; rest = p.rest }

unfoldable pub part : List ℕ → ℕ → Part
part [] d = record { index = 0; rest = d }
part (n ∷ ns) d = cond (ltb d n) (record { index = 0; rest = d }) (further (part ns (d - n)))

-- how many whole years stand before day d: 146,097 days are 400 years, which is right or one too low
unfoldable pub years_before : ℕ → ℕ
years_before d = cond (ltb d (days_of_years (d * 400 / 146097 + 1))) (d * 400 / 146097) (d * 400 / 146097 + 1)

abbrev pub dated : ℕ → ℕ → Part → Date
dated y s p = record {
  year = y + 1;
  month = p.index + 1;
  day = p.rest + 1;
  hour = s / 3600;
  minute = s / 60 % 60;
  second = s % 60;
}

abbrev pub date_at : ℕ → ℕ → ℕ → Date
date_at d s y = dated y s (part (lengths_of (leap (y + 1))) (d - days_of_years y))

-- the date of a moment
unfoldable pub date_of : ℕ → Date
date_of n = date_at (n / 86400) (n % 86400) (years_before (n / 86400))

-- the moment of a second
unfoldable pub moment_at : ℤ → ℕ
moment_at (pos n) = 62135596800 + n
moment_at (negsuc n) = 62135596800 - suc n
