-- The Gregorian calendar, years 0001 to 9999 (docs/RULES.md, "Dates"): which dates there are, and the second of each.
use Rattle.std.specs.Prelude.{ℕ, zero, suc, ◌+◌, ◌-◌, ◌*◌, ◌%◌, ◌≡◌, Bool, true, cond, not, ◌&&◌, ◌||◌, List, [], ◌∷◌, ltb, leb, eqb, take, get_or, set, ℤ}
use Rattle.std.proofs.Math.IntN.{sub_ℕ}
use Rattle.calendar.specs.declared.Date.{Date}

-- every fourth year, but of the hundredth ones only every fourth
unfoldable pub leap : ℕ → Bool
leap year = eqb (year % 4) 0 && (not (eqb (year % 100) 0) || eqb (year % 400) 0)

-- the lengths of the months of a common year
abbrev pub month_lengths : List ℕ
month_lengths = 31 ∷ 28 ∷ 31 ∷ 30 ∷ 31 ∷ 30 ∷ 31 ∷ 31 ∷ 30 ∷ 31 ∷ 30 ∷ 31 ∷ []

-- of a leap year, or of another: February, which stands at 1, has 29 days in a leap year
unfoldable pub lengths_of : Bool → List ℕ
lengths_of isLeap = cond isLeap (set month_lengths 1 29) month_lengths

unfoldable pub summed : List ℕ → ℕ
summed [] = 0
summed (n ∷ ns) = n + summed ns

-- the days of the years 1 to k: those of their months, year by year
unfoldable pub days_of_years : ℕ → ℕ
days_of_years zero = 0
days_of_years (suc k) = days_of_years k + summed (lengths_of (leap (suc k)))

-- the days of the years before, of the months before, and of this month before
abbrev pub days_before : Date → ℕ
days_before d = days_of_years (d.year - 1) + summed (take (d.month - 1) (lengths_of (leap d.year))) + (d.day - 1)

-- the seconds from 0001-01-01T00:00:00Z on
abbrev pub moment_of : Date → ℕ
moment_of d = days_before d * 86400 + d.hour * 3600 + d.minute * 60 + d.second

-- the second: 62,135,596,800 are before 1970. `sub_ℕ a b` is a - b
abbrev pub second_of : Date → ℤ
second_of d = sub_ℕ (moment_of d) 62135596800

-- lo to hi
abbrev pub within : ℕ → ℕ → ℕ → Bool
within lo hi n = leb lo n && leb n hi

-- 1 to the length of the month
unfoldable pub is_day : ℕ → ℕ → ℕ → Bool
is_day year month day = within 1 (get_or (lengths_of (leap year)) (month - 1) 0) day

unfoldable pub is_time : ℕ → ℕ → ℕ → Bool
is_time hour minute second = ltb hour 24 && (ltb minute 60 && ltb second 60)

-- the calendar has this date and time of day
unfoldable pub is_date : Date → Bool
is_date d = within 1 9999 d.year && (within 1 12 d.month && (is_day d.year d.month d.day && is_time d.hour d.minute d.second))

-- d is a date of the calendar, and z its second
abbrev pub IsDateOf : ℤ → Date → Type 0
IsDateOf z d = (is_date d ≡ true) × (second_of d ≡ z)
