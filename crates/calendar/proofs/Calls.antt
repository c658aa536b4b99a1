-- What the calls of the code come to, over plain numbers. Assumes nothing.
use mathlib.Core.Path.{◌≡◌, ap, ◌∙◌}
use mathlib.Core.Bool.{Bool}
use Prim.Native.Nat.{ℕ, ◌+◌, ◌-◌, ◌*◌, ◌/◌, ◌%◌, ◌≤◌, ◌<◌}
use native.Mathlib.Omega.{arith}
use lib.ListN.{take}
use Rattle.calendar.specs.declared.Date.{Date}
use Rattle.calendar.specs.Calendar.{leap, days_of_years, summed, lengths_of, moment_of}
use Rattle.calendar.specs.Inner.{Part, part, dated, years_before, date_of, Valid}
use Rattle.calendar.proofs.Parts.{part_in, part-sum}
use Rattle.calendar.proofs.YearDays.{year-from}
use Rattle.calendar.proofs.Steps.{year_small}
use Rattle.calendar.proofs.Trip.{twelve, last-year, in_year, moment_in}

-- ---- date_at
module _ (n y : ℕ) (h : n < 315537897600) (e : y ≡ years_before (n / 86400)) where
  pub y_small : y ≤ 9998
  y_small = omega (arith, last-year (n / 86400) (omega arith))

  module _ (r : ℕ) (l : Bool) (re : r ≡ days_of_years y) (le : l ≡ leap (y + 1)) where
    pub y_from : r ≤ n / 86400
    y_from = omega (arith, ap days_of_years e, year-from (n / 86400))

    pub y_in : n / 86400 - r < summed (lengths_of l)
    y_in = rw (le, re, e) (in_year (n / 86400))

    module _ (p : Part) (pe : p ≡ part (lengths_of l) (n / 86400 - r)) where
      pub p_small : (p.index < 12) × (p.rest ≤ 366)
      p_small =
          let i = part_in (lengths_of l) (n / 86400 - r) y_in in
          rw pe
          (omega (arith, i.0, twelve l), omega (arith, part-sum (lengths_of l) (n / 86400 - r), y_in, year_small l))

      pub p_made : dated y (n % 86400) p ≡ date_of n
      unfolding date_of
      p_made = ap (dated y (n % 86400)) pe ∙ rest
        where
          rest : dated y (n % 86400) (part (lengths_of l) (n / 86400 - r)) ≡ date_of n
          rest = rw (le, re, e)

-- ---- moment_of
module _ (d : Date) (v : Valid d) (r s : ℕ) (l : Bool) (re : r ≡ days_of_years (d.year - 1)) (le : l ≡ leap d.year) (se : s ≡ summed (take (d.month - 1) (lengths_of l))) where
  pub m_is : (r + s + (d.day - 1)) * 86400 + d.hour * 3600 + d.minute * 60 + d.second ≡ moment_of d
  m_is = rw (se, le, re)

  pub m_small : (r + s + (d.day - 1)) * 86400 + d.hour * 3600 + d.minute * 60 + d.second < 315537897600
  m_small = omega (arith, m_is, moment_in d v)
