-- The numbers of a date have two or four digits. Assumes nothing.
use mathlib.Core.Path.{◌≡◌}
use mathlib.Core.Bool.{Bool, true, false}
use mathlib.Core.List.{List, [], ◌∷◌}
use Prim.Native.Nat.{ℕ, zero, suc, ◌-◌, ◌≤◌}
use native.Mathlib.Omega.{arith}
use lib.IntN.{ℤ}
use lib.ListN.{get_or}
use Rattle.limits.specs.Domain.{outside}
use Rattle.calendar.specs.declared.Date.{Date}
use Rattle.calendar.specs.Calendar.{leap, lengths_of}
use Rattle.calendar.specs.Inner.{Valid, date_of, moment_at}
use Rattle.calendar.proofs.Moments.{moment_below}
use Rattle.calendar.proofs.Trip.{date_valid}
use Rattle.date_writer.specs.Inner.{Digits}

abbrev Every : List ℕ → ℕ → Type 0
Every [] b = Unit {0}
Every (n ∷ ns) b = (n ≤ b) × Every ns b

bounded : (ns : List ℕ) (b i : ℕ) → Every ns b → get_or ns i 0 ≤ b
bounded [] b zero e = omega arith
bounded [] b (suc i) e = omega arith
bounded (n ∷ ns) b zero e = e.0
bounded (n ∷ ns) b (suc i) e = bounded ns b i e.1

-- no month has more than 31 days
days_31 : (l : Bool) (m : ℕ) → get_or (lengths_of l) m 0 ≤ 31
unfolding lengths_of
days_31 true m = bounded (lengths_of true) 31 m (omega arith)
days_31 false m = bounded (lengths_of false) 31 m (omega arith)

pub valid_digits : (d : Date) → Valid d → Digits d
valid_digits d v = (
  omega (arith, v.year),
  omega (arith, v.month),
  omega (arith, v.day, days_31 (leap d.year) (d.month - 1)),
  omega (arith, v.time.0),
  omega (arith, v.time.1),
  omega (arith, v.time.2),
)

pub digits_of : (z : ℤ) → outside z ≡ false → Digits (date_of (moment_at z))
digits_of z h = valid_digits (date_of (moment_at z)) (date_valid (moment_at z) (moment_below z h))
