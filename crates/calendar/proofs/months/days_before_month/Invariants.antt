use Rattle.std.proofs.Common.{◌≡◌, take}
use Rattle.calendar.specs.Calendar.{lengths_of, summed}
use Rattle.calendar.proofs.months.days_before_month.Given as goal

abbrev pub invariant-loop-i : goal.invariant-loop-i
invariant-loop-i l = l.n ≡ summed (take l.i (lengths_of l.leap))
