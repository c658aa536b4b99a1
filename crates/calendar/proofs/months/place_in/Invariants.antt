use Rattle.std.proofs.Common.{◌≡◌, ◌+◌, take}
use Rattle.calendar.specs.Calendar.{lengths_of, summed}
use Rattle.calendar.proofs.months.place_in.Given as goal

abbrev pub invariant-loop-m : goal.invariant-loop-m
invariant-loop-m l = l.d ≡ summed (take l.m (lengths_of l.leap)) + l.day
