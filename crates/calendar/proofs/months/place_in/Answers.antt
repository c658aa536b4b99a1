use Rattle.std.proofs.Common.{arith, rules}
use Rattle.calendar.proofs.Steps.{not_yet, found}
use Rattle.calendar.proofs.months.place_in.Goals as goal

pub returns-then-day-length : goal.returns-then-day-length
returns-then-day-length c = found c.args.leap c.loop-m.m c.args.d c.loop-m.day (search rules) c.loop-m.invariant (search rules)

pub unreachable-requires : goal.unreachable-requires
unreachable-requires c = omega (arith, not_yet c.args.leap c.loop-m.m c.args.d c.loop-m.day c.requires c.loop-m.invariant, c.loop-m-test.false)
