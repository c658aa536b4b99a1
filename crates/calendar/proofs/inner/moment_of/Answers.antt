use Rattle.std.proofs.Common.{arith}
use Rattle.calendar.proofs.Calls.{m_small}
use Rattle.calendar.proofs.inner.moment_of.Goals as goal

pub overflow_add-days : goal.overflow_add-days
overflow_add-days c = omega (arith, m_small c.args.d c.requires c.days_of_years.result c.days_before_month.result c.is_leap.result c.days_of_years.ensures c.is_leap.ensures c.days_before_month.ensures)
