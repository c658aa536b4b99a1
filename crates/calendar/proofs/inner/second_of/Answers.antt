use Rattle.calendar.proofs.Moments.{valid_means}
use Rattle.calendar.proofs.inner.second_of.Goals as goal

pub moment_of-requires : goal.moment_of-requires
moment_of-requires c = valid_means c.args.d c.requires
