use Rattle.totals.specs.Totals.{sum_of}
use Rattle.totals.proofs.Sum.{full_is}
use Rattle.totals.proofs.inner.full.Goals as goal

pub returns : goal.returns
returns c = full_is (sum_of c.args.totals) c.requires
