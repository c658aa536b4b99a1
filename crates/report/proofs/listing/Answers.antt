use Rattle.report.proofs.Both.{with_seconds}
use Rattle.report.proofs.listing.Goals as goal

pub returns : goal.returns
returns c = rw (with_seconds c.args.input.now) at c.put_listing.ensures
