use Rattle.report.proofs.Both.{with-dates}
use Rattle.report.proofs.listing_dates.Goals as goal

pub returns : goal.returns
returns c = (_, with-dates c.args.input.now, c.put_listing.ensures)
