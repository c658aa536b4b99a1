use Rattle.std.proofs.Common.{ap, ap₂, map-id}
use Rattle.told.specs.Told.{Told, if_good}
use Rattle.gorilla.specs.Wide.{wide_in, wide_of}
use Rattle.strict.proofs.search.first_wide.Goals as goal

pub returns-in-Some : goal.returns-in-Some
unfolding wide_of
returns-in-Some c = ap (λ (w : Told (Unit {0})). if_good w (wide_in 1 c.args.secs.now)) c.in-Some.ensures

pub returns-in-None : goal.returns-in-None
unfolding wide_of
returns-in-None c = ap₂ if_good c.in-None.ensures (rw map-id at c.first_wide_in-in-None.ensures)
