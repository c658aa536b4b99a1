-- What our own functions promise each other. No public statement cites this file.
use Rattle.std.specs.Prelude.{Result, Ok, Err}
use Rattle.told.specs.Told.{Told, gave, refused}
use Rattle.totals.specs.declared.Fate.TheVariants as fate
use Rattle.tracker.specs.Refusal.{told}
use Rattle.tracker.specs.declared.Refusal.{Refusal}
use Rattle.tracker.specs.declared.Second.{Second}
use Rattle.tracker.specs.declared.SequenceTracker.{SequenceTracker}
use Rattle.offers.specs.Offer.{Outcome, recorded, went_back, too_soon, pair_refused, counting, state_with}
use Rattle.offers.specs.declared.inner.Came.{Came}
use Rattle.offers.specs.declared.inner.Came.TheVariants.{Recorded, WentBack, TooSoon, PairRefused}

-- the outcome of an offer of this second, to a table of this state, of which this came
abbrev pub came_to : SequenceTracker → Second → Came → Outcome
came_to table ts (Recorded count) = recorded (state_with table count ts)
came_to table ts WentBack = went_back (counting fate.WentBack table)
came_to table ts TooSoon = too_soon (counting fate.TooSoon table)
came_to table ts (PairRefused why) = pair_refused (told why) (counting fate.Refused table)

-- what it tells
abbrev pub told_came : SequenceTracker → Second → Result Came Refusal → Told Outcome
told_came table ts (Ok came) = gave (came_to table ts came)
told_came table ts (Err why) = refused (told why)

-- the state after it
abbrev pub state_after : SequenceTracker → Second → Came → SequenceTracker
state_after table ts (Recorded count) = state_with table count ts
state_after table ts WentBack = counting fate.WentBack table
state_after table ts TooSoon = counting fate.TooSoon table
state_after table ts (PairRefused why) = counting fate.Refused table
