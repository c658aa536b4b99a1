-- What our own functions promise each other. No public statement cites this file.
use Rattle.std.specs.Prelude.{◌≡◌}
use Rattle.tracker.specs.declared.Second.{Second}
use Rattle.tracker.specs.declared.SequenceTracker.{SequenceTracker}
use Rattle.told.specs.Told.{gave}
use Rattle.offers.specs.Inner.{came_to}
use Rattle.offers.specs.declared.inner.Came.{Came}
use Rattle.tallies.specs.Tally.{counted}
use Rattle.tallies.specs.declared.Tally.{Tally}

-- r is n with one more, by what came of an offer: whatever its table and its second
abbrev pub CountedAs : Came → Tally → Tally → Type 0
CountedAs came n r = (table : SequenceTracker) (ts : Second) → r ≡ counted (gave (came_to table ts came)) n
