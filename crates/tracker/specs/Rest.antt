-- A state and its totals apart.
use Rattle.totals.specs.Totals.{no_totals}
use Rattle.totals.specs.declared.Totals.{Totals}
use Rattle.tracker.specs.declared.SequenceTracker.{SequenceTracker}

-- the state with other totals
abbrev pub with_totals : Totals → SequenceTracker → SequenceTracker
with_totals n t = record { count = t.count; capacity = t.capacity; interval_secs = t.interval_secs; last_recorded_ts = t.last_recorded_ts; totals = n }

-- all of the state but the totals: two states have the same rest where they are equal with their totals at zero
abbrev pub rest_of : SequenceTracker → SequenceTracker
rest_of t = with_totals no_totals t
