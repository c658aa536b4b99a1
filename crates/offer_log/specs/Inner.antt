-- What our own functions promise each other. No public statement cites this file.
-- How far a log is, for the functions that carry it from record to record.
use Rattle.std.specs.Prelude.{ℕ, ◌≡◌, List, [], ◌∷◌, ◌++◌, ℤ, Result, Ok, Err}
use Rattle.told.specs.Told.{Told, gave}
use Rattle.tracker.specs.Refusal.{told}
use Rattle.tracker.specs.declared.Refusal.{Refusal}
use Rattle.tracker.specs.declared.TrackedSeq.{TrackedSeq}
use Rattle.tracker.specs.declared.SequenceTracker.{SequenceTracker}
use Rattle.offers.specs.Whole.{Table, whole, Left, leaving}
use Rattle.offers.specs.Offer.{Outcome, offer_to, offered_to}
use Rattle.tallies.specs.Tally.{none_yet, total}
use Rattle.tallies.specs.declared.Tally.{Tally}
use Rattle.offer_log.specs.Log.{Log, done, stopped, run_of}
use Rattle.offer_log.specs.declared.inner.Progress.{Progress}
use Rattle.offer_log.specs.declared.inner.Stop.{Stop}

-- what a record's offer tells, and the table after it
abbrev pub tells : Table → TrackedSeq → Told Outcome
tells w r = offer_to w r.seq r.ts

abbrev pub after_record : Table → TrackedSeq → Table
after_record w r = offered_to w r.seq r.ts (tells w r)

-- a log that a refusal of the record at i stops
abbrev pub stopped_at : Table → Tally → ℕ → List ℕ → Left (Told Log)
stopped_at w n i what = leaving (gave (stopped (what ++ (i ∷ [])) w.state n)) w

-- what the log tells if it ends here
abbrev pub told_end : Result Progress Stop → Log
told_end (Ok p) = done p.table p.tally
told_end (Err s) = stopped (told s.why ++ (s.at ∷ [])) s.table s.tally

-- the state there
abbrev pub state_at : Result Progress Stop → SequenceTracker
state_at (Ok p) = p.table
state_at (Err s) = s.table

-- what it leaves if it ends here
abbrev pub left_by : Result Progress Stop → List ℕ → List ℤ → Left (Told Log)
left_by r seqs secs = leaving (gave (told_end r)) (whole (state_at r) seqs secs)

-- a log that the next record has stopped
abbrev pub stopped_of : SequenceTracker → Tally → Refusal → Stop
stopped_of table n why = record { at = total n; why = why; table = table; tally = n }

-- `step`: one record more
abbrev pub Steps : Progress → List ℕ → List ℤ → TrackedSeq → Result Progress Stop → List ℕ → List ℤ → Type 0
Steps p seqs secs pair r seqs' secs' = left_by r seqs' secs' ≡ run_of (whole p.table seqs secs) p.tally (total p.tally) (pair ∷ [])

-- the log of these records, on a good table: where it ended, and the arrays afterwards
abbrev pub Walks : SequenceTracker → List ℕ → List ℤ → List TrackedSeq → Result Progress Stop → List ℕ → List ℤ → Type 0
Walks table seqs secs records r seqs' secs' = left_by r seqs' secs' ≡ run_of (whole table seqs secs) none_yet 0 records
