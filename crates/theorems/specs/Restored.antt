-- What holds of every restored table. Proved in proofs/Restored.antt.
use Rattle.std.specs.Prelude.{ℕ, ◌≡◌, List, ℤ, Ok}
use Rattle.told.specs.Told.{gave}
use Rattle.tracker.specs.Table.{check_of}
use Rattle.tracker.specs.declared.SequenceTracker.{SequenceTracker}
use Rattle.restoring.specs.Restore.{RestoresAt}

-- a table that a restore made of any bytes is good, in the arrays that it filled: no lookup of it is refused
abbrev pub RestoredGood : Type 0
RestoredGood = (interval : ℕ) (bytes seqs seqs' : List ℕ) (secs secs' : List ℤ) (t : SequenceTracker)
    → RestoresAt interval bytes seqs secs (Ok t) seqs' secs' → check_of t seqs' secs' ≡ gave tt
