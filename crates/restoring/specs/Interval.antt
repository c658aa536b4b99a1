-- What naming an interval changes: `restore_with_interval` refuses one that is not valid, and else answers as `restore`, with that interval in the state.
use Rattle.std.specs.Prelude.{ℕ, ◌≡◌, cond, List, [], ◌∷◌, ℤ}
use Rattle.told.specs.Told.{Told, gave, refused}
use Rattle.limits.specs.Settings.{bad_settings}
use Rattle.fresh.specs.Fresh.{default_capacity, fresh_table}
use Rattle.tracker.specs.declared.SequenceTracker.{SequenceTracker}
use Rattle.restoring.specs.Restore.{restore_at, restore_of}

-- the state with another interval, and no offer counted
abbrev pub with_interval : ℕ → SequenceTracker → SequenceTracker
with_interval interval t = fresh_table t.capacity interval t.count t.last_recorded_ts

-- what is told, with another interval in the state
abbrev pub told_with : ℕ → Told SequenceTracker → Told SequenceTracker
told_with interval (gave t) = gave (with_interval interval t)
told_with interval (refused what) = refused what

abbrev pub AsRestore : Type 0
AsRestore = (interval : ℕ) (bytes seqs : List ℕ) (secs : List ℤ)
    → restore_at interval bytes seqs secs ≡ cond (bad_settings default_capacity interval) (refused (15 ∷ [])) (told_with interval (restore_of bytes seqs secs))
