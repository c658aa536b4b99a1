-- Pairs that were read, and the table that they become.
use Rattle.std.specs.Prelude.{ℕ, ◌-◌, cond, List, eqb, get_or, ℤ, pos, None, Some, Option}
use Rattle.told.specs.Told.{Told, gave, if_good}
use Rattle.tracker.specs.Table.{pairs_of}
use Rattle.tracker.specs.declared.SequenceTracker.{SequenceTracker}
use Rattle.tracker.specs.declared.Second.{Second}
use Rattle.fresh.specs.Fresh.{default_capacity, fresh_table}

-- the last of n seconds, none if empty
abbrev pub last_of : List ℤ → ℕ → Option Second
last_of secs n = cond (eqb n 0) None (Some (record { 0 = get_or secs (n - 1) (pos 0) }))

-- the first n pairs: 11, 12, 13; else a table of them at the default capacity and this interval, the last recorded second the last second
abbrev pub settled_of : ℕ → List ℕ → List ℤ → ℕ → Told SequenceTracker
settled_of interval seqs secs n = if_good (pairs_of seqs secs n) (gave (fresh_table default_capacity interval n (last_of secs n)))
