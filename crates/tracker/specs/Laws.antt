-- What holds of every good table. Proved in proofs/Good.antt.
use Rattle.std.specs.Prelude.{ℕ, ◌≤◌, ◌≡◌, List, ℤ, length}
use Rattle.told.specs.Told.{gave}
use Rattle.tracker.specs.Table.{kept, check_of}
use Rattle.tracker.specs.declared.SequenceTracker.{SequenceTracker}

-- it keeps as many seconds as sequences, at most 8,192
abbrev pub KeepsPairs : Type 0
KeepsPairs = (table : SequenceTracker) (seqs : List ℕ) (secs : List ℤ) → check_of table seqs secs ≡ gave tt
    → (length (kept table seqs) ≡ length (kept table secs)) × (length (kept table seqs) ≤ 8192)
