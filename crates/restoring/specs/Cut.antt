-- An image that restores a table, cut off: what `restore`, and `restore_with_interval` at any interval, answers (the reader's own law is in gorilla, specs/Stops.antt).
use Rattle.std.specs.Prelude.{ℕ, ◌<◌, ◌≡◌, List, take, ℤ}
use Rattle.told.specs.Told.{gave, refused}
use Rattle.gorilla.specs.Stops.{CutOff}
use Rattle.decoder.specs.Decode.{image_len_rule}
use Rattle.tracker.specs.declared.SequenceTracker.{SequenceTracker}
use Rattle.restoring.specs.Restore.{restore_at}

-- its image has n bytes, and it is cut after k of them
abbrev pub RestoreTellsWhere : Type 0
RestoreTellsWhere = (interval : ℕ) (bytes seqs : List ℕ) (secs : List ℤ) (t : SequenceTracker) → restore_at interval bytes seqs secs ≡ gave t
    → (n : ℕ) × (image_len_rule bytes ≡ gave n) × ((k : ℕ) → k < n → CutOff (take k bytes) (λ l. restore_at interval (take k bytes) seqs secs ≡ refused l))
