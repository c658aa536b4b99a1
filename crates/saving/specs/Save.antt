-- A save of a table: what it tells, and what the buffer holds afterwards.
use Rattle.std.specs.Prelude.{ℕ, ◌≡◌, List, ℤ, length, Result}
use Rattle.told.specs.Told.{Told, told_by, if_good}
use Rattle.told.specs.Over.{filled}
use Rattle.gorilla.specs.Format.{image_bytes}
use Rattle.gorilla.specs.Wide.{wide_of}
use Rattle.tracker.specs.Refusal.{told}
use Rattle.tracker.specs.Table.{check_of, kept}
use Rattle.tracker.specs.declared.SequenceTracker.{SequenceTracker}
use Rattle.told.specs.Room.{room_rule}
use Rattle.encoder.specs.Encode as encoder
use Rattle.saving.specs.declared.Refusal.{Refusal}
use Rattle.saving.specs.declared.Refusal.TheVariants.{Table, Encoder}

-- the number of a refusal, the table's or the encoder's
abbrev pub told_refusal : Refusal → List ℕ
told_refusal (Table r) = told r
told_refusal (Encoder r) = encoder.told r

-- the bytes written, or the refusal's number
abbrev pub told_save : Result ℕ Refusal → Told ℕ
told_save = told_by told_refusal

-- the image of the pairs that a table keeps
abbrev pub kept_image : SequenceTracker → List ℕ → List ℤ → List ℕ
kept_image table seqs secs = image_bytes (kept table seqs) (kept table secs)

-- 14, 11, 12, 13; then 21 where the image finds no room
abbrev pub save_of : SequenceTracker → List ℕ → List ℤ → ℕ → Told ℕ
save_of table seqs secs room = if_good (check_of table seqs secs) (room_rule (length (kept_image table seqs secs)) room)

-- strict: 14, 11, 12, 13; then 20, 21
abbrev pub save_strict_of : SequenceTracker → List ℕ → List ℤ → ℕ → Told ℕ
save_strict_of table seqs secs room =
    if_good (check_of table seqs secs) (if_good (wide_of (kept table seqs) (kept table secs)) (room_rule (length (kept_image table seqs secs)) room))

-- a save by its rule: its answer, and the buffer afterwards: the image, and past it what stood there; refused, it is as before
abbrev pub Saves : (SequenceTracker → List ℕ → List ℤ → ℕ → Told ℕ) → SequenceTracker → List ℕ → List ℤ → List ℕ → Result ℕ Refusal → List ℕ → Type 0
Saves rule table seqs secs out r out' = (told_save r ≡ rule table seqs secs (length out)) × (out' ≡ filled (told_save r) (kept_image table seqs secs) out)
