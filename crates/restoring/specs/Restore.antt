-- Restore: what it tells, and what the lent arrays hold afterwards.
use Rattle.std.specs.Prelude.{ℕ, ◌≡◌, Bool, cond, ◌||◌, List, [], ◌∷◌, leb, ltb, length, ℤ, Result}
use Rattle.told.specs.Told.{Told, refused, told_by}
use Rattle.told.specs.Over.{filled}
use Rattle.gorilla.specs.Parser.{Read, read}
use Rattle.gorilla.specs.Parser as parser
use Rattle.gorilla.specs.Reading.{Pairs, read_image, pairs_read}
use Rattle.limits.specs.Settings.{bad_settings}
use Rattle.tracker.specs.Refusal.{told}
use Rattle.tracker.specs.declared.SequenceTracker.{SequenceTracker}
use Rattle.code_reader.specs.Refusal as reader
use Rattle.fresh.specs.Fresh.{default_capacity, default_interval_secs}
use Rattle.settling.specs.Settle.{settled_of}
use Rattle.restoring.specs.declared.Refusal.{Refusal}
use Rattle.restoring.specs.declared.Refusal.TheVariants.{Table, Decoder}

-- the number of a refusal, the table's or the list reader's
abbrev pub told_refusal : Refusal → List ℕ
told_refusal (Table r) = told r
told_refusal (Decoder r) = reader.told r

-- the table's state, or the refusal's number
abbrev pub told_restore : Result SequenceTracker Refusal → Told SequenceTracker
told_restore = told_by told_refusal

-- the list reader with room for 8,192 pairs
abbrev pub read_table : List ℕ → Read Pairs
read_table bytes = read_image (λ n. leb n 8192) bytes

-- what was read, judged, as a table of this interval
abbrev pub judged : ℕ → Read Pairs → Told SequenceTracker
judged interval (read p left) = settled_of interval p.seqs p.secs (length p.seqs)
judged interval (parser.refused what) = refused what

-- an array is under 8,192
abbrev pub too_short : ℕ → ℕ → Bool
too_short seqs secs = ltb seqs 8192 || ltb secs 8192

-- 14 if an array is under 8,192, then the reader's refusals, then 11, 12, 13
abbrev pub read_into : ℕ → List ℕ → List ℕ → List ℤ → Told SequenceTracker
read_into interval bytes seqs secs = cond (too_short (length seqs) (length secs)) (refused (14 ∷ [])) (judged interval (read_table bytes))

-- `restore_with_interval`: 15 for an interval above 2^63-1, before all others
abbrev pub restore_at : ℕ → List ℕ → List ℕ → List ℤ → Told SequenceTracker
restore_at interval bytes seqs secs = cond (bad_settings default_capacity interval) (refused (15 ∷ [])) (read_into interval bytes seqs secs)

-- `restore` is that at the default interval
abbrev pub restore_of : List ℕ → List ℕ → List ℤ → Told SequenceTracker
restore_of = restore_at default_interval_secs

-- `restore_with_interval`: its answer, and both arrays afterwards: the pairs that were read, and past them what stood there; refused, as before
abbrev pub RestoresAt : ℕ → List ℕ → List ℕ → List ℤ → Result SequenceTracker Refusal → List ℕ → List ℤ → Type 0
RestoresAt interval bytes seqs secs r seqs' secs' =
    (told_restore r ≡ restore_at interval bytes seqs secs)
    × (seqs' ≡ filled (told_restore r) (pairs_read (read_table bytes)).seqs seqs)
    × (secs' ≡ filled (told_restore r) (pairs_read (read_table bytes)).secs secs)

-- `restore`
abbrev pub Restores : List ℕ → List ℕ → List ℤ → Result SequenceTracker Refusal → List ℕ → List ℤ → Type 0
Restores = RestoresAt default_interval_secs
