-- The third demand: fewer than 2^64 offers to a table of capacity 8,192 and any valid interval, new or restored from any bytes, with strict saves and restores at that interval between them, go as the offers
-- alone would, but for the totals. At the default settings `restore` is such a restore.
use Rattle.std.specs.Prelude.{ℕ, ◌+◌, ◌≤◌, ◌<◌, ◌^◌, ◌≡◌, false, ◌↔◌, List, [], ◌∷◌, ◌++◌, map, length, take, get_or, ℤ, Ok}
use Rattle.told.specs.Told.{Told, gave, refused}
use Rattle.told.specs.Over.{over, filled}
use Rattle.bit_lists.specs.BitList.{bits_of}
use Rattle.gorilla.specs.Parser.{Read, read}
use Rattle.gorilla.specs.Reading.{Pairs, pairs_read}
use Rattle.limits.specs.Settings.{bad_settings}
use Rattle.fresh.specs.Fresh.{default_capacity, default_interval_secs, new_table, config_of}
use Rattle.tracker.specs.Rest.{rest_of}
use Rattle.tracker.specs.declared.Seq.{Seq}
use Rattle.tracker.specs.declared.Second.{Second}
use Rattle.tracker.specs.declared.SequenceTracker.{SequenceTracker}
use Rattle.offers.specs.Whole.{Table, whole, check_in}
use Rattle.offers.specs.Offer.{Outcome, offer_to, offered_to}
use Rattle.offers.specs.Rest.{offer_rest}
use Rattle.decoder.specs.Decode.{listed}
use Rattle.restoring.specs.Restore.{read_table, restore_of, restore_at, Restores, RestoresAt}
use Rattle.restoring.specs.Interval.{with_interval}
use Rattle.theorems.specs.Alike.{kept_in, strict_to, save_to, image_for, KeptAlike, AnswerAlike}

-- as `new` makes it, in two arrays that hold what they hold
abbrev pub new : List ℕ → List ℤ → Table
new seqs secs = whole new_table seqs secs

-- ---- a strict save, and a restore of what it wrote

-- which restore is called: `restore`, or `restore_with_interval` with this interval
pub data Restoring : Type 0 where
  plain : Restoring
  naming : ℕ → Restoring

-- what it tells
abbrev pub restore_by : Restoring → List ℕ → List ℕ → List ℤ → Told SequenceTracker
restore_by plain = restore_of
restore_by (naming interval) = restore_at interval

-- the interval that it gives a table
abbrev pub interval_by : Restoring → ℕ
interval_by plain = default_interval_secs
interval_by (naming interval) = interval

-- `out` is lent to the save, the bytes `following` stand after the image, and `seqs` and `secs` are lent to the restore; each holds what it holds
pub record Reload : Type 0 where
  pub by : Restoring
  pub out : List ℕ
  pub following : List ℕ
  pub seqs : List ℕ
  pub secs : List ℤ

-- the bytes written to a buffer: as many as are told
abbrev pub bytes_written : Told ℕ → List ℕ → List ℕ
bytes_written (gave n) out = take n out
bytes_written (refused what) out = []

-- the bytes that such a save writes, and others after them
abbrev pub stored : (Table → List ℕ → Told ℕ) → Table → Reload → List ℕ
stored save w l = bytes_written (save w l.out) (filled (save w l.out) (image_for w) l.out) ++ l.following

-- what the restore tells of what a strict save wrote
abbrev pub restore_to : Table → Reload → Told SequenceTracker
restore_to w l = restore_by l.by (stored strict_to w l) l.seqs l.secs

-- the pairs that it reads
abbrev pub read_for : Table → Reload → Pairs
read_for w l = pairs_read (read_table (stored strict_to w l))

-- the table after a strict save and a restore that tell this: a refused save leaves it standing; a refused restore leaves none, and a new one is begun
abbrev pub reloaded_to : Table → Reload → Told ℕ → Told SequenceTracker → Table
reloaded_to w l (refused what) told = w
reloaded_to w l (gave n) (refused what) = new l.seqs l.secs
reloaded_to w l (gave n) (gave t) = whole t (over (read_for w l).seqs l.seqs) (over (read_for w l).secs l.secs)

-- ---- a run

pub data Event : Type 0 where
  offered : Seq → Second → Event
  reloaded : Reload → Event

-- the table after an event
unfoldable pub step : Table → Event → Table
step w (offered seq ts) = offered_to w seq ts (offer_to w seq ts)
step w (reloaded l) = reloaded_to w l (strict_to w l.out) (restore_to w l)

-- the table after the events
unfoldable pub ran_to : Table → List Event → Table
ran_to w [] = w
ran_to w (e ∷ es) = ran_to (step w e) es

-- what the offers among the events are told
unfoldable pub answers : Table → List Event → List (Told Outcome)
answers w [] = []
answers w (offered seq ts ∷ es) = offer_to w seq ts ∷ answers (step w (offered seq ts)) es
answers w (reloaded l ∷ es) = answers (step w (reloaded l)) es

-- the offers alone
unfoldable pub offers_in : List Event → List Event
offers_in [] = []
offers_in (offered seq ts ∷ es) = offered seq ts ∷ offers_in es
offers_in (reloaded l ∷ es) = offers_in es

-- two arrays of at least 8,192 places
abbrev pub Lent : List ℕ → List ℤ → Type 0
Lent seqs secs = (8192 ≤ length seqs) × (8192 ≤ length secs)

-- all that is asked of the events: a sequence is a u64 (a second is any number), and each restore is at this interval and is lent two such arrays
unfoldable pub Proper : ℕ → List Event → Type 0
Proper interval [] = Unit {0}
Proper interval (offered seq ts ∷ es) = (seq.0 < 2 ^ 64) × Proper interval es
Proper interval (reloaded l ∷ es) = (interval_by l.by ≡ interval) × Lent l.seqs l.secs × Proper interval es

-- ---- when a strict save is refused

-- what the list reader reads of what the Rust's save wrote
abbrev pub listed_for : Table → Reload → Read Pairs
listed_for w l = listed (stored save_to w l) l.seqs l.secs

-- other pairs than those that the table keeps
abbrev pub ReadsOthers : Table → Reload → Type 0
ReadsOthers w l = (p : Pairs) × (listed_for w l ≡ read p (bits_of l.following)) × (p ≡ kept_in w → ⊥)

-- ---- the demand

-- what is claimed of the table w that a run leads to, beside the table v that the offers alone lead to, where m more offers may come
pub record Unharmed (m : ℕ) (w v : Table) : Type 0 where
  -- the table is good
  pub good : check_in w ≡ gave tt
  -- the kept pairs, and the state but for its totals, with the last recorded second in it
  pub pairs : kept_in w ≡ kept_in v
  pub state : rest_of w.state ≡ rest_of v.state
  -- each later answer: offers and lists of offers, lookups, saves
  pub alike : AnswerAlike KeptAlike m w v
  -- a restore at a valid interval never refuses what a strict save wrote: it gives back the pairs, and the state with that interval in it and its totals at zero, so at the table's own
  -- interval the same state but for the totals
  pub restores : (l : Reload) (n : ℕ) → bad_settings default_capacity (interval_by l.by) ≡ false → Lent l.seqs l.secs → strict_to w l.out ≡ gave n
      → (restore_to w l ≡ gave (with_interval (interval_by l.by) w.state)) × (kept_in (step w (reloaded l)) ≡ kept_in w)
  -- with room for the image a strict save is refused at all exactly where what the Rust's save wrote reads back as other pairs, and then
  -- with 20; and it writes the image exactly where that reads back as the kept ones
  pub exact : (l : Reload) → length (image_for w) ≤ length l.out → Lent l.seqs l.secs
      → (((what : List ℕ) × (strict_to w l.out ≡ refused what)) ↔ ReadsOthers w l)
      × ((what : List ℕ) → strict_to w l.out ≡ refused what → get_or what 0 0 ≡ 20)
      × ((strict_to w l.out ≡ gave (length (image_for w))) ↔ (listed_for w l ≡ read (kept_in w) (bits_of l.following)))

-- by any events from the table w on, with restores at this interval, and with m more offers to come, in all fewer than 2^64: but for the totals, each offer is told what it is told
-- without the saves and restores, and the table is unharmed
abbrev pub GoesOn : ℕ → Table → Type 0
GoesOn interval w = (es : List Event) (m : ℕ) → Proper interval es → length (offers_in es) + m < 2 ^ 64
    → (map offer_rest (answers w es) ≡ map offer_rest (answers w (offers_in es))) × Unharmed m (ran_to w es) (ran_to w (offers_in es))

-- at capacity 8,192 and every interval that the calls take: from the table that `with_config` makes, with the state t, in any two arrays of at least 8,192 places; and
-- from each table that `restore_with_interval` leaves, with the state t that it gives: of any bytes that it accepts, whoever wrote them
abbrev pub Demand : Type 0
Demand = (interval : ℕ)
    → ((seqs : List ℕ) (secs : List ℤ) (t : SequenceTracker) → config_of default_capacity interval ≡ gave t → Lent seqs secs → GoesOn interval (whole t seqs secs))
    × ((bytes seqs seqs' : List ℕ) (secs secs' : List ℤ) (t : SequenceTracker) → RestoresAt interval bytes seqs secs (Ok t) seqs' secs' → GoesOn interval (whole t seqs' secs'))

-- at the default settings, by themselves: from a new table, and from each table that `restore` leaves; the restores of the run may be `restore`, which is at the default interval
abbrev pub DemandByDefault : Type 0
DemandByDefault =
    ((seqs : List ℕ) (secs : List ℤ) → Lent seqs secs → GoesOn default_interval_secs (new seqs secs))
    × ((bytes seqs seqs' : List ℕ) (secs secs' : List ℤ) (t : SequenceTracker) → Restores bytes seqs secs (Ok t) seqs' secs' → GoesOn default_interval_secs (whole t seqs' secs'))

-- the restores have to be at the table's own interval: with restores at another valid one no table that `with_config` makes at capacity 8,192 goes on so, as its state comes back with the other interval
abbrev pub OwnIntervalNeeded : Type 0
OwnIntervalNeeded = (interval other : ℕ) (seqs : List ℕ) (secs : List ℤ) (t : SequenceTracker) → config_of default_capacity interval ≡ gave t → Lent seqs secs
    → bad_settings default_capacity other ≡ false → (other ≡ interval → ⊥) → GoesOn other (whole t seqs secs) → ⊥
