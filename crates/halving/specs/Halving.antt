-- How much halving can hide, at every even capacity from 2 up.
use Rattle.std.specs.Prelude.{ℕ, ◌+◌, ◌≤◌, ◌<◌, ◌≡◌, true, false, cond, List, [], ◌∷◌, ◌++◌, ltb, ℤ, pos, length, Ok}
use Rattle.std.specs.Int.Signed.{lt_z}
use Rattle.told.specs.Told.{Told, gave}
use Rattle.gorilla.specs.Reading.{Pairs, pairs_read}
use Rattle.fresh.specs.Fresh.{config_of}
use Rattle.tracker.specs.declared.Seq.{Seq}
use Rattle.tracker.specs.declared.Second.{Second}
use Rattle.tracker.specs.declared.TrackedSeq.{TrackedSeq}
use Rattle.tracker.specs.declared.SequenceTracker.{SequenceTracker}
use Rattle.keeping.specs.Keep.{evens}
use Rattle.lookup.specs.Find.{Partner, find_ts, find_seq}
use Rattle.lookup.specs.declared.FindOption.{FindOption}
use Rattle.offers.specs.Whole.{Table, whole, check_in}
use Rattle.offer_log.specs.Pairs.{records_of}
use Rattle.restoring.specs.Restore.{read_table, RestoresAt}
use Rattle.halving.specs.History.{kept_pairs, after, records, halves, now, recorded_of, halvings_of, history_of}
use Rattle.halving.specs.Coarse.{halvings_at, Halved, InOrder, Since}
use Rattle.halving.specs.Asked.{Answers, AnswersRecorded}

-- what `find_ts` and `find_seq` tell of a table
abbrev pub find_ts_in : Table → Seq → FindOption → Told (Partner Second)
find_ts_in w = find_ts w.state w.seqs w.secs

abbrev pub find_seq_in : Table → Second → FindOption → Told (Partner Seq)
find_seq_in w = find_seq w.state w.seqs w.secs

-- what holds of a table w and any offers to it
pub record Hides (w : Table) (rs : List TrackedSeq) : Type 0 where
  -- of the pairs recorded, and of those kept
  pub halved : Halved (history_of w rs)
  -- and by the halvings since any moment
  pub since : (before later : List TrackedSeq) → rs ≡ before ++ later → Since (history_of w before) (history_of w rs) halved.coarse.places
  -- the recorded pairs are in order, by both keys (at an odd capacity they need not be)
  pub seqs_in_order : InOrder ltb (λ r. r.seq.0) (history_of w rs).recorded
  pub seconds_in_order : InOrder lt_z (λ r. r.ts.0) (history_of w rs).recorded
  -- their number is had from the total: with the total at the start they are as many as the pairs at the start and the total now
  pub by_total : length (history_of w rs).recorded + w.state.totals.recorded ≡ w.state.count + (now w rs).state.totals.recorded
  -- what a lookup answers, by any sequence and by any second
  pub by_seq : (seq : Seq) → Answers ltb 0 (λ r. r.seq.0) (λ r. r.ts) (history_of w rs) halved.coarse.places seq.0 (find_ts_in (now w rs) seq)
  pub by_second : (ts : Second) → Answers lt_z (pos 0) (λ r. r.ts.0) (λ r. r.seq) (history_of w rs) halved.coarse.places ts.0 (find_seq_in (now w rs) ts)
  -- and so by a sequence, or a second, that was recorded
  pub recorded_seq : AnswersRecorded (λ r. r.seq) (λ r. r.ts) (history_of w rs) halved.coarse.places (find_ts_in (now w rs))
  pub recorded_second : AnswersRecorded (λ r. r.ts) (λ r. r.seq) (history_of w rs) halved.coarse.places (find_seq_in (now w rs))

-- an even number from 2 up
abbrev pub EvenFrom2 : ℕ → Type 0
EvenFrom2 n = (half : ℕ) × (n ≡ half + half) × (0 < half)

-- an empty table, that `with_config` makes in two arrays with room: nothing is recorded at the start, and the number of halvings is had from the total of recorded offers
pub record FromEmpty (capacity : ℕ) (w : Table) (rs : List TrackedSeq) : Type 0 where
  pub hides : Hides w rs
  pub all_recorded : (history_of w rs).recorded ≡ recorded_of w rs
  pub halvings_by_total : (history_of w rs).halvings ≡ halvings_at capacity (now w rs).state.totals.recorded

-- a table that a restore made of the pairs p: a fresh count, in which they are taken as recorded
pub record FromRestored (p : Pairs) (w : Table) (rs : List TrackedSeq) : Type 0 where
  pub hides : Hides w rs
  pub all_recorded : (history_of w rs).recorded ≡ records_of p.seqs p.secs ++ recorded_of w rs
  pub halvings_by_total : (history_of w rs).halvings ≡ halvings_at 8192 (length p.seqs + (now w rs).state.totals.recorded)

-- the theorem, over any offers, also those that are skipped or refused
pub record HalvingHides : Type 0 where
  -- what a halving is: of the kept pairs and a recorded one every second stays, the first among them; where the pair makes none, all stay; where the offer is not recorded, the kept pairs stay as they are
  pub one_pair : (w : Table) (r : TrackedSeq) → records w r ≡ true
      → kept_pairs (after w r) ≡ cond (halves w r) (evens (kept_pairs w ++ (r ∷ []))) (kept_pairs w ++ (r ∷ []))
  pub no_pair : (w : Table) (r : TrackedSeq) → records w r ≡ false → kept_pairs (after w r) ≡ kept_pairs w
  -- of offers in two parts, what is recorded and how often the table is halved
  pub in_parts : (w : Table) (before later : List TrackedSeq)
      → (recorded_of w (before ++ later) ≡ recorded_of w before ++ recorded_of (now w before) later) × (halvings_of w (before ++ later) ≡ halvings_of w before + halvings_of (now w before) later)
  -- from any good table of even capacity from 2 up, its pairs taken as recorded
  pub from_any : (w : Table) → check_in w ≡ gave tt → EvenFrom2 w.state.capacity → (rs : List TrackedSeq) → Hides w rs
  -- from an empty table at any valid settings with such a capacity
  pub from_empty : (capacity interval : ℕ) (t : SequenceTracker) (seqs : List ℕ) (secs : List ℤ) → config_of capacity interval ≡ gave t → EvenFrom2 capacity
      → capacity ≤ length seqs → capacity ≤ length secs → (rs : List TrackedSeq) → FromEmpty capacity (whole t seqs secs) rs
  -- from each table that a restore leaves, of any bytes that it accepts
  pub from_restored : (interval : ℕ) (bytes seqs seqs' : List ℕ) (secs secs' : List ℤ) (t : SequenceTracker) → RestoresAt interval bytes seqs secs (Ok t) seqs' secs'
      → (rs : List TrackedSeq) → FromRestored (pairs_read (read_table bytes)) (whole t seqs' secs') rs
