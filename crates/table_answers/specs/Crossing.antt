-- A state that goes out comes in as the same table, and one that makes no table is refused with 14 by every call.
use Rattle.std.specs.Prelude.{ℕ, ◌≤◌, ◌<◌, ◌≡◌, List, [], ◌∷◌, ℤ, length}
use Rattle.told.specs.Told.{gave, refused}
use Rattle.tracker.specs.declared.Seq.{Seq}
use Rattle.tracker.specs.declared.Second.{Second}
use Rattle.tracker.specs.declared.SequenceTracker.{SequenceTracker}
use Rattle.lookup.specs.Find.{find_ts, find_seq}
use Rattle.lookup.specs.declared.FindOption.{FindOption}
use Rattle.sheets.specs.Sheet.{sheet_rule}
use Rattle.question_lists.specs.Each.{list_rule}
use Rattle.offers.specs.Whole.{Table, whole, check_in}
use Rattle.offers.specs.Offer.{offer_to}
use Rattle.offer_log.specs.Pairs.{pairs_log_of, extend_of}
use Rattle.saving.specs.Save.{save_of, save_strict_of}
use Rattle.states.specs.State.{table_of, state_of, no_state}
use Rattle.states.specs.declared.State.{State}

-- a table's state that every call refuses with 14, whatever arrays are lent, where 18 and 35 do not come before it
pub record Unusable (t : SequenceTracker) : Type 0 where
  pub check : (seqs : List ℕ) (secs : List ℤ) → check_in (whole t seqs secs) ≡ refused (14 ∷ [])
  pub offer : (seqs : List ℕ) (secs : List ℤ) (seq : Seq) (ts : Second) → offer_to (whole t seqs secs) seq ts ≡ refused (14 ∷ [])
  pub pairs : (seqs : List ℕ) (secs : List ℤ) (xs : List ℕ) (zs : List ℤ) → length xs ≡ length zs → (pairs_log_of (whole t seqs secs) xs zs).answer ≡ refused (14 ∷ [])
  pub own : (seqs : List ℕ) (secs : List ℤ) (other : Table) → (extend_of (whole t seqs secs) other).answer ≡ refused (14 ∷ 0 ∷ [])
  pub other : (w : Table) (seqs : List ℕ) (secs : List ℤ) → check_in w ≡ gave tt → (extend_of w (whole t seqs secs)).answer ≡ refused (14 ∷ 1 ∷ [])
  pub by_seq : (seqs : List ℕ) (secs : List ℤ) (x : Seq) (opt : FindOption) → find_ts t seqs secs x opt ≡ refused (14 ∷ [])
  pub by_second : (seqs : List ℕ) (secs : List ℤ) (x : Second) (opt : FindOption) → find_seq t seqs secs x opt ≡ refused (14 ∷ [])
  pub sheet : (seqs : List ℕ) (secs : List ℤ) (used : ℕ) → used ≤ 16 → sheet_rule t seqs secs used ≡ refused (14 ∷ [])
  pub list : (seqs : List ℕ) (secs : List ℤ) (n : ℕ) → list_rule t seqs secs n n n ≡ refused (14 ∷ [])
  pub save : (seqs : List ℕ) (secs : List ℤ) (room : ℕ) → save_of t seqs secs room ≡ refused (14 ∷ [])
  pub save_strict : (seqs : List ℕ) (secs : List ℤ) (room : ℕ) → save_strict_of t seqs secs room ≡ refused (14 ∷ [])

pub record Crossing : Type 0 where
  pub same : (t : SequenceTracker) → table_of (state_of t) ≡ t
  -- the state given where none is returned
  pub none : Unusable (table_of no_state)
  -- one that says neither that a last second is there nor that none is
  pub neither : (s : State) → 1 < s.has_last → Unusable (table_of s)
