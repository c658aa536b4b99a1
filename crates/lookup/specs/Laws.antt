-- What holds of every lookup. Proved in proofs/Laws.antt.
use Rattle.std.specs.Prelude.{ℕ, ◌≤◌, ◌<◌, ◌≡◌, ◌↔◌, Bool, true, false, not, cond, ◌&&◌, List, ltb, ℤ, pos, length, get_or}
use Rattle.std.specs.Int.Signed.{lt_z}
use Rattle.told.specs.Told.{Told, gave, if_good}
use Rattle.limits.specs.Settings.{room_of}
use Rattle.order.specs.First.{first, final}
use Rattle.search.specs.Keys.{smaller, greater}
use Rattle.tracker.specs.Table.{kept, check_of}
use Rattle.tracker.specs.declared.Seq.{Seq}
use Rattle.tracker.specs.declared.Second.{Second}
use Rattle.tracker.specs.declared.SequenceTracker.{SequenceTracker}
use Rattle.lookup.specs.Find.{Partner, partner, nothing, standing, place, second_at, seq_at, find_ts, find_seq}
use Rattle.lookup.specs.declared.FindOption.{FindOption}
use Rattle.lookup.specs.declared.FindOption.TheVariants.{RoundUp, RoundDown}

-- over the first n keys of any type with an order test `lt`; d is what a key past the end would be
module _ {K : Type 0} (lt : K → K → Bool) (d : K) where
  -- the key at i equals x
  abbrev pub equal : List K → K → ℕ → Bool
  equal keys x i = not (smaller lt d keys x i) && not (greater lt d keys x i)

  -- the key at i stands on the asked side of x
  abbrev pub on_side : FindOption → List K → K → ℕ → Bool
  on_side RoundUp keys x i = greater lt d keys x i
  on_side RoundDown keys x i = smaller lt d keys x i

  -- the place that the rule in words names: of equal keys RoundUp takes the lowest position, RoundDown the highest;
  -- where no key equals, RoundUp takes the first greater one, RoundDown the last smaller
  abbrev pub in_words : FindOption → List K → ℕ → K → ℕ
  in_words RoundUp keys n x = cond (ltb (first (equal keys x) n) n) (first (equal keys x) n) (first (on_side RoundUp keys x) n)
  in_words RoundDown keys n x = cond (ltb (final (equal keys x) n) n) (final (equal keys x) n) (final (on_side RoundDown keys x) n)

  -- none of the first n keys equals x, and none stands on the asked side
  abbrev pub NoKey : FindOption → List K → ℕ → K → Type 0
  NoKey opt keys n x = (i : ℕ) → i < n → (equal keys x i ≡ false) × (on_side opt keys x i ≡ false)

  -- the key at p is not below x, of the keys that are not below x none is below it, and none of its equals stands at a lower position
  pub record NearestUp (keys : List K) (n : ℕ) (x : K) (p : ℕ) : Type 0 where
    pub within : p < n
    pub not_below : smaller lt d keys x p ≡ false
    pub nearest : (j : ℕ) → j < n → smaller lt d keys x j ≡ false → smaller lt d keys (get_or keys p d) j ≡ false
    pub lowest : (j : ℕ) → j < n → equal keys (get_or keys p d) j ≡ true → p ≤ j

  -- the key at p is not above x, of the keys that are not above x none is above it, and none of its equals stands at a higher position
  pub record NearestDown (keys : List K) (n : ℕ) (x : K) (p : ℕ) : Type 0 where
    pub within : p < n
    pub not_above : greater lt d keys x p ≡ false
    pub nearest : (j : ℕ) → j < n → greater lt d keys x j ≡ false → greater lt d keys (get_or keys p d) j ≡ false
    pub highest : (j : ℕ) → j < n → equal keys (get_or keys p d) j ≡ true → j ≤ p

  abbrev pub Nearest : FindOption → List K → ℕ → K → ℕ → Type 0
  Nearest RoundUp keys n x p = NearestUp keys n x p
  Nearest RoundDown keys n x p = NearestDown keys n x p

-- what holds of a lookup `find` of x among n keys, which answers with what stands `at` a position, in a table that is checked first
pub record Lookup {K A : Type 0} (lt : K → K → Bool) (d : K) (keys : List K) (n : ℕ) (x : K) (at : ℕ → A) (check : Told (Unit {0})) (find : FindOption → Told (Partner A)) : Type 0 where
  -- a partner is answered exactly when the table is good and it is that of the nearest key
  pub answers_exactly : (opt : FindOption) (a : A) → (find opt ≡ gave (partner a)) ↔ ((check ≡ gave tt) × (p : ℕ) × Nearest lt d opt keys n x p × (at p ≡ a))
  -- in a good table the nearest key stands at one position, which is the place that answers
  pub nearest_exactly : (opt : FindOption) → check ≡ gave tt → (p : ℕ) → Nearest lt d opt keys n x p ↔ ((p < n) × (place lt d opt keys n x ≡ p))
  -- nothing is answered exactly when the table is good, no key equals and none stands on the asked side
  pub nothing_exactly : (opt : FindOption) → (find opt ≡ gave nothing) ↔ ((check ≡ gave tt) × NoKey lt d opt keys n x)
  -- what is told is what the rule in words tells
  pub as_in_words : (opt : FindOption) → find opt ≡ if_good check (gave (standing at n (in_words lt d opt keys n x)))

-- of both lookups
abbrev pub LookupTs : Type 0
LookupTs = (table : SequenceTracker) (seqs : List ℕ) (secs : List ℤ) (seq : Seq)
    → Lookup ltb 0 seqs table.count seq.0 (second_at secs) (check_of table seqs secs) (find_ts table seqs secs seq)

abbrev pub LookupSeq : Type 0
LookupSeq = (table : SequenceTracker) (seqs : List ℕ) (secs : List ℤ) (ts : Second)
    → Lookup lt_z (pos 0) secs table.count ts.0 (seq_at seqs) (check_of table seqs secs) (find_seq table seqs secs ts)

-- two pairs of arrays with the same kept pairs, each array with the room needed if the other has it
pub record SameKept (table : SequenceTracker) (seqs seqs' : List ℕ) (secs secs' : List ℤ) : Type 0 where
  pub same_seqs : kept table seqs ≡ kept table seqs'
  pub same_secs : kept table secs ≡ kept table secs'
  pub room_seqs : ltb (length seqs) (room_of table.capacity) ≡ ltb (length seqs') (room_of table.capacity)
  pub room_secs : ltb (length secs) (room_of table.capacity) ≡ ltb (length secs') (room_of table.capacity)

-- an answer does not depend on what stands past the count
abbrev pub KeptTs : Type 0
KeptTs = (table : SequenceTracker) (seqs seqs' : List ℕ) (secs secs' : List ℤ) (seq : Seq) (opt : FindOption)
    → SameKept table seqs seqs' secs secs' → find_ts table seqs secs seq opt ≡ find_ts table seqs' secs' seq opt

abbrev pub KeptSeq : Type 0
KeptSeq = (table : SequenceTracker) (seqs seqs' : List ℕ) (secs secs' : List ℤ) (ts : Second) (opt : FindOption)
    → SameKept table seqs seqs' secs secs' → find_seq table seqs secs ts opt ≡ find_seq table seqs' secs' ts opt
