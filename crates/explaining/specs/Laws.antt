-- What holds of every reason: the facts that it names, in terms of the keys at positions. Proved in proofs/Laws.antt.
use Rattle.std.specs.Prelude.{ℕ, suc, ◌-◌, ◌≤◌, ◌<◌, ◌≡◌, ◌↔◌, Bool, true, List, ltb, ℤ, pos, None, Some}
use Rattle.std.specs.Int.Signed.{lt_z}
use Rattle.told.specs.Told.{Told, gave, refused}
use Rattle.search.specs.Keys.{smaller, greater}
use Rattle.tracker.specs.Table.{check_of}
use Rattle.tracker.specs.declared.Seq.{Seq}
use Rattle.tracker.specs.declared.Second.{Second}
use Rattle.tracker.specs.declared.SequenceTracker.{SequenceTracker}
use Rattle.lookup.specs.Find.{Partner, partner, nothing, second_at, seq_at, find_ts, find_seq}
use Rattle.lookup.specs.Laws.{equal, SameKept}
use Rattle.lookup.specs.declared.FindOption.{FindOption}
use Rattle.lookup.specs.declared.FindOption.TheVariants.{RoundUp, RoundDown}
use Rattle.explaining.specs.Why.{Why, why_ts, why_seq}
use Rattle.explaining.specs.declared.Reason.{Reason}
use Rattle.explaining.specs.declared.Reason.TheVariants.{Exact, RoundedUp, RoundedDown, BeforeFirst, AfterLast, Empty}

-- p is, of two positions of equal keys, the one that the rounding takes: the lower with RoundUp, the higher with RoundDown
abbrev pub Outermost : FindOption → ℕ → ℕ → Type 0
Outermost RoundUp p j = p ≤ j
Outermost RoundDown p j = j ≤ p

-- over the first n keys of any type with an order test `lt`; d is what a key past the end would be
module _ {K : Type 0} (lt : K → K → Bool) (d : K) (keys : List K) (n : ℕ) (x : K) where
  -- the key at p equals x, and of all keys that do, the rounding takes that one
  pub record EqualAt (opt : FindOption) (p : ℕ) : Type 0 where
    pub within : p < n
    pub equals : equal lt d keys x p ≡ true
    pub outermost : (j : ℕ) → j < n → equal lt d keys x j ≡ true → Outermost opt p j

  -- two positions next to each other, and x lies strictly between their keys
  pub record Between (below above : ℕ) : Type 0 where
    pub adjacent : above ≡ suc below
    pub within : above < n
    pub key_below : smaller lt d keys x below ≡ true
    pub key_above : greater lt d keys x above ≡ true

  -- p is the first position, and x lies below its key
  pub record BelowFirst (p : ℕ) : Type 0 where
    pub first_one : p ≡ 0
    pub within : p < n
    pub key_above : greater lt d keys x p ≡ true

  -- p is the last position, and x lies above its key
  pub record AboveLast (p : ℕ) : Type 0 where
    pub last_one : suc p ≡ n
    pub key_below : smaller lt d keys x p ≡ true

  -- the facts that a reason names, of a question with this rounding
  abbrev pub Holds : FindOption → Reason → Type 0
  Holds opt (Exact p) = EqualAt opt p
  Holds opt (RoundedUp (Some below) above) = (opt ≡ RoundUp) × Between below above
  Holds opt (RoundedUp None above) = (opt ≡ RoundUp) × BelowFirst above
  Holds opt (RoundedDown below (Some above)) = (opt ≡ RoundDown) × Between below above
  Holds opt (RoundedDown below None) = (opt ≡ RoundDown) × AboveLast below
  Holds opt BeforeFirst = (opt ≡ RoundDown) × BelowFirst 0
  Holds opt AfterLast = (opt ≡ RoundUp) × AboveLast (n - 1)
  Holds opt Empty = n ≡ 0

  -- the first p keys are smaller than x, and all others greater: none equals
  pub record Parts (p : ℕ) : Type 0 where
    pub within : p ≤ n
    pub under : (j : ℕ) → j < p → smaller lt d keys x j ≡ true
    pub over : (j : ℕ) → p ≤ j → j < n → greater lt d keys x j ≡ true

  -- how all keys stand under a reason; of exact, only the one named
  abbrev pub AllKeys : Reason → Type 0
  AllKeys (Exact p) = equal lt d keys x p ≡ true
  AllKeys (RoundedUp below above) = Parts above
  AllKeys (RoundedDown below above) = Parts (suc below)
  AllKeys BeforeFirst = Parts 0
  AllKeys AfterLast = Parts n
  AllKeys Empty = n ≡ 0

-- the answer under a reason: the partner at the position that answers, or nothing where the reason has none
abbrev pub answer_by : {A : Type 0} → (ℕ → A) → Reason → Partner A
answer_by at (Exact p) = partner (at p)
answer_by at (RoundedUp below above) = partner (at above)
answer_by at (RoundedDown below above) = partner (at below)
answer_by at BeforeFirst = nothing
answer_by at AfterLast = nothing
answer_by at Empty = nothing

-- what holds of `why` of x among n keys, in a table that is checked first; `find` is the lookup, which answers with what stands `at` a position
pub record Explains {K A : Type 0} (lt : K → K → Bool) (d : K) (keys : List K) (n : ℕ) (x : K) (at : ℕ → A) (check : Told (Unit {0})) (find : FindOption → Told (Partner A)) (why : FindOption → Told (Why A)) : Type 0 where
  -- a reason is given, with an answer under it, exactly when the table is good, the facts that the reason names hold of it, and the lookup gives that answer
  pub given_exactly : (opt : FindOption) (r : Reason) (a : Partner A) → (why opt ≡ gave (record { reason = r; answer = a })) ↔ ((check ≡ gave tt) × Holds lt d keys n x opt r × (find opt ≡ gave a))
  -- it is refused exactly when the table is, in the same words
  pub refused_exactly : (opt : FindOption) (what : List ℕ) → (why opt ≡ refused what) ↔ (check ≡ refused what)
  -- in a good table each question has a reason whose facts hold, and no other: the reasons exclude each other
  pub some_reason : (opt : FindOption) → check ≡ gave tt → (r : Reason) × Holds lt d keys n x opt r
  pub one_reason : (opt : FindOption) (r r' : Reason) → check ≡ gave tt → Holds lt d keys n x opt r → Holds lt d keys n x opt r' → r ≡ r'
  -- the lookup's answer is the partner at the position that the reason has for it
  pub answered_there : (opt : FindOption) (r : Reason) → check ≡ gave tt → Holds lt d keys n x opt r → find opt ≡ gave (answer_by at r)
  -- no kept key stands between the neighbours, or beyond the first or the last, on the side of x
  pub all_keys : (opt : FindOption) (r : Reason) → check ≡ gave tt → Holds lt d keys n x opt r → AllKeys lt d keys n x r

-- of both calls
abbrev pub ExplainsTs : Type 0
ExplainsTs = (table : SequenceTracker) (seqs : List ℕ) (secs : List ℤ) (seq : Seq)
    → Explains ltb 0 seqs table.count seq.0 (second_at secs) (check_of table seqs secs) (find_ts table seqs secs seq) (why_ts table seqs secs seq)

abbrev pub ExplainsSeq : Type 0
ExplainsSeq = (table : SequenceTracker) (seqs : List ℕ) (secs : List ℤ) (ts : Second)
    → Explains lt_z (pos 0) secs table.count ts.0 (seq_at seqs) (check_of table seqs secs) (find_seq table seqs secs ts) (why_seq table seqs secs ts)

-- a reason does not depend on what stands past the count
abbrev pub KeptWhyTs : Type 0
KeptWhyTs = (table : SequenceTracker) (seqs seqs' : List ℕ) (secs secs' : List ℤ) (seq : Seq) (opt : FindOption)
    → SameKept table seqs seqs' secs secs' → why_ts table seqs secs seq opt ≡ why_ts table seqs' secs' seq opt

abbrev pub KeptWhySeq : Type 0
KeptWhySeq = (table : SequenceTracker) (seqs seqs' : List ℕ) (secs secs' : List ℤ) (ts : Second) (opt : FindOption)
    → SameKept table seqs seqs' secs secs' → why_seq table seqs secs ts opt ≡ why_seq table seqs' secs' ts opt
