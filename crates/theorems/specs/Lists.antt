-- A list of offers leaves what the records that it offered leave when they are offered one by one, counts what these are told, and tells the refusal of the last: so the third demand, whose
-- runs have single offers, is of tables that lists made too.
use Rattle.std.specs.Prelude.{ℕ, ◌+◌, ◌≡◌, List, [], ◌∷◌, ◌++◌, map, take, ℤ}
use Rattle.told.specs.Told.{Told, gave, refused}
use Rattle.tracker.specs.declared.TrackedSeq.{TrackedSeq}
use Rattle.tracker.specs.declared.SequenceTracker.{SequenceTracker}
use Rattle.offers.specs.Whole.{Table, Left}
use Rattle.offers.specs.Offer.{Outcome, recorded, went_back, too_soon, pair_refused}
use Rattle.tallies.specs.declared.Tally.{Tally}
use Rattle.tallies.specs.Tally.{none_yet, counted, total}
use Rattle.offer_log.specs.Log.{Log, done, stopped, log_of}
use Rattle.offer_log.specs.Pairs.{records_of, pairs_log_of, extend_of}
use Rattle.theorems.specs.Alike.{kept_in}
use Rattle.theorems.specs.Run.{Event, offered, ran_to, answers}

-- records as offers one by one
abbrev pub offers_of : List TrackedSeq → List Event
offers_of rs = map (λ r. offered r.seq r.ts) rs

-- how many records a list recorded, how many went back and how many came too soon
abbrev pub tally_in : Told Log → Tally
tally_in (gave (done t n)) = n
tally_in (gave (stopped what t n)) = n
tally_in (refused what) = none_yet

-- how many of these answers are of each kind
unfoldable pub tallied : List (Told Outcome) → Tally
tallied [] = none_yet
tallied (o ∷ os) = counted o (tallied os)

-- the records that a list offered: all of them; those up to the refused one, and that one; none, where it was refused before the first
abbrev pub tried_of : List TrackedSeq → Told Log → List Event
tried_of rs (gave (done t n)) = offers_of rs
tried_of rs (gave (stopped what t n)) = offers_of (take (total n + 1) rs)
tried_of rs (refused what) = []

-- the state that a list tells is this one; refused before the first record, it tells none
abbrev pub TellsState : SequenceTracker → Told Log → Type 0
TellsState s (gave (done t n)) = t ≡ s
TellsState s (gave (stopped what t n)) = t ≡ s
TellsState s (refused what) = Unit {0}

-- what these offers are told as refusals
abbrev pub refusal_in : Told Outcome → List ℕ
refusal_in (gave (recorded t)) = []
refusal_in (gave (went_back t)) = []
refusal_in (gave (too_soon t)) = []
refusal_in (gave (pair_refused what t)) = what
refusal_in (refused what) = what

unfoldable pub refusals_in : List (Told Outcome) → List ℕ
refusals_in [] = []
refusals_in (o ∷ os) = refusal_in o ++ refusals_in os

-- the list tells these, and the position of the refused record after them; not stopped, there are none
abbrev pub TellsRefusal : List ℕ → Told Log → Type 0
TellsRefusal those (gave (done t n)) = those ≡ []
TellsRefusal those (gave (stopped what t n)) = what ≡ those ++ (total n ∷ [])
TellsRefusal those (refused what) = Unit {0}

-- offered one by one they leave the same table, totals and all, whose state the list tells; its numbers are those of their answers, and its refusal is what the last of them is told
abbrev pub OneByOne : Table → List TrackedSeq → Left (Told Log) → Type 0
OneByOne w rs l = (l.table ≡ ran_to w (tried_of rs l.answer)) × TellsState l.table.state l.answer × (tally_in l.answer ≡ tallied (answers w (tried_of rs l.answer)))
    × TellsRefusal (refusals_in (answers w (tried_of rs l.answer))) l.answer

-- of a list of records, of two lists, and of another table's pairs
abbrev pub ListsAreOffers : Type 0
ListsAreOffers = (w : Table)
    → ((rs : List TrackedSeq) → OneByOne w rs (log_of w rs))
    × ((qs : List ℕ) (ss : List ℤ) → OneByOne w (records_of qs ss) (pairs_log_of w qs ss))
    × ((other : Table) → OneByOne w (records_of (kept_in other).seqs (kept_in other).secs) (extend_of w other))
