-- What holds of the numbers that every list of offers counts, and of the table after it. Proved in proofs/Laws.antt.
use Rattle.std.specs.Prelude.{ℕ, ◌+◌, ◌<◌, ◌≡◌, ◌⊎◌, List, [], ◌∷◌, ℤ, length}
use Rattle.told.specs.Told.{Told, gave, refused}
use Rattle.tracker.specs.declared.TrackedSeq.{TrackedSeq}
use Rattle.totals.specs.Totals.{sum_of, most}
use Rattle.offers.specs.Whole.{Table, check_in}
use Rattle.tallies.specs.Tally.{total}
use Rattle.offer_log.specs.Log.{Log, done, stopped, log_of}
use Rattle.offer_log.specs.Pairs.{pairs_log_of, extend_of}

-- 16 or 17; 17 alone, of records whose seconds are in the domain, as those of a good table are
abbrev pub ByAny : ℕ → Type 0
ByAny number = (number ≡ 16) ⊎ (number ≡ 17)

abbrev pub ByDrop : ℕ → Type 0
ByDrop number = number ≡ 17

-- what refuses the record at position i: one of these, where the totals and the i offers before leave room for it; 31, where they come to 2^64-1
abbrev pub Refuses : Table → (ℕ → Type 0) → ℕ → ℕ → Type 0
Refuses w By i number = (By number × (sum_of w.state.totals + i < most)) ⊎ ((number ≡ 31) × (sum_of w.state.totals + i ≡ most))

-- recorded, went back and too soon add up to all m records; or, where one was refused, to those before it: its position, told after one of these numbers
abbrev pub AddsUp : (ℕ → ℕ → Type 0) → ℕ → Told Log → Type 0
AddsUp By m (gave (done t n)) = total n ≡ m
AddsUp By m (gave (stopped what t n)) = (total n < m) × (number : ℕ) × By (total n) number × (what ≡ number ∷ total n ∷ [])
AddsUp By m (refused what) = ⊥

-- to a good table: of a list of records, of two lists of one length, and of the pairs that another good table keeps
abbrev pub TalliesAddUp : Type 0
TalliesAddUp = (w : Table) → check_in w ≡ gave tt
    → ((rs : List TrackedSeq) → AddsUp (Refuses w ByAny) (length rs) (log_of w rs).answer)
    × ((qs : List ℕ) (ss : List ℤ) → length qs ≡ length ss → AddsUp (Refuses w ByAny) (length qs) (pairs_log_of w qs ss).answer)
    × ((other : Table) → check_in other ≡ gave tt → AddsUp (Refuses w ByDrop) other.state.count (extend_of w other).answer)

-- a good table is good after a list of offers, whatever came of it
abbrev pub GoodAfter : Type 0
GoodAfter = (w : Table) → check_in w ≡ gave tt
    → ((rs : List TrackedSeq) → check_in (log_of w rs).table ≡ gave tt)
    × ((qs : List ℕ) (ss : List ℤ) → check_in (pairs_log_of w qs ss).table ≡ gave tt)
    × ((other : Table) → check_in (extend_of w other).table ≡ gave tt)
