-- What an offer changes of the state, and when it is not counted. Proved in proofs/Counted.antt.
use Rattle.std.specs.Prelude.{ℕ, ◌<◌, ◌≡◌, ◌⊎◌, ◌↔◌, List, [], ◌∷◌}
use Rattle.told.specs.Told.{Told, gave, refused}
use Rattle.totals.specs.Totals.{sum_of, most, one_more}
use Rattle.totals.specs.declared.Fate.TheVariants as fate
use Rattle.tracker.specs.declared.Seq.{Seq}
use Rattle.tracker.specs.declared.Second.{Second}
use Rattle.offers.specs.Whole.{Table, check_in}
use Rattle.offers.specs.Offer.{Outcome, recorded, went_back, too_soon, pair_refused, counting, offer_to}

-- 16 or 17
abbrev pub ByPair : List ℕ → Type 0
ByPair what = (what ≡ 16 ∷ []) ⊎ (what ≡ 17 ∷ [])

-- recorded, it is one more of those; skipped, or refused with 16 or 17, it is one more of those, and nothing else of the state changes; it is not
-- counted where the table is refused (14, 11, 12, 13), and, with 31, where the totals of a good one come to 2^64-1
abbrev pub Counts : Table → Told Outcome → Type 0
Counts w (gave (recorded t)) = t.totals ≡ one_more fate.Recorded w.state.totals
Counts w (gave (went_back t)) = t ≡ counting fate.WentBack w.state
Counts w (gave (too_soon t)) = t ≡ counting fate.TooSoon w.state
Counts w (gave (pair_refused what t)) = (t ≡ counting fate.Refused w.state) × ByPair what
Counts w (refused what) = (check_in w ≡ refused what) ⊎ ((check_in w ≡ gave tt) × (sum_of w.state.totals ≡ most) × (what ≡ 31 ∷ []))

abbrev pub OfferCounts : Type 0
OfferCounts = (w : Table) (seq : Seq) (ts : Second) → Counts w (offer_to w seq ts)

-- it is counted exactly where the table is good and its totals leave room for one more
abbrev pub CountedExactly : Type 0
CountedExactly = (w : Table) (seq : Seq) (ts : Second) → ((o : Outcome) × (offer_to w seq ts ≡ gave o)) ↔ ((check_in w ≡ gave tt) × (sum_of w.state.totals < most))
