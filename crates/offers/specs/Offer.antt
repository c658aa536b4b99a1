-- An offer: what it tells, and the table after it.
use Rattle.std.specs.Prelude.{ℕ, ◌-◌, Bool, not, cond, ◌&&◌, List, [], ◌∷◌, ltb, eqb, length, get_or, Some, Result, Ok, Err}
use Rattle.told.specs.Told.{Told, gave, refused, if_good}
use Rattle.told.specs.Over.{over}
use Rattle.limits.specs.Domain.{outside}
use Rattle.totals.specs.Totals.{full, one_more}
use Rattle.totals.specs.declared.Fate.{Fate}
use Rattle.totals.specs.declared.Fate.TheVariants as fate
use Rattle.tracker.specs.Refusal.{told}
use Rattle.tracker.specs.Rest.{with_totals}
use Rattle.tracker.specs.declared.Refusal.{Refusal}
use Rattle.tracker.specs.declared.Seq.{Seq}
use Rattle.tracker.specs.declared.Second.{Second}
use Rattle.tracker.specs.declared.SequenceTracker.{SequenceTracker}
use Rattle.skipping.specs.Reasons.{goes_back, comes_too_soon}
use Rattle.keeping.specs.Keep.{kept_with}
use Rattle.offers.specs.Whole.{Table, whole, check_in, Left, leaving}
use Rattle.offers.specs.declared.Offered.{Offered}
use Rattle.offers.specs.declared.Offered.TheVariants.{Recorded, WentBack, TooSoon, PairRefused}

-- an offer that is counted, with the table's new state: recorded; skipped, for one of two reasons; or refused for its pair, with the number
pub data Outcome : Type 0 where
  recorded : SequenceTracker → Outcome
  went_back : SequenceTracker → Outcome
  too_soon : SequenceTracker → Outcome
  pair_refused : List ℕ → SequenceTracker → Outcome

-- what `offer` tells
abbrev pub told_outcome : Offered → Outcome
told_outcome (Recorded t) = recorded t
told_outcome (WentBack t) = went_back t
told_outcome (TooSoon t) = too_soon t
told_outcome (PairRefused r t) = pair_refused (told r) t

abbrev pub told_offer : Result Offered Refusal → Told Outcome
told_offer (Ok o) = gave (told_outcome o)
told_offer (Err r) = refused (told r)

-- a sequence below the last kept one, of n
abbrev pub low_seq : List ℕ → ℕ → ℕ → Bool
low_seq seqs n q = not (eqb n 0) && ltb q (get_or seqs (n - 1) 0)

-- the state with one more offer counted, and nothing else changed
abbrev pub counting : Fate → SequenceTracker → SequenceTracker
counting fate table = with_totals (one_more fate table.totals) table

-- the state with a pair recorded: how many pairs stand, the last recorded second set, and the offer counted
abbrev pub state_with : SequenceTracker → ℕ → Second → SequenceTracker
state_with table count ts = record {
  count = count;
  capacity = table.capacity;
  interval_secs = table.interval_secs;
  last_recorded_ts = Some ts;
  totals = one_more fate.Recorded table.totals;
}

-- what comes of an offer that is counted: 16, the skip with its reason, 17; else the pair is recorded
abbrev pub outcome_of : Table → Seq → Second → Outcome
outcome_of w seq ts =
    cond (outside ts.0) (pair_refused (16 ∷ []) (counting fate.Refused w.state))
    (cond (goes_back w.state.last_recorded_ts ts.0) (went_back (counting fate.WentBack w.state))
    (cond (comes_too_soon w.state.last_recorded_ts w.state.interval_secs ts.0) (too_soon (counting fate.TooSoon w.state))
    (cond (low_seq w.seqs w.state.count seq.0) (pair_refused (17 ∷ []) (counting fate.Refused w.state))
    (recorded (state_with w.state (length (kept_with w.state w.seqs seq.0)) ts)))))

-- what `offer` tells: 14, 11, 12, 13, 31, and then nothing is counted; else what comes of it
abbrev pub offer_to : Table → Seq → Second → Told Outcome
offer_to w seq ts = if_good (check_in w) (cond (full w.state.totals) (refused (31 ∷ [])) (gave (outcome_of w seq ts)))

-- the table after an offer that tells this: recorded, each array holds what is kept, and past it what stood there; else the arrays are as they
-- were, and the state is the one told, or as it was where none is
abbrev pub offered_to : Table → Seq → Second → Told Outcome → Table
offered_to w seq ts (gave (recorded t)) =
    whole t (over (kept_with w.state w.seqs seq.0) w.seqs) (over (kept_with w.state w.secs ts.0) w.secs)
offered_to w seq ts (gave (went_back t)) = whole t w.seqs w.secs
offered_to w seq ts (gave (too_soon t)) = whole t w.seqs w.secs
offered_to w seq ts (gave (pair_refused what t)) = whole t w.seqs w.secs
offered_to w seq ts (refused what) = w

-- an offer: what it tells and leaves
abbrev pub offering : Table → Seq → Second → Left (Told Outcome)
offering w seq ts = leaving (offer_to w seq ts) (offered_to w seq ts (offer_to w seq ts))
