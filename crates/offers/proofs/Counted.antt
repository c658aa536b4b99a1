-- What an offer counts, by what it tells.
use mathlib.Core.Path.{◌≡◌, refl, ap, subst}
use mathlib.Core.Logic.{inl, inr}
use mathlib.Core.Bool.{Bool, true, false, cond}
use mathlib.Core.List.{[], ◌∷◌}
use Prim.Native.Nat.{◌+◌, ◌≤◌}
use native.Mathlib.Omega.{arith}
use borrow.Author.Tests.{ltb-true}
use Rattle.told.specs.Told.{Told, gave, refused, if_good}
use Rattle.told.proofs.Unique.{same_gift}
use Rattle.limits.specs.Domain.{outside}
use Rattle.totals.specs.Totals.{sum_of, most, full, one_more}
use Rattle.totals.specs.declared.Totals.{Totals}
use Rattle.totals.specs.declared.Fate.TheVariants as fate
use Rattle.totals.proofs.Sum.{sum_more, room_for_one, not_full}
use Rattle.tracker.specs.declared.Seq.{Seq}
use Rattle.tracker.specs.declared.Second.{Second}
use Rattle.tracker.proofs.Good.{fine}
use Rattle.order.proofs.Bools.{not_given, passed}
use Rattle.skipping.specs.Reasons.{goes_back, comes_too_soon}
use Rattle.offers.specs.Whole.{Table, check_in}
use Rattle.offers.specs.Offer.{Outcome, recorded, went_back, too_soon, pair_refused, low_seq, outcome_of, offer_to, offered_to}
use Rattle.offers.specs.Counted.{Counts, OfferCounts, CountedExactly}

-- the totals after an offer that told this
abbrev pub totals_with : Told Outcome → Totals → Totals
totals_with (gave (recorded t)) n = one_more fate.Recorded n
totals_with (gave (went_back t)) n = one_more fate.WentBack n
totals_with (gave (too_soon t)) n = one_more fate.TooSoon n
totals_with (gave (pair_refused what t)) n = one_more fate.Refused n
totals_with (refused what) n = n

-- what holds of each of five outcomes holds of the one that is taken
five : (P : Outcome → Type 0) (a b c d : Bool) {o₁ o₂ o₃ o₄ o₅ : Outcome} → P o₁ → P o₂ → P o₃ → P o₄ → P o₅ → P (cond a o₁ (cond b o₂ (cond c o₃ (cond d o₄ o₅))))
five P true b c d h₁ h₂ h₃ h₄ h₅ = h₁
five P false true c d h₁ h₂ h₃ h₄ h₅ = h₂
five P false false true d h₁ h₂ h₃ h₄ h₅ = h₃
five P false false false true h₁ h₂ h₃ h₄ h₅ = h₄
five P false false false false h₁ h₂ h₃ h₄ h₅ = h₅

module _ (w : Table) (seq : Seq) (ts : Second) where
  outcome_counts : Counts w (gave (outcome_of w seq ts))
  outcome_counts =
      five (λ (o : Outcome). Counts w (gave o)) (outside ts.0) (goes_back w.state.last_recorded_ts ts.0) (comes_too_soon w.state.last_recorded_ts w.state.interval_secs ts.0)
      (low_seq w.seqs w.state.count seq.0) (refl, inl refl) refl refl (refl, inr refl) refl

  pub offer_counts : Counts w (offer_to w seq ts)
  offer_counts = go (check_in w) refl (full w.state.totals) refl
    where
      go : (c : Told (Unit {0})) → check_in w ≡ c → (f : Bool) → full w.state.totals ≡ f → Counts w (if_good c (cond f (refused (31 ∷ [])) (gave (outcome_of w seq ts))))
      go (refused what) e f h = inl e
      go (gave tt) e true h =
          let fit = (fine w.state w.seqs w.secs e).state.totals_fit in
          inr (e, omega (arith, fit, ltb-true most (sum_of w.state.totals + 1) h), refl)
      go (gave tt) e false h = outcome_counts

  -- what an offer has passed that is counted
  pub record Reached (o : Outcome) : Type 0 where
    pub good : check_in w ≡ gave tt
    pub room : full w.state.totals ≡ false
    pub outcome : outcome_of w seq ts ≡ o

  pub reached : (o : Outcome) → offer_to w seq ts ≡ gave o → Reached o
  reached o h = go (check_in w) refl h
    where
      go : (c : Told (Unit {0})) → check_in w ≡ c → if_good c (cond (full w.state.totals) (refused (31 ∷ [])) (gave (outcome_of w seq ts))) ≡ gave o → Reached o
      go (refused what) e h = absurd (not_given what o h)
      go (gave tt) e h = let p = passed (full w.state.totals) (31 ∷ []) _ o h in record { good = e; room = p.0; outcome = same_gift p.1 }

  pub counts_so : (o : Told Outcome) → offer_to w seq ts ≡ o → Counts w o
  counts_so o h = subst (Counts w) h offer_counts

  -- the totals afterwards
  pub totals_after : (o : Told Outcome) → offer_to w seq ts ≡ o → (offered_to w seq ts o).state.totals ≡ totals_with o w.state.totals
  totals_after o h = go o (counts_so o h)
    where
      go : (o : Told Outcome) → Counts w o → (offered_to w seq ts o).state.totals ≡ totals_with o w.state.totals
      go (gave (recorded t)) c = c
      go (gave (went_back t)) c = ap (λ s. s.totals) c
      go (gave (too_soon t)) c = ap (λ s. s.totals) c
      go (gave (pair_refused what t)) c = ap (λ s. s.totals) c.0
      go (refused what) c = refl

  -- and their sum: one more, where the offer was counted
  pub sum-after : (o : Outcome) → offer_to w seq ts ≡ gave o → sum_of (offered_to w seq ts (gave o)).state.totals ≡ sum_of w.state.totals + 1
  sum-after o h = rw (totals_after (gave o) h) (go o)
    where
      go : (o : Outcome) → sum_of (totals_with (gave o) w.state.totals) ≡ sum_of w.state.totals + 1
      go (recorded t) = sum_more fate.Recorded w.state.totals
      go (went_back t) = sum_more fate.WentBack w.state.totals
      go (too_soon t) = sum_more fate.TooSoon w.state.totals
      go (pair_refused what t) = sum_more fate.Refused w.state.totals

  pub at_most_one : sum_of (offered_to w seq ts (offer_to w seq ts)).state.totals ≤ sum_of w.state.totals + 1
  at_most_one = go (offer_to w seq ts) refl
    where
      go : (o : Told Outcome) → offer_to w seq ts ≡ o → sum_of (offered_to w seq ts o).state.totals ≤ sum_of w.state.totals + 1
      go (gave o) e = omega (arith, sum-after o e)
      go (refused what) e = omega arith

pub offers_count : OfferCounts
offers_count = offer_counts

pub counted-exactly : CountedExactly
counted-exactly w seq ts = (
  λ h. let r = reached w seq ts h.0 h.1 in (r.good, omega (arith, room_for_one w.state.totals r.room)),
  λ h. (outcome_of w seq ts, rw (h.0, not_full w.state.totals (omega (arith, h.1)))),
)
