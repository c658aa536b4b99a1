-- An offer is told that it was skipped exactly where the Rust's rule skips it.
use mathlib.Core.Path.{◌≡◌, refl, sym}
use mathlib.Core.Logic.{◌⊎◌, inl, inr, ⊎_elim, ◌↔◌}
use mathlib.Core.Bool.{Bool, true, false, cond, ◌||◌, true≢false}
use mathlib.Core.List.{List, [], ◌∷◌}
use Prim.Native.Nat.{ℕ}
use native.Mathlib.Omega.{arith}
use Rattle.told.specs.Told.{Told, gave, refused, if_good}
use Rattle.limits.specs.Domain.{outside}
use Rattle.totals.specs.Totals.{full}
use Rattle.totals.specs.declared.Fate.TheVariants as fate
use Rattle.tracker.specs.declared.SequenceTracker.{SequenceTracker}
use Rattle.order.proofs.Bools.{not_given}
use Rattle.skipping.specs.Reasons.{goes_back, comes_too_soon}
use Rattle.skipping.proofs.Reasons.{either}
use Rattle.offers.specs.Whole.{check_in}
use Rattle.offers.specs.Offer.{Outcome, recorded, went_back, too_soon, pair_refused, counting, low_seq}
use Rattle.offers.specs.Skipped.{SkippedExactly}

-- an offer is skipped, with one of these states, where its table is good and has room for it, its second is inside, and one of the two tests holds
module _ (b s n t : SequenceTracker) where
  abbrev Skips : Told Outcome → Type 0
  Skips o = (o ≡ gave (went_back b)) ⊎ (o ≡ gave (too_soon s))

  not_refused : (what : List ℕ) → Skips (refused what) → ⊥
  not_refused what = ⊎_elim (not_given what (went_back b)) (not_given what (too_soon s))

  not_pair : (what : List ℕ) → Skips (gave (pair_refused what n)) → ⊥
  not_pair what = ⊎_elim (λ e. let z : ◌≡◌ {A = ℕ} 0 1 = cc e in omega arith) (λ e. let z : ◌≡◌ {A = ℕ} 0 1 = cc e in omega arith)

  not_recorded : Skips (gave (recorded t)) → ⊥
  not_recorded = ⊎_elim (λ e. let z : ◌≡◌ {A = ℕ} 0 1 = cc e in omega arith) (λ e. let z : ◌≡◌ {A = ℕ} 0 1 = cc e in omega arith)

  abbrev Exactly : Told (Unit {0}) → Bool → Bool → Bool → Told Outcome → Type 0
  Exactly checked filled out skip o = Skips o ↔ ((checked ≡ gave tt) × (filled ≡ false) × (out ≡ false) × (skip ≡ true))

  told_so : (checked : Told (Unit {0})) (filled out back soon low : Bool)
      → Exactly checked filled out (back || soon)
      (if_good checked
      (cond filled (refused (31 ∷ []))
      (gave (cond out (pair_refused (16 ∷ []) n) (cond back (went_back b) (cond soon (too_soon s) (cond low (pair_refused (17 ∷ []) n) (recorded t))))))))
  told_so (refused what) filled out back soon low = (λ h. absurd (not_refused what h), λ h. absurd (not_given what tt h.0))
  told_so (gave _) true out back soon low = (λ h. absurd (not_refused (31 ∷ []) h), λ h. absurd (true≢false h.1))
  told_so (gave _) false true back soon low = (λ h. absurd (not_pair (16 ∷ []) h), λ h. absurd (true≢false h.2))
  told_so (gave _) false false true soon low = (λ h. (refl, refl, refl, refl), λ h. inl refl)
  told_so (gave _) false false false true low = (λ h. (refl, refl, refl, refl), λ h. inr refl)
  told_so (gave _) false false false false true = (λ h. absurd (not_pair (17 ∷ []) h), λ h. absurd (true≢false (sym h.3)))
  told_so (gave _) false false false false false = (λ h. absurd (not_recorded h), λ h. absurd (true≢false (sym h.3)))

pub skipped_exactly : SkippedExactly
skipped_exactly w seq ts =
    rw (← either w.state.last_recorded_ts w.state.interval_secs ts.0)
    (told_so (counting fate.WentBack w.state) (counting fate.TooSoon w.state) (counting fate.Refused w.state) _
    (check_in w) (full w.state.totals) (outside ts.0) (goes_back w.state.last_recorded_ts ts.0) (comes_too_soon w.state.last_recorded_ts w.state.interval_secs ts.0) (low_seq w.seqs w.state.count seq.0))
