-- When an offer is told that it was skipped. Proved in proofs/Skipped.antt.
use Rattle.std.specs.Prelude.{◌≡◌, ◌⊎◌, ◌↔◌, true, false}
use Rattle.told.specs.Told.{gave}
use Rattle.limits.specs.Domain.{outside}
use Rattle.totals.specs.Totals.{full}
use Rattle.totals.specs.declared.Fate.TheVariants as fate
use Rattle.tracker.specs.declared.Seq.{Seq}
use Rattle.tracker.specs.declared.Second.{Second}
use Rattle.skipping.specs.Reasons.{skips}
use Rattle.offers.specs.Whole.{Table, check_in}
use Rattle.offers.specs.Offer.{went_back, too_soon, counting, offer_to}

-- for one of the two reasons, exactly where the table is good, its totals have room for one more, the second is in the domain and the Rust's rule holds
abbrev pub SkippedExactly : Type 0
SkippedExactly = (w : Table) (seq : Seq) (ts : Second)
    → ((offer_to w seq ts ≡ gave (went_back (counting fate.WentBack w.state))) ⊎ (offer_to w seq ts ≡ gave (too_soon (counting fate.TooSoon w.state))))
    ↔ ((check_in w ≡ gave tt) × (full w.state.totals ≡ false) × (outside ts.0 ≡ false) × (skips w.state.last_recorded_ts w.state.interval_secs ts.0 ≡ true))
