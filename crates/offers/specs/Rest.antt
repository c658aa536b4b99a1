-- What an offer tells, but for the totals.
use Rattle.told.specs.Told.{Told, gave, refused}
use Rattle.totals.specs.Totals.{no_totals}
use Rattle.totals.specs.declared.Totals.{Totals}
use Rattle.tracker.specs.Rest.{with_totals}
use Rattle.offers.specs.Offer.{Outcome, recorded, went_back, too_soon, pair_refused}

-- with these totals in the state
abbrev pub offer_with : Totals → Told Outcome → Told Outcome
offer_with n (gave (recorded t)) = gave (recorded (with_totals n t))
offer_with n (gave (went_back t)) = gave (went_back (with_totals n t))
offer_with n (gave (too_soon t)) = gave (too_soon (with_totals n t))
offer_with n (gave (pair_refused what t)) = gave (pair_refused what (with_totals n t))
offer_with n (refused what) = refused what

-- all of it but the totals: with these at zero
abbrev pub offer_rest : Told Outcome → Told Outcome
offer_rest o = offer_with no_totals o
