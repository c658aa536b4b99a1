-- How many records of a list of offers were recorded, went back and came too soon.
use Rattle.std.specs.Prelude.{ℕ, ◌+◌}
use Rattle.told.specs.Told.{Told, gave, refused}
use Rattle.offers.specs.Offer.{Outcome, recorded, went_back, too_soon, pair_refused}
use Rattle.tallies.specs.declared.Tally.{Tally}

-- before the first record
abbrev pub none_yet : Tally
none_yet = record { recorded = 0; went_back = 0; too_soon = 0 }

-- one more that was recorded, went back or came too soon, as an offer told; one that was refused is in none of the three
abbrev pub counted : Told Outcome → Tally → Tally
counted (gave (recorded t)) n = record { recorded = n.recorded + 1; went_back = n.went_back; too_soon = n.too_soon }
counted (gave (went_back t)) n = record { recorded = n.recorded; went_back = n.went_back + 1; too_soon = n.too_soon }
counted (gave (too_soon t)) n = record { recorded = n.recorded; went_back = n.went_back; too_soon = n.too_soon + 1 }
counted (gave (pair_refused what t)) n = n
counted (refused what) n = n

-- how many records a tally counts
abbrev pub total : Tally → ℕ
total n = n.recorded + n.went_back + n.too_soon
