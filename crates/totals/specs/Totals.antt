-- The four totals of a table: how many offers were recorded, went back, came too soon, and were refused with 16 or 17.
use Rattle.std.specs.Prelude.{ℕ, ◌+◌, Bool, ltb}
use Rattle.totals.specs.declared.Totals.{Totals}
use Rattle.totals.specs.declared.Fate.{Fate}
use Rattle.totals.specs.declared.Fate.TheVariants.{Recorded, WentBack, TooSoon, Refused}

-- as creation and restore set them
abbrev pub no_totals : Totals
no_totals = record { recorded = 0; went_back = 0; too_soon = 0; refused = 0 }

-- how many offers they count
abbrev pub sum_of : Totals → ℕ
sum_of n = n.recorded + n.went_back + n.too_soon + n.refused

-- 2^64-1
abbrev pub most : ℕ
most = 18446744073709551615

-- they do not add up within 64 bits
abbrev pub too_many : Totals → Bool
too_many n = ltb most (sum_of n)

-- one more offer would pass 2^64-1
abbrev pub full : Totals → Bool
full n = ltb most (sum_of n + 1)

-- one more offer, by what became of it
abbrev pub one_more : Fate → Totals → Totals
one_more Recorded n = record { recorded = n.recorded + 1; went_back = n.went_back; too_soon = n.too_soon; refused = n.refused }
one_more WentBack n = record { recorded = n.recorded; went_back = n.went_back + 1; too_soon = n.too_soon; refused = n.refused }
one_more TooSoon n = record { recorded = n.recorded; went_back = n.went_back; too_soon = n.too_soon + 1; refused = n.refused }
one_more Refused n = record { recorded = n.recorded; went_back = n.went_back; too_soon = n.too_soon; refused = n.refused + 1 }
