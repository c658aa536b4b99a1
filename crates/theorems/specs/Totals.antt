-- The totals of a table count the offers made to it since it was made or restored, each kind apart, and their sum is the number of those that were counted.
use Rattle.std.specs.Prelude.{ℕ, suc, ◌+◌, ◌≡◌, Bool, true, false, cond, not, ◌||◌, List, [], ◌∷◌, eqb, ℤ, get_or}
use Rattle.told.specs.Told.{Told, gave, refused}
use Rattle.totals.specs.Totals.{no_totals, sum_of}
use Rattle.totals.specs.declared.Totals.{Totals}
use Rattle.tracker.specs.declared.TrackedSeq.{TrackedSeq}
use Rattle.tracker.specs.declared.SequenceTracker.{SequenceTracker}
use Rattle.fresh.specs.Fresh.{new_table, config_of}
use Rattle.offers.specs.Whole.{Table}
use Rattle.offers.specs.Offer.{Outcome, recorded, went_back, too_soon, pair_refused}
use Rattle.restoring.specs.Restore.{restore_at}
use Rattle.theorems.specs.Run.{ran_to, answers}
use Rattle.theorems.specs.Lists.{offers_of}

-- the number that an offer was told: 0 where it was not refused
abbrev pub number_in : Told Outcome → ℕ
number_in (gave (recorded t)) = 0
number_in (gave (went_back t)) = 0
number_in (gave (too_soon t)) = 0
number_in (gave (pair_refused what t)) = get_or what 0 0
number_in (refused what) = get_or what 0 0

-- it was told that it was recorded, that it went back, that it came too soon
abbrev pub was_recorded : Told Outcome → Bool
was_recorded (gave (recorded t)) = true
was_recorded (gave (went_back t)) = false
was_recorded (gave (too_soon t)) = false
was_recorded (gave (pair_refused what t)) = false
was_recorded (refused what) = false

abbrev pub was_back : Told Outcome → Bool
was_back (gave (recorded t)) = false
was_back (gave (went_back t)) = true
was_back (gave (too_soon t)) = false
was_back (gave (pair_refused what t)) = false
was_back (refused what) = false

abbrev pub was_soon : Told Outcome → Bool
was_soon (gave (recorded t)) = false
was_soon (gave (went_back t)) = false
was_soon (gave (too_soon t)) = true
was_soon (gave (pair_refused what t)) = false
was_soon (refused what) = false

-- it was refused with 16 or 17
abbrev pub was_refused : Told Outcome → Bool
was_refused o = eqb (number_in o) 16 || eqb (number_in o) 17

-- it was not refused with 14, 11, 12, 13 or 31
abbrev pub was_counted : Told Outcome → Bool
was_counted o = not (eqb (number_in o) 14 || eqb (number_in o) 11 || eqb (number_in o) 12 || eqb (number_in o) 13 || eqb (number_in o) 31)

-- how many answers are so
unfoldable pub how_many : (Told Outcome → Bool) → List (Told Outcome) → ℕ
how_many so [] = 0
how_many so (o ∷ os) = cond (so o) (suc (how_many so os)) (how_many so os)

-- from totals b to totals n, by these answers
pub record CountedBy (b n : Totals) (os : List (Told Outcome)) : Type 0 where
  pub recorded_are : n.recorded ≡ b.recorded + how_many was_recorded os
  pub back_are : n.went_back ≡ b.went_back + how_many was_back os
  pub soon_are : n.too_soon ≡ b.too_soon + how_many was_soon os
  pub refused_are : n.refused ≡ b.refused + how_many was_refused os
  pub sum_is : sum_of n ≡ sum_of b + how_many was_counted os

-- over any offers to any table; and a table that is made or restored, at any interval, has totals of zero
pub record TotalsCount : Type 0 where
  pub over_offers : (w : Table) (rs : List TrackedSeq) → CountedBy w.state.totals (ran_to w (offers_of rs)).state.totals (answers w (offers_of rs))
  pub at_new : new_table.totals ≡ no_totals
  pub at_creation : (capacity interval : ℕ) (t : SequenceTracker) → config_of capacity interval ≡ gave t → t.totals ≡ no_totals
  pub at_restore : (interval : ℕ) (bytes seqs : List ℕ) (secs : List ℤ) (t : SequenceTracker) → restore_at interval bytes seqs secs ≡ gave t → t.totals ≡ no_totals
