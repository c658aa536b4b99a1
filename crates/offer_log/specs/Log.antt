-- A log of offers: records offered in order, up to the first refusal.
use Rattle.std.specs.Prelude.{ℕ, ◌+◌, List, [], ◌∷◌, ◌++◌, Result, Ok, Err}
use Rattle.told.specs.Told.{Told, gave, refused}
use Rattle.tracker.specs.Refusal.{told}
use Rattle.tracker.specs.declared.TrackedSeq.{TrackedSeq}
use Rattle.tracker.specs.declared.SequenceTracker.{SequenceTracker}
use Rattle.offers.specs.Whole as offers
use Rattle.offers.specs.Whole.{check_in, Left, leaving}
use Rattle.offers.specs.Offer.{Outcome, recorded, went_back, too_soon, pair_refused, offer_to, offered_to}
use Rattle.tallies.specs.Tally.{none_yet, counted}
use Rattle.tallies.specs.declared.Tally.{Tally}
use Rattle.offer_log.specs.declared.Logged.{Logged}
use Rattle.offer_log.specs.declared.Logged.TheVariants.{Done, Stopped}
use Rattle.offer_log.specs.declared.Refusal.{Refusal}
use Rattle.offer_log.specs.declared.Refusal.TheVariants.{Table, Own, Other, LengthsDiffer}

-- what comes of a log on a good table: all records offered, or stopped at one, with the refusal's number and the refused position;
-- with each the state that the offers left, and how many were recorded, went back and came too soon
pub data Log : Type 0 where
  done : SequenceTracker → Tally → Log
  stopped : List ℕ → SequenceTracker → Tally → Log

abbrev pub told_logged : Logged → Log
told_logged (Done table n) = done table n
told_logged (Stopped at why table n) = stopped (told why ++ (at ∷ [])) table n

-- a bad table has no position; of two tables it tells, last, which was bad, 0 the own and 1 the other; two lists of different length are 18
abbrev pub told_refusal : Refusal → List ℕ
told_refusal (Table why) = told why
told_refusal (Own why) = told why ++ (0 ∷ [])
told_refusal (Other why) = told why ++ (1 ∷ [])
told_refusal LengthsDiffer = 18 ∷ []

-- what a log tells
abbrev pub told_log : Result Logged Refusal → Told Log
told_log (Ok l) = gave (told_logged l)
told_log (Err r) = refused (told_refusal r)

-- what is left of a refusal, else what follows
abbrev pub unless : {A B : Type 0} → Told A → (List ℕ → B) → B → B
unless (gave _) stop next = next
unless (refused what) stop next = stop what

-- the same of an offer, whether its refusal was counted (16, 17) or not (31)
abbrev pub unless_stopped : {B : Type 0} → Told Outcome → (List ℕ → B) → B → B
unless_stopped (gave (recorded t)) stop next = next
unless_stopped (gave (went_back t)) stop next = next
unless_stopped (gave (too_soon t)) stop next = next
unless_stopped (gave (pair_refused what t)) stop next = stop what
unless_stopped (refused what) stop next = stop what

-- the records from position i on, in order, up to the first refusal; the state is the one that the last offer left, be that the refused one
unfoldable pub run_of : offers.Table → Tally → ℕ → List TrackedSeq → Left (Told Log)
run_of w n i [] = leaving (gave (done w.state n)) w
run_of w n i (r ∷ rs) =
    let told = offer_to w r.seq r.ts in
    let after = offered_to w r.seq r.ts told in
    unless_stopped told (λ what. leaving (gave (stopped (what ++ (i ∷ [])) after.state n)) after)
    (run_of after (counted told n) (i + 1) rs)

-- a log of offers to a table: a bad one refuses before the first record, and is as before
abbrev pub log_of : offers.Table → List TrackedSeq → Left (Told Log)
log_of w records = unless (check_in w) (λ what. leaving (refused what) w) (run_of w none_yet 0 records)
