-- What a call that gives a table answers, from what the call below it tells.
use Rattle.std.specs.Prelude.{ℕ, List, [], ◌∷◌}
use Rattle.told.specs.Told.{Told, gave, refused}
use Rattle.tracker.specs.declared.SequenceTracker.{SequenceTracker}
use Rattle.offers.specs.Offer.{Outcome, recorded, went_back, too_soon, pair_refused}
use Rattle.tallies.specs.Tally.{none_yet, counted}
use Rattle.tallies.specs.declared.Tally.{Tally}
use Rattle.offer_log.specs.Log.{Log, done, stopped}
use Rattle.answers.specs.Answer.{answer_of}
use Rattle.states.specs.State.{state_of, no_state}
use Rattle.states.specs.declared.State.{State}
use Rattle.table_answers.specs.declared.TableAnswer.{TableAnswer}

-- what is answered, how many were recorded, went back and came too soon, and the state
abbrev pub table_answer_of : List ℕ → Tally → State → TableAnswer
table_answer_of l n s = record { answer = answer_of l; tally = n; state = s }

-- a table that is made or restored; refused, there is no state
abbrev pub of_table : Told SequenceTracker → TableAnswer
of_table (gave t) = table_answer_of (0 ∷ []) none_yet (state_of t)
of_table (refused what) = table_answer_of what none_yet no_state

-- an offer to a table: the state after it, and 1 that was recorded, went back or came too soon; refused for its pair, by 16 or 17, the state too;
-- refused else, there is none
abbrev pub of_offer : Told Outcome → TableAnswer
of_offer (gave (recorded t)) = table_answer_of (0 ∷ []) (counted (gave (recorded t)) none_yet) (state_of t)
of_offer (gave (went_back t)) = table_answer_of (0 ∷ []) (counted (gave (went_back t)) none_yet) (state_of t)
of_offer (gave (too_soon t)) = table_answer_of (0 ∷ []) (counted (gave (too_soon t)) none_yet) (state_of t)
of_offer (gave (pair_refused what t)) = table_answer_of what none_yet (state_of t)
of_offer (refused what) = table_answer_of what none_yet no_state

-- a list of offers: all offered; stopped at a record, with the state that its offer left; or refused
abbrev pub of_log : Told Log → TableAnswer
of_log (gave (done t n)) = table_answer_of (0 ∷ []) n (state_of t)
of_log (gave (stopped what t n)) = table_answer_of what n (state_of t)
of_log (refused what) = table_answer_of what none_yet no_state
