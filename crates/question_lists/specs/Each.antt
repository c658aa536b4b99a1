-- A list of questions in a lent slice, and its answers in two more: the answers, and beside each its mark.
use Rattle.std.specs.Prelude.{ℕ, ◌≡◌, Bool, cond, not, ◌||◌, List, [], ◌∷◌, eqb, ℤ, length, get_or, Result}
use Rattle.told.specs.Told.{Told, refused}
use Rattle.tracker.specs.Table.{check_of}
use Rattle.tracker.specs.declared.SequenceTracker.{SequenceTracker}
use Rattle.lookup.specs.Find.{Partner, find_ts, find_seq, seq_at, second_at}
use Rattle.lookup.specs.declared.FindOption.{FindOption}
use Rattle.questions.specs.Stands.{ts_stands, seq_stands}
use Rattle.questions.specs.Asked.{told_asked, IfDone}
use Rattle.questions.specs.Answered.{Answered}
use Rattle.questions.specs.declared.Refusal.{Refusal}
use Rattle.questions.specs.declared.TsAnswer.{TsAnswer}
use Rattle.questions.specs.declared.SeqAnswer.{SeqAnswer}

-- three slices of these lengths differ in length
abbrev pub differ : ℕ → ℕ → ℕ → Bool
differ keys answers found = not (eqb keys answers) || not (eqb keys found)

-- what is told: 18 where the slices differ in length, before the table's refusals
abbrev pub list_rule : SequenceTracker → List ℕ → List ℤ → ℕ → ℕ → ℕ → Told (Unit {0})
list_rule table seqs secs keys answers found = cond (differ keys answers found) (refused (18 ∷ [])) (check_of table seqs secs)

-- what stands at a place of the answers and their marks
abbrev pub ts_place : List ℤ → List ℕ → ℕ → TsAnswer
ts_place answers found i = record { found = get_or found i 0; second = second_at answers i }

abbrev pub seq_place : List ℕ → List ℕ → ℕ → SeqAnswer
seq_place answers found i = record { found = get_or found i 0; seq = seq_at answers i }

-- over a lookup `find` of any keys, whose answers stand as `stands` says; `key` has the question of a place, `place` what stands there
module _ {K P A X : Type 0} (find : K → Told (Partner P)) (stands : Partner P → A) (key : ℕ → K) (place : List X → List ℕ → ℕ → A) where
  -- the first n questions are answered as `find` answers them, and nothing else has changed
  pub record Filled (n : ℕ) (answers : List X) (found : List ℕ) (answers' : List X) (found' : List ℕ) : Type 0 where
    pub same_answers : length answers' ≡ length answers
    pub same_found : length found' ≡ length found
    pub each : Answered find stands n key (place answers found) (place answers' found')

  -- both slices after what is told: with the n questions answered, or, refused, as they were
  abbrev pub Leaves : Told (Unit {0}) → ℕ → List X → List ℕ → List X → List ℕ → Type 0
  Leaves told n answers found answers' found' = IfDone told (Filled n answers found answers' found') ((answers' ≡ answers) × (found' ≡ found))

-- by sequence the single lookup is `find_ts`, by second `find_seq`
abbrev pub TsLeft : SequenceTracker → List ℕ → List ℤ → List ℕ → FindOption → List ℤ → List ℕ → List ℤ → List ℕ → Type 0
TsLeft table seqs secs keys opt answers found =
    Leaves (λ key. find_ts table seqs secs key opt) ts_stands (seq_at keys) ts_place
    (list_rule table seqs secs (length keys) (length answers) (length found)) (length keys) answers found

abbrev pub SeqLeft : SequenceTracker → List ℕ → List ℤ → List ℤ → FindOption → List ℕ → List ℕ → List ℕ → List ℕ → Type 0
SeqLeft table seqs secs keys opt answers found =
    Leaves (λ key. find_seq table seqs secs key opt) seq_stands (second_at keys) seq_place
    (list_rule table seqs secs (length keys) (length answers) (length found)) (length keys) answers found

-- `find_ts_each` and `find_seq_each`: what is told, and the slices afterwards
abbrev pub FindsTsEach : SequenceTracker → List ℕ → List ℤ → List ℕ → FindOption → List ℤ → List ℕ → Result (Unit {0}) Refusal → List ℤ → List ℕ → Type 0
FindsTsEach table seqs secs keys opt answers found r answers' found' =
    (told_asked r ≡ list_rule table seqs secs (length keys) (length answers) (length found)) × TsLeft table seqs secs keys opt answers found answers' found'

abbrev pub FindsSeqEach : SequenceTracker → List ℕ → List ℤ → List ℤ → FindOption → List ℕ → List ℕ → Result (Unit {0}) Refusal → List ℕ → List ℕ → Type 0
FindsSeqEach table seqs secs keys opt answers found r answers' found' =
    (told_asked r ≡ list_rule table seqs secs (length keys) (length answers) (length found)) × SeqLeft table seqs secs keys opt answers found answers' found'
