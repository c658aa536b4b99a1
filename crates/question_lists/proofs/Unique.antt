-- No second outcome fits the statement of a list of questions.
use Prim.Native.Nat.{ℕ}
use mathlib.Core.Path.{◌≡◌, refl, sym, ◌∙◌, ap}
use mathlib.Core.List.{List}
use lib.IntN.{ℤ, pos}
use lib.ListN.{length, get_or}
use lib.Seq.{ext_get_or}
use Rattle.std.specs.Prelude.{Result}
use Rattle.told.specs.Told.{Told, gave, refused}
use Rattle.tracker.specs.declared.SequenceTracker.{SequenceTracker}
use Rattle.lookup.specs.Find.{Partner, seq_at, second_at}
use Rattle.lookup.specs.declared.FindOption.{FindOption}
use Rattle.questions.specs.declared.Refusal.{Refusal}
use Rattle.questions.specs.declared.TsAnswer.{TsAnswer}
use Rattle.questions.specs.declared.SeqAnswer.{SeqAnswer}
use Rattle.questions.proofs.Answered.{answered_once}
use Rattle.questions.proofs.Unique.{one_asked}
use Rattle.question_lists.specs.Each.{list_rule, ts_place, seq_place, Filled, Leaves, TsLeft, SeqLeft, FindsTsEach, FindsSeqEach}

-- a place tells its mark and its answer; x₀ is what an answer past the end would be
module _ {K P A X : Type 0} (find : K → Told (Partner P)) (stands : Partner P → A) (key : ℕ → K) (place : List X → List ℕ → ℕ → A) (x₀ : X)
    (mark : A → ℕ) (answer : A → X)
    (by-mark : (answers : List X) (found : List ℕ) (i : ℕ) → get_or found i 0 ≡ mark (place answers found i))
    (by_answer : (answers : List X) (found : List ℕ) (i : ℕ) → get_or answers i x₀ ≡ answer (place answers found i)) where
  one-filled : (n : ℕ) (old : List X) (marks : List ℕ) (a b : List X) (f g : List ℕ)
      → Filled find stands key place n old marks a f → Filled find stands key place n old marks b g → (a ≡ b) × (f ≡ g)
  one-filled n old marks a b f g h k =
      let same = answered_once find stands key (place old marks) n (place a f) (place b g) h.each k.each in (
        ext_get_or x₀ a b (h.same_answers ∙ sym k.same_answers) (λ i _. by_answer a f i ∙ ap answer (same i) ∙ sym (by_answer b g i)),
        ext_get_or 0 f g (h.same_found ∙ sym k.same_found) (λ i _. by-mark a f i ∙ ap mark (same i) ∙ sym (by-mark b g i)),
      )

  one_left : (told : Told (Unit {0})) (n : ℕ) (old : List X) (marks : List ℕ) (a b : List X) (f g : List ℕ)
      → Leaves find stands key place told n old marks a f → Leaves find stands key place told n old marks b g → (a ≡ b) × (f ≡ g)
  one_left (gave _) n old marks a b f g h k = one-filled n old marks a b f g h k
  one_left (refused what) n old marks a b f g h k = (h.0 ∙ sym k.0, h.1 ∙ sym k.1)

-- of what is left
pub one_ts_left : (table : SequenceTracker) (seqs : List ℕ) (secs : List ℤ) (keys : List ℕ) (opt : FindOption) (old : List ℤ) (marks : List ℕ) (a b : List ℤ) (f g : List ℕ)
    → TsLeft table seqs secs keys opt old marks a f → TsLeft table seqs secs keys opt old marks b g → (a ≡ b) × (f ≡ g)
one_ts_left table seqs secs keys opt old marks =
    one_left _ _ (seq_at keys) ts_place (pos 0) (λ (t : TsAnswer). t.found) (λ (t : TsAnswer). t.second.0) (λ _ _ _. refl) (λ _ _ _. refl)
    (list_rule table seqs secs (length keys) (length old) (length marks)) (length keys) old marks

pub one_seq_left : (table : SequenceTracker) (seqs : List ℕ) (secs : List ℤ) (keys : List ℤ) (opt : FindOption) (old marks a b f g : List ℕ)
    → SeqLeft table seqs secs keys opt old marks a f → SeqLeft table seqs secs keys opt old marks b g → (a ≡ b) × (f ≡ g)
one_seq_left table seqs secs keys opt old marks =
    one_left _ _ (second_at keys) seq_place 0 (λ (t : SeqAnswer). t.found) (λ (t : SeqAnswer). t.seq.0) (λ _ _ _. refl) (λ _ _ _. refl)
    (list_rule table seqs secs (length keys) (length old) (length marks)) (length keys) old marks

-- of `find_ts_each` and `find_seq_each`
pub one_ts_each : (table : SequenceTracker) (seqs : List ℕ) (secs : List ℤ) (keys : List ℕ) (opt : FindOption) (old : List ℤ) (marks : List ℕ)
    (r₁ r₂ : Result (Unit {0}) Refusal) (a b : List ℤ) (f g : List ℕ)
    → FindsTsEach table seqs secs keys opt old marks r₁ a f → FindsTsEach table seqs secs keys opt old marks r₂ b g → (r₁ ≡ r₂) × (a ≡ b) × (f ≡ g)
one_ts_each table seqs secs keys opt old marks r₁ r₂ a b f g h k =
    let left = one_ts_left table seqs secs keys opt old marks a b f g h.1 k.1 in
    (one_asked r₁ r₂ (h.0 ∙ sym k.0), left.0, left.1)

pub one_seq_each : (table : SequenceTracker) (seqs : List ℕ) (secs : List ℤ) (keys : List ℤ) (opt : FindOption) (old marks : List ℕ)
    (r₁ r₂ : Result (Unit {0}) Refusal) (a b f g : List ℕ)
    → FindsSeqEach table seqs secs keys opt old marks r₁ a f → FindsSeqEach table seqs secs keys opt old marks r₂ b g → (r₁ ≡ r₂) × (a ≡ b) × (f ≡ g)
one_seq_each table seqs secs keys opt old marks r₁ r₂ a b f g h k =
    let left = one_seq_left table seqs secs keys opt old marks a b f g h.1 k.1 in
    (one_asked r₁ r₂ (h.0 ∙ sym k.0), left.0, left.1)
