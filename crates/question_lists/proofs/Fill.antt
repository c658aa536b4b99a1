-- The answers of a list, filled from its first question on.
use Prim.Native.Nat.{ℕ, ◌+◌, ◌<◌}
use mathlib.Core.Path.{◌≡◌, refl, ◌∙◌}
use mathlib.Core.Bool.{false, not}
use mathlib.Core.List.{List}
use borrow.Author.Tests.{eqb-true, not-false}
use lib.Dec.{eqb}
use lib.IntN.{ℤ}
use lib.ListN.{length, length-set, get_or, set}
use lib.Seq.{get_or-set_same, get_or-set_other}
use Rattle.told.specs.Told.{Told, gave}
use Rattle.order.proofs.Bools.{neither}
use Rattle.lookup.specs.Find.{Partner}
use Rattle.questions.specs.declared.TsAnswer.{TsAnswer}
use Rattle.questions.specs.declared.SeqAnswer.{SeqAnswer}
use Rattle.questions.proofs.Answered.{answered_none, answered_more, answered_by}
use Rattle.question_lists.specs.Each.{differ, Filled}

-- a place is made of a mark and an answer; x₀ is what an answer past the end would be
module _ {K P A X : Type 0} (find : K → Told (Partner P)) (stands : Partner P → A) (key : ℕ → K) (make : ℕ → X → A) (x₀ : X) where
  abbrev place : List X → List ℕ → ℕ → A
  place answers found i = make (get_or found i 0) (get_or answers i x₀)

  module _ (old : List X) (marks : List ℕ) where
    pub filled_none : Filled find stands key place 0 old marks old marks
    filled_none = record { same_answers = refl; same_found = refl; each = answered_none find stands key (place old marks) }

    -- one more answer, and its mark
    pub filled_more : (n : ℕ) (answers : List X) (found : List ℕ) (p : Partner P) (x : X) (mark : ℕ)
        → n < length answers → n < length found → find (key n) ≡ gave p → make mark x ≡ stands p
        → Filled find stands key place n old marks answers found
        → Filled find stands key place (n + 1) old marks (set answers n x) (set found n mark)
    filled_more n answers found p x mark la lf told stood f = record {
      same_answers = length-set answers n x ∙ f.same_answers;
      same_found = length-set found n mark ∙ f.same_found;
      each = answered_more find stands key (place old marks) n (place answers found) (place (set answers n x) (set found n mark)) p told
          (rw (get_or-set_same found n mark 0 lf, get_or-set_same answers n x x₀ la) stood)
          (λ i other. rw (get_or-set_other found n i mark 0 other, get_or-set_other answers n i x x₀ other))
          f.each;
    }

-- by a lookup that gives the same
pub filled-by : {K P A X : Type 0} (find find' : K → Told (Partner P)) (stands : Partner P → A) (key : ℕ → K) (place : List X → List ℕ → ℕ → A)
    (n : ℕ) (old : List X) (marks : List ℕ) (answers : List X) (found : List ℕ)
    → ((x : K) → find x ≡ find' x) → Filled find stands key place n old marks answers found → Filled find' stands key place n old marks answers found
filled-by find find' stands key place n old marks answers found same f = record {
  same_answers = f.same_answers;
  same_found = f.same_found;
  each = answered_by find find' stands n key (place old marks) (place answers found) same f.each;
}

-- both kinds of places
abbrev pub ts_make : ℕ → ℤ → TsAnswer
ts_make mark x = record { found = mark; second = record { 0 = x } }

abbrev pub seq_make : ℕ → ℕ → SeqAnswer
seq_make mark x = record { found = mark; seq = record { 0 = x } }

-- what is not different is equal
pub as_long : (keys answers found : ℕ) → differ keys answers found ≡ false → (keys ≡ answers) × (keys ≡ found)
as_long keys answers found h =
    let both = neither (not (eqb keys answers)) (not (eqb keys found)) h in
    (eqb-true _ _ (not-false (eqb keys answers) both.0), eqb-true _ _ (not-false (eqb keys found) both.1))
