-- What our own functions promise each other. No public statement cites this file.
use Rattle.std.specs.Prelude.{ℕ, ◌≡◌, List, ℤ, length}
use Rattle.told.specs.Told.{gave}
use Rattle.lookup.specs.Find.{seq_at, second_at}
use Rattle.lookup.specs.declared.FindOption.{FindOption}
use Rattle.questions.specs.Stands.{ts_stands, seq_stands}
use Rattle.questions.specs.Inner.{ts_partner, seq_partner}
use Rattle.question_lists.specs.Each.{Filled, ts_place, seq_place}

-- three slices of one length
abbrev pub AsLong : {A B C : Type 0} → List A → List B → List C → Type 0
AsLong keys answers found = (length keys ≡ length answers) × (length keys ≡ length found)

-- the first i questions are answered, from the pairs
abbrev pub FilledTs : List ℕ → List ℤ → FindOption → List ℕ → ℕ → List ℤ → List ℕ → List ℤ → List ℕ → Type 0
FilledTs seqs secs opt keys = Filled (λ key. gave (ts_partner seqs secs key opt)) ts_stands (seq_at keys) ts_place

abbrev pub FilledSeq : List ℕ → List ℤ → FindOption → List ℤ → ℕ → List ℕ → List ℕ → List ℕ → List ℕ → Type 0
FilledSeq seqs secs opt keys = Filled (λ key. gave (seq_partner seqs secs key opt)) seq_stands (second_at keys) seq_place
