-- What a line that was read comes to.
use Rattle.std.specs.Prelude.{ℕ, ◌≤◌, ◌≡◌, List, length, drop, Option, Some, None, option_map}
use Rattle.std.specs.Borrow.{Bor}
use Rattle.gorilla.specs.Parser.{Read, read, refused}
use Rattle.question_lines.specs.declared.Question.{Question}
use Rattle.question_lines.specs.Grammar.{not_the_form}

-- an answer, with the bytes that it lends
abbrev pub seen : {A : Type 0} → Option (A × Bor (List ℕ)) → Option (A × List ℕ)
seen r = option_map (λ p. (p.0, p.1.now)) r

-- x was read, and what stands in s from some place on is left
abbrev pub ReadTo : {A : Type 0} → List ℕ → Read A → A → List ℕ → Type 0
ReadTo s m x rest = (m ≡ read x rest) × ((at : ℕ) × (at ≤ length s) × (rest ≡ drop at s))

-- the question with what follows its LF; or the refusal
abbrev pub LineAt : List ℕ → Read Question → Option (Question × List ℕ) → Type 0
LineAt s m (Some (q, rest)) = ReadTo s m q rest
LineAt s m None = m ≡ refused not_the_form
