-- What a public call tells.
use Rattle.std.specs.Prelude.{ℕ, List, Result, Ok, Err}

-- what the call gives, or its refusal: the number in the table of docs/RULES.md, "Refusals", then what that number also tells
pub data Told (A : Type 0) : Type 0 where
  gave : A → Told A
  refused : List ℕ → Told A

-- what an answer tells that is a `Result`: what it gives, or what is told of its error
abbrev pub told_by : {A E : Type 0} → (E → List ℕ) → Result A E → Told A
told_by numbers (Ok given) = gave given
told_by numbers (Err error) = refused (numbers error)

-- a refusal stands; else what follows is told
abbrev pub if_good : {A : Type 0} → Told (Unit {0}) → Told A → Told A
if_good (gave _) next = next
if_good (refused what) next = refused what
