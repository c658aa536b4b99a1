-- What our own functions promise each other. No public statement cites this file.
use Rattle.std.specs.Prelude.{ℕ, List, Option, Some, None}
use Rattle.std.specs.Borrow.{Bor}
use Rattle.gorilla.specs.Parser.{Read, read, refused}
use Rattle.question_lines.specs.Grammar.{not_the_form}

-- what was read, with what is left; or the refusal
abbrev pub as_read : {A : Type 0} → Option (A × Bor (List ℕ)) → Read A
as_read (Some (x, rest)) = read x rest.now
as_read None = refused not_the_form
