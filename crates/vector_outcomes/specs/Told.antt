-- How compare/FORMAT.md writes a refusal.
use Rattle.std.specs.Prelude.{ℕ, List, drop, cond, nat_eq, ◌&&◌, Option, Some, None}
use Rattle.vector_bytes.specs.Body.{padded, first_byte}
use Rattle.vector_outcomes.specs.declared.Told.{Told}

-- Two bytes, the number and what it also tells: both are 0 where there is none.
abbrev pub told_by : ℕ → ℕ → Option Told
told_by number tells = cond (nat_eq number 0 && nat_eq tells 0) None (Some (record { number = number; tells = tells }))

-- What bytes begin with; past their end stand zeros.
abbrev pub told_at : List ℕ → Option Told
told_at bytes = told_by (first_byte (padded 1 bytes)) (first_byte (padded 1 (drop 1 bytes)))
