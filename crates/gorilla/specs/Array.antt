-- The number by which a refusal tells an array (docs/RULES.md, "Refusals").
use Rattle.std.specs.Prelude.{ℕ}
use Rattle.gorilla.specs.declared.Array.{Array}
use Rattle.gorilla.specs.declared.Array.TheVariants.{Sequences, Seconds}

-- the sequences are array 0, the seconds array 1
abbrev pub array_no : Array → ℕ
array_no Sequences = 0
array_no Seconds = 1
