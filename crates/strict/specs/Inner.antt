-- What our own functions promise each other. No public statement cites this file.
use Rattle.std.specs.Prelude.{ℕ, [], ◌∷◌, Option, Some, None}
use Rattle.told.specs.Told.{Told, gave, refused}
use Rattle.gorilla.specs.Array.{array_no}
use Rattle.gorilla.specs.declared.Array.{Array}

-- refusal 20 for the difference of deltas that a search found: its array and its index
abbrev pub found_wide : Option (Array × ℕ) → Told (Unit {0})
found_wide None = gave tt
found_wide (Some at) = refused (20 ∷ array_no at.0 ∷ at.1 ∷ [])
