-- What our own functions promise each other. No public statement cites this file.
use Rattle.std.specs.Prelude.{Bool, false, not, List, ℕ, ◌-◌, eqb, ℤ, pos, get_or, None, Some, Option}
use Rattle.std.specs.Int.Signed.{lt_z}
use Rattle.limits.specs.Domain.{outside}
use Rattle.tracker.specs.declared.Second.{Second}

-- a last recorded second present with count 0 or absent otherwise
abbrev pub last_misplaced : Option Second → ℕ → Bool
last_misplaced None count = not (eqb count 0)
last_misplaced (Some s) count = eqb count 0

-- one out of domain
abbrev pub last_outside : Option Second → Bool
last_outside None = false
last_outside (Some s) = outside s.0

-- one below the last kept second
abbrev pub last_below : Option Second → List ℤ → ℕ → Bool
last_below None secs count = false
last_below (Some s) secs count = lt_z s.0 (get_or secs (count - 1) (pos 0))
