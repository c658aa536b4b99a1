-- Where an array breaks a rule.
use Rattle.std.specs.Prelude.{ℕ, ◌-◌, Bool, List, get_or, ℤ, pos}
use Rattle.limits.specs.Domain.{outside}

-- the element at i is below the one before (the one at 0 is compared with itself), by an order test; d is what stands past the end
abbrev pub drops : {K : Type 0} → (K → K → Bool) → K → List K → ℕ → Bool
drops lt d keys i = lt (get_or keys i d) (get_or keys (i - 1) d)

-- the second at i is out of domain
abbrev pub sec_outside : List ℤ → ℕ → Bool
sec_outside secs i = outside (get_or secs i (pos 0))
