-- How kept keys stand to one that is asked for, whatever the keys are: by an order test; d is what a key past the end would be.
use Rattle.std.specs.Prelude.{ℕ, Bool, not, List, get_or}
use Rattle.order.specs.First.{first, final}

module _ {K : Type 0} (lt : K → K → Bool) (d : K) where
  -- the key at i is below x
  abbrev pub smaller : List K → K → ℕ → Bool
  smaller keys x i = lt (get_or keys i d) x

  -- the key at i is above x
  abbrev pub greater : List K → K → ℕ → Bool
  greater keys x i = lt x (get_or keys i d)

  -- the position of the first of n keys that is not below x, or n
  abbrev pub first_not_below : List K → ℕ → K → ℕ
  first_not_below keys n x = first (λ i. not (smaller keys x i)) n

  -- the position of the last of n keys that is not above x, or n
  abbrev pub last_not_above : List K → ℕ → K → ℕ
  last_not_above keys n x = final (λ i. not (greater keys x i)) n
