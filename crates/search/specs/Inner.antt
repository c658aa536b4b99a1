-- What our own functions promise each other. No public statement cites this file.
use Rattle.std.specs.Prelude.{ℕ, ◌≤◌, ◌<◌, ◌≡◌, Bool, true, false, not, cond, List, length, get_or, ltb, Option, Some, None}
use Rattle.order.specs.First.{first}
use Rattle.order.specs.Order.{drops}
use Rattle.order.specs.Inner.{NoneBelow}
use Rattle.search.specs.Keys.{greater}

-- the position of the first of n keys that is above x, or n
abbrev pub first_above : {K : Type 0} → (K → K → Bool) → K → List K → ℕ → K → ℕ
first_above lt d keys n x = first (greater lt d keys x) n

-- the first n keys are there, and none of them is below the one before it
abbrev pub InOrder : {K : Type 0} → (K → K → Bool) → K → List K → ℕ → Type 0
InOrder lt d keys n = (n ≤ length keys) × NoneBelow (drops lt d keys) n

-- a position among n, or nothing
abbrev pub among : ℕ → ℕ → Option ℕ
among n p = cond (ltb p n) (Some p) None

-- a key stands before the place that is sought: it is below x, or, where the first above x is sought, not above it
abbrev pub comes_before : {K : Type 0} → (K → K → Bool) → Bool → K → K → Bool
comes_before lt above key x = cond above (not (lt x key)) (lt key x)

-- so does the key at i
abbrev pub passes : {K : Type 0} → (K → K → Bool) → K → Bool → List K → K → ℕ → Bool
passes lt d above keys x i = comes_before lt above (get_or keys i d) x

-- the place that is sought among n keys
abbrev pub sought : {K : Type 0} → (K → K → Bool) → K → Bool → List K → ℕ → K → ℕ
sought lt d above keys n x = first (λ i. not (passes lt d above keys x i)) n

-- lo and hi bracket the first of n places where a test fails: it holds before lo, and fails from hi on
pub record Bracket (t : ℕ → Bool) (n lo hi : ℕ) : Type 0 where
  pub ordered : lo ≤ hi
  pub within : hi ≤ n
  pub under : (j : ℕ) → j < lo → t j ≡ true
  pub over : (j : ℕ) → hi ≤ j → j < n → t j ≡ false
