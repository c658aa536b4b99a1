-- What the two tests of the range `-(n + 1)..=n` say of the magnitude of a number, whatever n is. Assumes nothing.
use mathlib.Core.Path.{◌≡◌, refl}
use mathlib.Core.Bool.{Bool, true, false, ◌&&◌}
use Prim.Native.Nat.{ℕ}
use lib.Dec.{leb}
use lib.IntN.{ℤ, pos, negsuc}
use lib.Signed.{le_z, mag}

-- a test and true is the test
and_true : (b : Bool) → (b && true) ≡ b
and_true true = refl
and_true false = refl

module _ (n : ℕ) where
  -- z lies in that range
  abbrev within : ℤ → Bool
  within z = le_z (negsuc n) z && le_z z (pos n)

  -- which is what the magnitude says
  pub range_mag : (z : ℤ) → within z ≡ leb (mag z) n
  range_mag (pos k) = refl
  range_mag (negsuc k) = and_true (leb k n)
