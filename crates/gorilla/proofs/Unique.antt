-- Arrays of which the same number is told are the same. Assumes nothing.
use Prim.Native.Nat.{ℕ}
use mathlib.Core.Path.{◌≡◌, refl, sym, ap, ◌∙◌}
use mathlib.Core.Bool.{cond}
use lib.Dec.{eqb}
use Rattle.gorilla.specs.Array.{array_no}
use Rattle.gorilla.specs.declared.Array.{Array}
use Rattle.gorilla.specs.declared.Array.TheVariants.{Sequences, Seconds}

-- the array that a number is
abbrev pub array_of : ℕ → Array
array_of n = cond (eqb n 0) Sequences Seconds

pub array_back : (a : Array) → array_of (array_no a) ≡ a
array_back Sequences = refl
array_back Seconds = refl

pub array_told : (a b : Array) → array_no a ≡ array_no b → a ≡ b
array_told a b h = sym (array_back a) ∙ ap array_of h ∙ array_back b
