-- The sum of the totals, its tests, and one more.
use mathlib.Core.Path.{◌≡◌, refl, sym}
use mathlib.Core.Bool.{Bool, true, false}
use Prim.Native.Nat.{ℕ, ◌+◌, ◌≤◌, ◌<◌}
use native.Mathlib.Omega.{arith}
use borrow.Author.Tests.{lt-ltb, le-ltb, ltb-true, ltb-false, eqb-true, eqb-false}
use lib.Dec.{ltb, eqb}
use Rattle.totals.specs.Totals.{sum_of, most, too_many, full, one_more}
use Rattle.totals.specs.declared.Totals.{Totals}
use Rattle.totals.specs.declared.Fate.{Fate}
use Rattle.totals.specs.declared.Fate.TheVariants.{Recorded, WentBack, TooSoon, Refused}

-- two tests agree where each way of the first gives the same way of the second
pub same_test : (x y u v : ℕ) → (x < y → u < v) → (y ≤ x → v ≤ u) → ltb x y ≡ ltb u v
same_test x y u v up down = go (ltb x y) refl
  where
    go : (b : Bool) → ltb x y ≡ b → b ≡ ltb u v
    go true e = sym (lt-ltb u v (up (ltb-true x y e)))
    go false e = sym (le-ltb u v (down (ltb-false x y e)))

-- a sum that is the most it may be has no room for one more
pub full_is : (s : ℕ) → s ≤ most → eqb s most ≡ ltb most (s + 1)
full_is s h = go (eqb s most) refl
  where
    go : (b : Bool) → eqb s most ≡ b → b ≡ ltb most (s + 1)
    go true e = sym (lt-ltb most (s + 1) (omega (arith, eqb-true s most e)))
    go false e = let n = eqb-false s most e in sym (le-ltb most (s + 1) (omega (arith, h)))

pub sum_more : (f : Fate) (n : Totals) → sum_of (one_more f n) ≡ sum_of n + 1
sum_more Recorded n = omega arith
sum_more WentBack n = omega arith
sum_more TooSoon n = omega arith
sum_more Refused n = omega arith

-- there is room for one more, where they are not full
pub room_for_one : (n : Totals) → full n ≡ false → sum_of n + 1 ≤ most
room_for_one n h = ltb-false most (sum_of n + 1) h

pub not_full : (n : Totals) → sum_of n + 1 ≤ most → full n ≡ false
not_full n h = le-ltb most (sum_of n + 1) h

-- so with one more they still add up
pub still_fit : (f : Fate) (n : Totals) → full n ≡ false → sum_of (one_more f n) ≤ most
still_fit f n h = rw (sum_more f n) (room_for_one n h)

-- they are not too many where they add up
pub not_too_many : (n : Totals) → sum_of n ≤ most → too_many n ≡ false
not_too_many n h = le-ltb most (sum_of n) h
