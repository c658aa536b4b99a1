-- A second of the domain is small, and so is what a difference of small numbers is.
use mathlib.Core.Path.{◌≡◌}
use mathlib.Core.Bool.{Bool, true, false, cond}
use Prim.Native.Nat.{ℕ, zero, suc, ◌+◌, ◌-◌, ◌≤◌, ◌<◌}
use native.Mathlib.Omega.{arith}
use borrow.Author.Tests.{ltb-false}
use lib.Dec.{ltb}
use lib.IntN.{ℤ, pos, negsuc, sub_ℕ, ◌-ℤ◌}
use lib.Signed.{mag}
use Rattle.limits.specs.Domain.{outside}
use Rattle.order.proofs.Bools.{neither}

mag_cond : (b : Bool) (m n k : ℕ) → m ≤ k → n ≤ k → mag (cond b (negsuc m) (pos n)) ≤ k
mag_cond true m n k h h' = h
mag_cond false m n k h h' = h'

pub mag_sub : (a b : ℕ) → mag (sub_ℕ a b) ≤ a + b
mag_sub a b = mag_cond (ltb a b) (b - suc a) (a - b) (a + b) (omega arith) (omega arith)

pub mag_diff : (a b : ℤ) → mag (a -ℤ b) ≤ mag a + mag b + 2
mag_diff (pos a) (pos zero) = omega arith
mag_diff (pos a) (pos (suc b)) = let h = mag_sub a (suc b) in omega arith
mag_diff (pos a) (negsuc b) = omega arith
mag_diff (negsuc a) (pos zero) = let h = mag_sub 0 (suc a) in omega arith
mag_diff (negsuc a) (pos (suc b)) = omega arith
mag_diff (negsuc a) (negsuc b) = let h = mag_sub (suc b) (suc a) in omega arith

pub not_late : (n : ℕ) → outside (pos n) ≡ false → n ≤ 253402300799
not_late n e = ltb-false 253402300799 n e

pub not_early : (n : ℕ) → outside (negsuc n) ≡ false → n ≤ 62135596799
not_early n e = ltb-false 62135596799 n (neither (ltb 62135596799 n) false e).0

pub inside_mag : (a : ℤ) → outside a ≡ false → mag a < 253402300800
inside_mag (pos n) e = omega (arith, not_late n e)
inside_mag (negsuc n) e = omega (arith, not_early n e)
