-- The two reasons for a skip are together the Rust's one rule.
use mathlib.Core.Path.{◌≡◌, refl, sym, ◌∙◌}
use mathlib.Core.Bool.{Bool, true, false, not, cond, ◌&&◌, ◌||◌, true≢false}
use Prim.Native.Nat.{ℕ, zero, suc, ◌+◌}
use native.Mathlib.Nat.{add-zero}
use native.Mathlib.Omega.{arith}
use borrow.Author.Tests.{lt-ltb, le-ltb}
use lib.Dec.{leb-suc-suc}
use lib.IntN.{ℤ, pos, negsuc, ◌-ℤ◌}
use lib.Signed.{lt_z}
use Rattle.tracker.specs.declared.Second.{Second}
use Rattle.std.specs.Prelude.{None, Some, Option}
use Rattle.order.proofs.Bools.{neither}
use Rattle.skipping.specs.Reasons.{goes_back, comes_too_soon, skips, Reasons}

sign_of : (b : Bool) (m n : ℕ) → lt_z (cond b (negsuc m) (pos n)) (pos 0) ≡ b
sign_of true m n = refl
sign_of false m n = le-ltb n 0 (omega arith)

-- a number is below another exactly where the difference is below 0
diff_sign : (s l : ℤ) → lt_z (s -ℤ l) (pos 0) ≡ lt_z s l
diff_sign (pos a) (pos zero) = rw (add-zero a)
diff_sign (pos a) (pos (suc b)) = sign_of _ _ _
diff_sign (pos a) (negsuc b) = le-ltb (a + suc b) 0 (omega arith)
diff_sign (negsuc a) (pos zero) = sign_of _ _ _ ∙ lt-ltb 0 (suc a) (omega arith)
diff_sign (negsuc a) (pos (suc b)) = refl
diff_sign (negsuc a) (negsuc b) = sign_of _ _ _ ∙ leb-suc-suc (suc b) a

-- and what is below 0 is below every interval
below_none : (z : ℤ) (k : ℕ) → lt_z z (pos 0) ≡ true → lt_z z (pos k) ≡ true
below_none (pos n) k e = absurd (true≢false (sym e ∙ le-ltb n 0 (omega arith)))
below_none (negsuc n) k e = refl

-- of two tests of which the second follows from the first
second_test : (a b : Bool) → (a ≡ true → b ≡ true) → a || (not a && b) ≡ b
second_test true b f = sym (f refl)
second_test false b f = refl

first_alone : (a b : Bool) → a && (not a && b) ≡ false
first_alone true b = refl
first_alone false b = refl

not_then : (a : Bool) → not a && a ≡ false
not_then true = refl
not_then false = refl

pub either : (last : Option Second) (interval : ℕ) (s : ℤ) → (goes_back last s || comes_too_soon last interval s) ≡ skips last interval s
either None interval s = refl
either (Some l) interval s = second_test (lt_z s l.0) (lt_z (s -ℤ l.0) (pos interval)) (λ e. below_none (s -ℤ l.0) interval (diff_sign s l.0 ∙ e))

-- an offer that the rule skips and that did not go back came too soon; one that it does not skip did neither
pub else_soon : (last : Option Second) (interval : ℕ) (s : ℤ) → skips last interval s ≡ true → goes_back last s ≡ false → comes_too_soon last interval s ≡ true
else_soon last interval s h b = rw b at (either last interval s) ∙ h

pub not_skipped : (last : Option Second) (interval : ℕ) (s : ℤ) → skips last interval s ≡ false → (goes_back last s ≡ false) × (comes_too_soon last interval s ≡ false)
not_skipped last interval s h = neither (goes_back last s) (comes_too_soon last interval s) (either last interval s ∙ h)

pub reasons : Reasons
reasons = record { either = either; not_both = not_both; only_back = only_back }
  where
    not_both : (last : Option Second) (interval : ℕ) (s : ℤ) → (goes_back last s && comes_too_soon last interval s) ≡ false
    not_both None interval s = refl
    not_both (Some l) interval s = first_alone (lt_z s l.0) (lt_z (s -ℤ l.0) (pos interval))

    only_back : (last : Option Second) (s : ℤ) → comes_too_soon last 0 s ≡ false
    only_back None s = refl
    only_back (Some l) s = rw (diff_sign s l.0) (not_then (lt_z s l.0))
