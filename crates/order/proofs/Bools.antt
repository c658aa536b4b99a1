-- What an outcome of a test or of a rule rules out.
use mathlib.Core.Path.{◌≡◌, refl, sym, ◌∙◌}
use mathlib.Core.Bool.{Bool, true, false, cond, ◌||◌, true≢false}
use mathlib.Core.List.{List}
use mathlib.Core.Logic.{◌⊎◌, inl, inr}
use Prim.Native.Nat.{ℕ, ◌≤◌, ◌<◌}
use native.Mathlib.Omega.{arith}
use borrow.Author.Tests.{ltb-true, ltb-false}
use lib.Dec.{ltb}
use Rattle.told.specs.Told.{Told, gave, refused}

-- what is not true is false
pub other : (b : Bool) → (b ≡ true → ⊥) → b ≡ false
other true f = absurd (f refl)
other false f = refl

pub true_false : (b : Bool) → b ≡ true → b ≡ false → ⊥
true_false b p q = true≢false (sym p ∙ q)

pub neither : (a b : Bool) → a || b ≡ false → (a ≡ false) × (b ≡ false)
neither true b e = absurd (true≢false e)
neither false b e = (refl, e)

pub both_false : (a b : Bool) → a ≡ false → b ≡ false → a || b ≡ false
both_false a b e f = simp (e, f)

pub below_or : (j k : ℕ) → (j < k) ⊎ (k ≤ j)
below_or j k = go (ltb j k) refl
  where
    go : (b : Bool) → ltb j k ≡ b → (j < k) ⊎ (k ≤ j)
    go true e = inl (ltb-true j k e)
    go false e = inr (ltb-false j k e)

-- a refusal gives nothing
pub not_given : {A : Type 0} (what : List ℕ) (a : A) → refused what ≡ gave a → ⊥
not_given what a e = let z : ◌≡◌ {A = ℕ} 0 1 = cc in omega arith

-- a rule that is passed
pub passed : {A : Type 0} (b : Bool) (what : List ℕ) (next : Told A) (a : A) → cond b (refused what) next ≡ gave a → (b ≡ false) × (next ≡ gave a)
passed true what next a h = absurd (not_given what a h)
passed false what next a h = (refl, h)
