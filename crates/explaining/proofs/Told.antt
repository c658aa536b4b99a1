-- What is told of a good table, by the reason and the position that were found.
use Prim.Native.Nat.{ℕ, ◌≤◌, ◌<◌}
use mathlib.Core.Path.{◌≡◌, refl, sym, ap}
use mathlib.Core.Bool.{Bool, true, false, cond}
use native.Mathlib.Omega.{arith}
use borrow.Author.Tests.{lt-ltb, le-ltb, ltb-true, ltb-false}
use lib.Dec.{ltb}
use Rattle.std.specs.Prelude.{Option, Some, None, unwrap_or, MatchOption, IsSomeAnd}
use Rattle.told.specs.Told.{Told, gave, if_good}
use Rattle.search.specs.Inner.{among}
use Rattle.lookup.specs.Find.{partner, nothing, standing}
use Rattle.lookup.specs.Found.{partner_of}
use Rattle.explaining.specs.Why.{because}
use Rattle.explaining.specs.declared.Reason.{Reason}
use Rattle.explaining.proofs.Facts.{standing_at}

module _ {A : Type 0} (t : Told (Unit {0})) (good : t ≡ gave tt) (at : ℕ → A) (n p q : ℕ) (here : q ≡ p) (R r : Reason) (found : r ≡ R) where
  pub told-partner : q < n → gave (record { reason = r; answer = partner (at q) }) ≡ because R (if_good t (gave (standing at n p)))
  told-partner l = rw (good, ← here, lt-ltb q n l, found)

  pub told-nothing : n ≤ q → gave (record { reason = r; answer = nothing }) ≡ because R (if_good t (gave (standing at n p)))
  told-nothing l = rw (good, ← here, le-ltb q n l, found)

-- a position that is found among n is below n
pub is_inside : (n p q : ℕ) → among n p ≡ Some q → (p ≡ q) × (q < n)
is_inside n p q = go (ltb p n) refl
  where
    go : (b : Bool) → ltb p n ≡ b → cond b (Some p) None ≡ Some q → (p ≡ q) × (q < n)
    go true l e =
        let s : p ≡ q = ap (λ o. unwrap_or o p) e in
        (s, rw (← s) (ltb-true p n l))
    go false l e = absurd (let z : ◌≡◌ {A = ℕ} 0 1 = cc in omega arith)

is_outside : (n p : ℕ) → among n p ≡ None → n ≤ p
is_outside n p = go (ltb p n) refl
  where
    go : (b : Bool) → ltb p n ≡ b → cond b (Some p) None ≡ None → n ≤ p
    go true l e = absurd (let z : ◌≡◌ {A = ℕ} 0 1 = cc in omega arith)
    go false l e = ltb-false p n l

module _ {A : Type 0} (at : ℕ → A) where
  -- both, of what was found
  pub told_standing : (t : Told (Unit {0})) → t ≡ gave tt → (n p : ℕ) (o : Option ℕ) → o ≡ among n p → (R r : Reason) → r ≡ R
      → gave (record { reason = r; answer = standing_at at o }) ≡ because R (if_good t (gave (standing at n p)))
  told_standing t good n p (Some q) here R r found =
      let i = is_inside n p q (sym here) in
      told-partner t good at n p q (sym i.0) R r found i.1
  told_standing t good n p None here R r found = told-nothing t good at n p p refl R r found (is_outside n p (sym here))

  -- what is had from the position found, by a function that gives what stands there
  pub mapped : (o : Option ℕ) (r : Option A) (gives : ℕ → A → Type 0) → MatchOption o (r ≡ None) (λ p. IsSomeAnd r (gives p))
      → ((p : ℕ) (a : A) → o ≡ Some p → gives p a → a ≡ at p) → partner_of r ≡ standing_at at o
  mapped None r gives e same = rw e
  mapped (Some p) None gives e same = absurd e
  mapped (Some p) (Some a) gives e same = ap partner (same p a refl e)
