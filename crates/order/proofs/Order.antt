-- What the three laws of an order test give for keys that do not drop.
use mathlib.Core.Path.{◌≡◌}
use mathlib.Core.Bool.{Bool, false}
use mathlib.Core.Logic.{⊎_elim}
use mathlib.Core.List.{List}
use Prim.Native.Nat.{ℕ, zero, suc, ◌-◌, ◌≤◌, ◌<◌, ◌^◌}
use native.Mathlib.Nat.{eq-or-lt_of_le}
use native.Mathlib.Omega.{arith}
use borrow.Author.Rules.{sfits_of}
use lib.IntN.{ℤ}
use lib.ListN.{get_or}
use lib.Signed.{mag}
use mir.Facts.{to_z-of_z}
use mir.Syntax.{w64}
use mir.Val.{to_z, of_z}
pub use Rattle.order.specs.Inner.{Order, nat_order, int_order}
use Rattle.order.specs.Order.{drops}
use Rattle.order.proofs.Bools.{other, true_false}

module _ {K : Type 0} (lt : K → K → Bool) (O : Order lt) where
  pub itself : (a : K) → lt a a ≡ false
  itself a = other (lt a a) (λ e. true_false (lt a a) e (O.asym a a e))

  -- c is not below b and b not below a, so c is not below a
  pub further : (a b c : K) → lt b a ≡ false → lt c b ≡ false → lt c a ≡ false
  further a b c e f = other (lt c a) (λ p. true_false (lt b a) (O.le_lt b c a f p) e)

  -- where no key drops, a later one is not below an earlier one
  pub rises : (d : K) (keys : List K) (n : ℕ) → ((j : ℕ) → j < n → drops lt d keys j ≡ false) → (i j : ℕ) → i ≤ j → j < n → lt (get_or keys j d) (get_or keys i d) ≡ false
  rises d keys n sorted i zero h l = let e : i ≡ 0 = omega arith in rw e (itself (get_or keys 0 d))
  rises d keys n sorted i (suc j) h l =
      let one : suc j - 1 ≡ j = omega arith in
      ⊎_elim (λ (e : i ≡ suc j). rw e (itself (get_or keys (suc j) d)))
      (λ (b : i < suc j). further (get_or keys i d) (get_or keys j d) (get_or keys (suc j) d) (rises d keys n sorted i j (omega arith) (omega arith)) (rw one at (sorted (suc j) l)))
      (eq-or-lt_of_le h)

-- a signed number that fits is what the machine reads back from its bits
pub round : (z : ℤ) → mag z < 2 ^ 63 → to_z w64 (of_z w64 z) ≡ z
round z h = to_z-of_z {w = w64} (sfits_of h)
