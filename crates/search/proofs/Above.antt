-- The last key that is not above x stands before the first that is; and no second of the domain is above the greatest number.
use mathlib.Core.Path.{◌≡◌, refl, sym, ◌∙◌}
use mathlib.Core.Bool.{Bool, true, false, not, cond}
use mathlib.Core.List.{List}
use Prim.Native.Nat.{ℕ, ◌-◌, ◌≤◌, ◌<◌}
use native.Mathlib.Nat.{le_refl}
use native.Mathlib.Omega.{arith}
use borrow.Author.Tests.{lt-ltb, le-ltb, ltb-false}
use lib.Dec.{ltb}
use Rattle.std.specs.Prelude.{Option, Some, None, SomeIff}
use lib.IntN.{ℤ, pos, negsuc}
use lib.ListN.{get_or}
use lib.Signed.{lt_z}
use Rattle.limits.specs.Domain.{last_second, first_second, outside}
use Rattle.order.specs.Order.{drops}
use Rattle.order.specs.Inner.{NoneBelow}
use Rattle.order.proofs.Bools.{neither}
use Rattle.order.proofs.First.{first-within, first_holds, first_under}
use Rattle.order.proofs.Last.{final_is, final-none}
use Rattle.order.proofs.Order.{Order, rises}
use Rattle.search.specs.Keys.{greater, last_not_above}
use Rattle.search.specs.Inner.{first_above}

module _ {K : Type 0} (lt : K → K → Bool) (d : K) (keys : List K) (n : ℕ) (x : K) where
  module _ (O : Order lt) (sorted : NoneBelow (drops lt d keys) n) where
    -- from the first key above x on, all are
    climbs : (j : ℕ) → first_above lt d keys n x ≤ j → j < n → greater lt d keys x j ≡ true
    climbs j h l =
        let i = first_above lt d keys n x in
        O.lt_le x (get_or keys i d) (get_or keys j d) (first_holds (greater lt d keys x) n (omega arith)) (rises lt O d keys n sorted i j h l)

    pub none_before : first_above lt d keys n x ≡ 0 → last_not_above lt d keys n x ≡ n
    none_before e = final-none (λ i. not (greater lt d keys x i)) n (λ j l. rw (climbs j (omega arith) l))

    pub one-before : (r : ℕ) → r ≡ first_above lt d keys n x → 0 < r → r - 1 ≡ last_not_above lt d keys n x
    one-before r e p =
        let l : r - 1 < n = omega (arith, first-within (greater lt d keys x) n) in
        sym (final_is (λ i. not (greater lt d keys x i)) n (r - 1) l (rw (first_under (greater lt d keys x) n (r - 1) l (omega arith))) (λ j a b. rw (climbs j (omega arith) b)))

    -- as an option, from the first above
    pub before_past : (p : ℕ) (r : Option ℕ) → p ≡ first_above lt d keys n x → SomeIff r (1 ≤ p) (p - 1)
        → r ≡ cond (ltb (last_not_above lt d keys n x) n) (Some (last_not_above lt d keys n x)) None
    before_past p None e below = let z : p ≡ 0 = omega (arith, below) in rw (none_before (sym e ∙ z), le-ltb n n (le_refl n))
    before_past p (Some z) e at =
        let w : z < n = omega (arith, first-within (greater lt d keys x) n, at.0, at.1) in
        let q : z ≡ last_not_above lt d keys n x = at.1 ∙ one-before p e (omega (arith, at.0)) in
        rw (← q, lt-ltb z n w)

-- no second of the domain is above the greatest number
pub inside-most : (z : ℤ) → outside z ≡ false → lt_z (pos 9223372036854775807) z ≡ false
inside-most (pos a) h = le-ltb 9223372036854775807 a (omega (arith, ltb-false 253402300799 a (neither (lt_z (pos a) first_second) (lt_z last_second (pos a)) h).1))
inside-most (negsuc a) h = refl
