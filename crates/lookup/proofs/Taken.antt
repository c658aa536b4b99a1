-- Among the first n of an array's keys the same position answers as among the first n keys of all.
use mathlib.Core.Path.{◌≡◌, refl, ap₂}
use mathlib.Core.Bool.{Bool, true, false, cond, not}
use mathlib.Core.List.{List}
use Prim.Native.Nat.{ℕ, zero, suc, ◌-◌, ◌≤◌, ◌<◌}
use native.Mathlib.Nat.{le_refl}
use native.Mathlib.Omega.{arith}
use borrow.Author.Tests.{ltb-false}
use lib.Dec.{ltb}
use Rattle.std.specs.Prelude.{Some, None, unwrap_or}
use lib.ListN.{length, take}
use lib.Seq.{get_or-take, length-take-le}
use Rattle.order.specs.First.{last_or}
use Rattle.order.specs.Order.{drops}
use Rattle.order.specs.Inner.{NoneBelow}
use Rattle.order.proofs.First.{first-same, first-within}
use Rattle.order.proofs.Last.{final-same}
use Rattle.search.specs.Keys.{smaller, greater, first_not_below, last_not_above}
use Rattle.search.specs.Inner.{among}
use Rattle.lookup.specs.Find.{place}
use Rattle.lookup.specs.declared.FindOption.{FindOption}
use Rattle.lookup.specs.declared.FindOption.TheVariants.{RoundUp, RoundDown}

module _ {K : Type 0} (lt : K → K → Bool) (d : K) (keys : List K) (n : ℕ) (h : n ≤ length keys) where
  pub taken : length (take n keys) ≡ n
  taken = length-take-le n keys h

  pub in_order_taken : NoneBelow (drops lt d keys) n → NoneBelow (drops lt d (take n keys)) (length (take n keys))
  in_order_taken sorted j l = let b : j < n = omega (arith, l, taken) in rw (get_or-take n keys j d b, get_or-take n keys (j - 1) d (omega arith)) (sorted j b)

  pub first_taken : (x : K) → first_not_below lt d (take n keys) (length (take n keys)) x ≡ first_not_below lt d keys n x
  first_taken x = rw (taken, first-same (λ i. not (smaller lt d (take n keys) x i)) (λ i. not (smaller lt d keys x i)) n (λ j l. rw (get_or-take n keys j d l)))

  pub last_taken : (x : K) → last_not_above lt d (take n keys) (length (take n keys)) x ≡ last_not_above lt d keys n x
  last_taken x = rw (taken, final-same (λ i. not (greater lt d (take n keys) x i)) n (λ i. not (greater lt d keys x i)) (λ j l. rw (get_or-take n keys j d l)))

  pub last_among : (x : K) → among (length (take n keys)) (last_not_above lt d (take n keys) (length (take n keys)) x) ≡ among n (last_not_above lt d keys n x)
  last_among x = ap₂ among taken (last_taken x)

-- a place is at most the number of keys, so that nothing of it is lost as an option
or_within : (t : ℕ → Bool) (none k : ℕ) → k ≤ none → last_or t none k ≤ none
unfolding last_or
or_within t none zero h = le_refl none
or_within t none (suc k) h = go (t k) (or_within t none k (omega arith))
  where
    go : (b : Bool) → last_or t none k ≤ none → cond b k (last_or t none k) ≤ none
    go true m = omega arith
    go false m = m

module _ {K : Type 0} (lt : K → K → Bool) (d : K) (keys : List K) (n : ℕ) (x : K) where
  place_within : (opt : FindOption) → place lt d opt keys n x ≤ n
  place_within RoundUp = first-within (λ i. not (smaller lt d keys x i)) n
  place_within RoundDown = or_within (λ i. not (greater lt d keys x i)) n n (le_refl n)

  pub place_among : (opt : FindOption) → unwrap_or (among n (place lt d opt keys n x)) n ≡ place lt d opt keys n x
  place_among opt = go (ltb (place lt d opt keys n x) n) refl
    where
      go : (b : Bool) → ltb (place lt d opt keys n x) n ≡ b → unwrap_or (cond b (Some (place lt d opt keys n x)) None) n ≡ place lt d opt keys n x
      go true e = refl
      go false e = let w = place_within opt in let z = ltb-false (place lt d opt keys n x) n e in omega arith
