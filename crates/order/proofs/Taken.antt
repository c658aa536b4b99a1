-- Of the first n elements of an array, what is found of all of them below n; and what it is to be found.
use mathlib.Core.Path.{◌≡◌, refl}
use mathlib.Core.Bool.{Bool, true, false, cond}
use mathlib.Core.List.{List}
use Prim.Native.Nat.{ℕ, ◌-◌, ◌≤◌, ◌<◌}
use native.Mathlib.Omega.{arith}
use borrow.Author.Tests.{ltb-true, ltb-false}
use lib.Dec.{ltb}
use lib.IntN.{ℤ, pos}
use lib.ListN.{length, take}
use lib.Seq.{get_or-take, length-take-le}
use Rattle.std.specs.Prelude.{Some, None, is_some}
use Rattle.order.specs.First.{first, found}
use Rattle.order.specs.Order.{drops, sec_outside}
use Rattle.order.proofs.First.{first-same}

pub found_at : (t : ℕ → Bool) (n i : ℕ) → Some i ≡ found t n → (i < n) × (i ≡ first t n)
found_at t n i h = go (ltb (first t n) n) refl h
  where
    go : (b : Bool) → ltb (first t n) n ≡ b → Some i ≡ cond b (Some (first t n)) None → (i < n) × (i ≡ first t n)
    go true e h = let s : i ≡ first t n = cc in (omega (arith, s, ltb-true (first t n) n e), s)
    go false e h = absurd cc

pub not_found : (t : ℕ → Bool) (n : ℕ) → None ≡ found t n → n ≤ first t n
not_found t n h = go (ltb (first t n) n) refl h
  where
    go : (b : Bool) → ltb (first t n) n ≡ b → None ≡ cond b (Some (first t n)) None → n ≤ first t n
    go true e h = absurd cc
    go false e h = ltb-false (first t n) n e

-- whether there is one
pub is_found : (t : ℕ → Bool) (n : ℕ) → is_some (found t n) ≡ ltb (first t n) n
is_found t n = go (ltb (first t n) n)
  where
    go : (b : Bool) → is_some (cond b (Some (first t n)) None) ≡ b
    go true = refl
    go false = refl

found-same : (t u : ℕ → Bool) (m n : ℕ) → m ≡ n → ((j : ℕ) → j < n → t j ≡ u j) → found t m ≡ found u n
found-same t u m n e same = rw (e, first-same t u n same)

module _ (n : ℕ) where
  pub drop_taken : {K : Type 0} (lt : K → K → Bool) (d : K) (keys : List K) → n ≤ length keys → found (drops lt d (take n keys)) (length (take n keys)) ≡ found (drops lt d keys) n
  drop_taken lt d keys h =
      found-same (drops lt d (take n keys)) (drops lt d keys) _ n (length-take-le n keys h)
      (λ j l. rw (get_or-take n keys j d l, get_or-take n keys (j - 1) d (omega arith)))

  pub outside_taken : (secs : List ℤ) → n ≤ length secs → found (sec_outside (take n secs)) (length (take n secs)) ≡ found (sec_outside secs) n
  outside_taken secs h =
      found-same (sec_outside (take n secs)) (sec_outside secs) _ n (length-take-le n secs h) (λ j l. rw (get_or-take n secs j (pos 0) l))
