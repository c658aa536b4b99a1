-- Laws on the first index at which a test holds. The one that makes it: it is i, where the test fails below i, and holds at i if i is below n.
use mathlib.Core.Path.{◌≡◌, refl}
use mathlib.Core.Logic.{⊎_elim}
use mathlib.Core.Bool.{Bool, true, false, cond}
use Prim.Native.Nat.{ℕ, zero, suc, ◌+◌, ◌≤◌, ◌<◌}
use native.Mathlib.Nat.{eq-or-lt_of_le, le_refl}
use native.Mathlib.Omega.{arith}
use borrow.Author.Tests.{lt-ltb, le-ltb}
use Rattle.std.specs.Prelude.{List, length, get_or, Option, Some, None, MatchOption, HoldsAt}
use Rattle.std.specs.List.{AllWithin}
use Rattle.order.specs.First.{first_from, first, found}
use Rattle.order.proofs.Bools.{other}

from_is : (t : ℕ → Bool) (n k i : ℕ) → k ≤ i → i ≤ k + n → ((j : ℕ) → k ≤ j → j < i → t j ≡ false) → (i < k + n → t i ≡ true) → first_from t k n ≡ i
unfolding first_from
from_is t zero k i ki ik out hit = omega arith
from_is t (suc n) k i ki ik out hit =
    ⊎_elim (λ e. rw (e, hit (omega arith)))
    (λ l. rw (out k (omega arith) l) (from_is t n (suc k) i l (omega arith) (λ j a b. out j (omega arith) b) (λ h. hit (omega arith))))
    (eq-or-lt_of_le ki)

pub first_is : (t : ℕ → Bool) (n i : ℕ) → i ≤ n → ((j : ℕ) → j < i → t j ≡ false) → (i < n → t i ≡ true) → first t n ≡ i
first_is t n i h out hit = from_is t n 0 i (omega arith) (omega arith) (λ j _ l. out j l) (λ l. hit (omega arith))

-- a whole walk without a hit
pub first-none : (t : ℕ → Bool) (n i : ℕ) → n ≤ i → ((j : ℕ) → j < i → t j ≡ false) → first t n ≡ n
first-none t n i h out = first_is t n n (omega arith) (λ j l. out j (omega arith)) (λ l. absurd (omega arith))

-- a hit
pub first_hit : (t : ℕ → Bool) (n i : ℕ) → i < n → ((j : ℕ) → j < i → t j ≡ false) → t i ≡ true → first t n ≡ i
first_hit t n i h out hit = first_is t n i (omega arith) out (λ _. hit)

-- found as an option: a hit, and a whole walk without one
pub found_hit : (t : ℕ → Bool) (n i : ℕ) → i < n → ((j : ℕ) → j < i → t j ≡ false) → t i ≡ true → Some i ≡ found t n
found_hit t n i h out hit = let e = first_hit t n i h out hit in rw (e, lt-ltb i n h)

pub found-none : (t : ℕ → Bool) (n i : ℕ) → n ≤ i → ((j : ℕ) → j < i → t j ≡ false) → None ≡ found t n
found-none t n i h out = let e = first-none t n i h out in rw (e, le-ltb n n (le_refl n))

-- of elements, as a walk over them finds it
pub found_by : {A : Type 0} (t : A → Bool) (xs : List A) (d : A) (r : Option ℕ)
    → MatchOption r (AllWithin (λ x. t x ≡ false) xs 0 (length xs)) (λ i. (i < length xs) × HoldsAt (λ x. t x ≡ true) xs i × AllWithin (λ x. t x ≡ false) xs 0 i)
    → r ≡ found (λ i. t (get_or xs i d)) (length xs)
found_by t xs d None h = found-none _ _ _ (le_refl _) (λ j l. h j d (omega arith) l)
found_by t xs d (Some i) h = found_hit _ _ _ h.0 (λ j l. h.2 j d (omega arith) l) (h.1 d)

-- it is at most n
pub first-within : (t : ℕ → Bool) (n : ℕ) → first t n ≤ n
unfolding first_from
first-within t n = omega (arith, from-within n 0)
  where
    from-within : (m k : ℕ) → first_from t k m ≤ k + m
    from-within zero k = omega arith
    from-within (suc m) k = go (t k) (from-within m (suc k))
      where
        go : (b : Bool) → first_from t (suc k) m ≤ suc k + m → cond b k (first_from t (suc k) m) ≤ k + suc m
        go true h = omega arith
        go false h = omega arith

-- where the test holds at j, the first index is not above j
from_le : (t : ℕ → Bool) (n k j : ℕ) → k ≤ j → j < k + n → t j ≡ true → first_from t k n ≤ j
unfolding first_from
from_le t zero k j kj jk hit = absurd (omega arith)
from_le t (suc n) k j kj jk hit =
    ⊎_elim (λ (e : k ≡ j). rw (e, hit) (omega arith))
    (λ (l : k < j). pick (t k) (from_le t n (suc k) j l (omega arith) hit))
    (eq-or-lt_of_le kj)
  where
    pick : (b : Bool) → first_from t (suc k) n ≤ j → cond b k (first_from t (suc k) n) ≤ j
    pick true h = kj
    pick false h = h

-- a found index is one at which the test holds
from_holds : (t : ℕ → Bool) (n k : ℕ) → first_from t k n < k + n → t (first_from t k n) ≡ true
unfolding first_from
from_holds t zero k h = absurd (omega arith)
from_holds t (suc n) k h = go (t k) refl h (λ l. from_holds t n (suc k) (omega arith))
  where
    go : (b : Bool) → t k ≡ b → cond b k (first_from t (suc k) n) < k + suc n → (first_from t (suc k) n < k + suc n → t (first_from t (suc k) n) ≡ true)
        → t (cond b k (first_from t (suc k) n)) ≡ true
    go true e h more = e
    go false e h more = more h

pub first_holds : (t : ℕ → Bool) (n : ℕ) → first t n < n → t (first t n) ≡ true
first_holds t n h = from_holds t n 0 (omega arith)

pub first_least : (t : ℕ → Bool) (n j : ℕ) → j < n → t j ≡ true → first t n ≤ j
first_least t n j l hit = from_le t n 0 j (omega arith) (omega arith) hit

-- below it the test fails
pub first_under : (t : ℕ → Bool) (n j : ℕ) → j < n → j < first t n → t j ≡ false
first_under t n j l h = other (t j) (λ hit. absurd (omega (arith, first_least t n j l hit)))

-- where there is no hit the test fails all along
pub first_out : (t : ℕ → Bool) (n : ℕ) → n ≤ first t n → (j : ℕ) → j < n → t j ≡ false
first_out t n h j l = first_under t n j l (omega arith)

-- tests that agree below n have the same first index
pub first-same : (t u : ℕ → Bool) (n : ℕ) → ((j : ℕ) → j < n → t j ≡ u j) → first t n ≡ first u n
unfolding first_from
first-same t u n same = from-same n 0 (λ j _ l. same j (omega arith))
  where
    from-same : (m k : ℕ) → ((j : ℕ) → k ≤ j → j < k + m → t j ≡ u j) → first_from t k m ≡ first_from u k m
    from-same zero k same = refl
    from-same (suc m) k same = rw (same k (omega arith) (omega arith), from-same m (suc k) (λ j a b. same j (omega arith) (omega arith)))
