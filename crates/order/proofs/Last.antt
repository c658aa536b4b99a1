-- Laws on the last index at which a test holds, and where there is none.
use mathlib.Core.Path.{◌≡◌, refl}
use mathlib.Core.Logic.{⊎_elim}
use mathlib.Core.Bool.{Bool, true, false, cond}
use Prim.Native.Nat.{ℕ, zero, suc, ◌≤◌, ◌<◌}
use native.Mathlib.Nat.{eq-or-lt_of_le}
use native.Mathlib.Omega.{arith}
use Rattle.order.specs.First.{last_or, final}
use Rattle.order.proofs.Bools.{other, true_false}

-- it is i, where the test holds at i and fails above
or_is : (t : ℕ → Bool) (none k i : ℕ) → i < k → t i ≡ true → ((j : ℕ) → i < j → j < k → t j ≡ false) → last_or t none k ≡ i
unfolding last_or
or_is t none zero i h hit out = absurd (omega arith)
or_is t none (suc k) i h hit out =
    let le : i ≤ k = omega arith in
    ⊎_elim (λ (e : i ≡ k). rw (← e, hit))
    (λ (l : i < k). rw (out k l (omega arith)) (or_is t none k i l hit (λ j a b. out j a (omega arith))))
    (eq-or-lt_of_le le)

or_none : (t : ℕ → Bool) (none k : ℕ) → ((j : ℕ) → j < k → t j ≡ false) → last_or t none k ≡ none
unfolding last_or
or_none t none zero out = refl
or_none t none (suc k) out = rw (out k (omega arith)) (or_none t none k (λ j l. out j (omega arith)))

-- found below none, it is an index at which the test holds
or_holds : (t : ℕ → Bool) (none k : ℕ) → last_or t none k < none → t (last_or t none k) ≡ true
unfolding last_or
or_holds t none zero h = absurd (omega arith)
or_holds t none (suc k) h = go (t k) refl h (or_holds t none k)
  where
    go : (b : Bool) → t k ≡ b → cond b k (last_or t none k) < none → (last_or t none k < none → t (last_or t none k) ≡ true) → t (cond b k (last_or t none k)) ≡ true
    go true e h more = e
    go false e h more = more h

-- where the test holds at j, the last index is not below j, and below k
or_most : (t : ℕ → Bool) (none k j : ℕ) → j < k → t j ≡ true → (j ≤ last_or t none k) × (last_or t none k < k)
unfolding last_or
or_most t none zero j l hit = absurd (omega arith)
or_most t none (suc k) j l hit = go (t k) refl (λ m. or_most t none k j m hit)
  where
    go : (b : Bool) → t k ≡ b → (j < k → (j ≤ last_or t none k) × (last_or t none k < k)) → (j ≤ cond b k (last_or t none k)) × (cond b k (last_or t none k) < suc k)
    go true e more = (omega arith, omega arith)
    go false e more =
        ⊎_elim (λ (p : j ≡ k). absurd (true_false (t j) hit (rw p e)))
        (λ (p : j < k). let m = more p in (m.0, omega (arith, m.1)))
        (eq-or-lt_of_le (omega arith))

or_same : (t u : ℕ → Bool) (none k : ℕ) → ((j : ℕ) → j < k → t j ≡ u j) → last_or t none k ≡ last_or u none k
unfolding last_or
or_same t u none zero same = refl
or_same t u none (suc k) same = rw (same k (omega arith), or_same t u none k (λ j l. same j (omega arith)))

module _ (t : ℕ → Bool) (n : ℕ) where
  pub final_is : (i : ℕ) → i < n → t i ≡ true → ((j : ℕ) → i < j → j < n → t j ≡ false) → final t n ≡ i
  final_is i = or_is t n n i

  pub final-none : ((j : ℕ) → j < n → t j ≡ false) → final t n ≡ n
  final-none = or_none t n n

  pub final_holds : final t n < n → t (final t n) ≡ true
  final_holds = or_holds t n n

  pub final-most : (j : ℕ) → j < n → t j ≡ true → j ≤ final t n
  final-most j l hit = (or_most t n n j l hit).0

  -- above it the test fails
  pub final-over : (j : ℕ) → j < n → final t n < j → t j ≡ false
  final-over j l h = other (t j) (λ hit. absurd (omega (arith, final-most j l hit)))

  -- where there is no hit the test fails all along
  pub final-out : n ≤ final t n → (j : ℕ) → j < n → t j ≡ false
  final-out h j l = other (t j) (λ hit. absurd (omega (arith, (or_most t n n j l hit).1)))

  -- tests that agree below n have the same last index
  pub final-same : (u : ℕ → Bool) → ((j : ℕ) → j < n → t j ≡ u j) → final t n ≡ final u n
  final-same u = or_same t u n n
