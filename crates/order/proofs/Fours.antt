-- Four at a time; and seconds that do not drop lie between the first and the last.
use Prim.Native.Nat.{ℕ, zero, suc, ◌+◌, ◌-◌, ◌<◌}
use mathlib.Core.Path.{◌≡◌, ap, ◌∙◌}
use mathlib.Core.Logic.{⊎_elim}
use mathlib.Core.Bool.{Bool, false}
use mathlib.Core.List.{List}
use native.Mathlib.Nat.{add-zero}
use native.Mathlib.Omega.{arith}
use lib.ListN.{get_or}
use lib.IntN.{ℤ, pos}
use lib.Signed.{lt_z}
use Rattle.limits.specs.Domain.{first_second, last_second}
use Rattle.order.specs.Order.{drops, sec_outside}
use Rattle.order.proofs.Bools.{neither, both_false, below_or}
use Rattle.order.proofs.Order.{int_order, further, rises}

pub all-four : (t : ℕ → Bool) (i : ℕ) → t i ≡ false → t (i + 1) ≡ false → t (i + 2) ≡ false → t (i + 3) ≡ false → (j : ℕ) → j < 4 → t (i + j) ≡ false
all-four t i a b c d zero l = ap t (add-zero i) ∙ a
all-four t i a b c d (suc zero) l = b
all-four t i a b c d (suc (suc zero)) l = c
all-four t i a b c d (suc (suc (suc zero))) l = d
all-four t i a b c d (suc (suc (suc (suc j)))) l = absurd (omega (arith, l))

pub more_four : (t : ℕ → Bool) (i : ℕ) → ((j : ℕ) → j < i → t j ≡ false) → ((j : ℕ) → j < 4 → t (i + j) ≡ false) → (j : ℕ) → j < i + 4 → t j ≡ false
more_four t i f g j l = ⊎_elim (λ h. f j h) (λ h. let e : j ≡ i + (j - i) = omega arith in ap t e ∙ g (j - i) (omega arith)) (below_or j i)

module _ (secs : List ℤ) (n : ℕ) (sorted : (j : ℕ) → j < n → drops lt_z (pos 0) secs j ≡ false) where
  second : ℕ → ℤ
  second i = get_or secs i (pos 0)

  pub between : sec_outside secs 0 ≡ false → sec_outside secs (n - 1) ≡ false → (j : ℕ) → j < n → sec_outside secs j ≡ false
  unfolding second
  between e f j l =
      let low = (neither (lt_z (second 0) first_second) (lt_z last_second (second 0)) e).0 in
      let high = (neither (lt_z (second (n - 1)) first_second) (lt_z last_second (second (n - 1))) f).1 in
      let up = rises lt_z int_order (pos 0) secs n sorted in
      both_false (lt_z (second j) first_second) (lt_z last_second (second j))
      (further lt_z int_order first_second (second 0) (second j) low (up 0 j (omega arith) l))
      (further lt_z int_order (second j) (second (n - 1)) last_second (up j (n - 1) (omega arith) (omega arith)) high)
