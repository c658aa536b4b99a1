-- How many halvings so many recorded pairs make, and how far apart two neighbours may stand then.
use mathlib.Core.Path.{◌≡◌, sym, ◌∙◌}
use mathlib.Core.Logic.{⊎_elim}
use Prim.Native.Nat.{ℕ, suc, ◌+◌, ◌-◌, ◌*◌, ◌/◌, ◌^◌, ◌≤◌, ◌<◌}
use native.Mathlib.Nat.{le_trans, one-le-pow, two-pow-succ, pow-le-pow_right, le-div_iff_mul-le, add-div_right, add-mul-div_right, div-eq_of_lt, div-mul-le_self, mul-le-mul_right, zero-mul, one-mul, lt-div-mul-add}
use native.Mathlib.Omega.{arith}
use borrow.Author.Tests.{le-leb, lt-leb}
use Rattle.order.proofs.Bools.{below_or}
use Rattle.halving.specs.Coarse.{halvings_at}

module _ (half : ℕ) (some : 0 < half) where
  -- the pairs past the capacity, in halves of it, a begun one taken for a whole
  abbrev pub level : ℕ → ℕ
  level r = (r - (half + half) + (half - 1)) / half

  -- that is the number of the rule
  pub level_is : (r : ℕ) → halvings_at (half + half) r ≡ level r
  level_is r =
      let two : (half + half) / 2 ≡ half = omega arith in
      ⊎_elim
      (λ (l : half + half < r).
      let e : r - (half + half) + (half - 1) ≡ r - (half + half) - 1 + half = omega arith in
      rw (lt-leb r (half + half) l, two, e, add-div_right (r - (half + half) - 1) some) (omega arith))
      (λ (l : r ≤ half + half). rw (le-leb r (half + half) l) (sym (none r l)))
      (below_or (half + half) r)
    where
      none : (r : ℕ) → r ≤ half + half → (r - (half + half) + (half - 1)) / half ≡ 0
      none r l = div-eq_of_lt (omega arith)

  div_mono : (a b : ℕ) → a ≤ b → a / half ≤ b / half
  div_mono a b h = (le-div_iff_mul-le {k = half} {x = a / half} {y = b} some).1 (le_trans (div-mul-le_self a half) h)

  pub level_mono : (a b : ℕ) → a ≤ b → level a ≤ level b
  level_mono a b h = div_mono (a - (half + half) + (half - 1)) (b - (half + half) + (half - 1)) (omega arith)

  -- j halves of the capacity make at most j halvings
  pub level_step : (a b j : ℕ) → b ≤ a + j * half → level b ≤ level a + j
  level_step a b j h =
      let x = a - (half + half) + (half - 1) in
      let d = div_mono (b - (half + half) + (half - 1)) (x + j * half) (omega arith) in
      omega (arith, d, add-mul-div_right x j some)

  -- where each of k halvings has dropped half the capacity, n are left, more than half the capacity once there was one
  pub level_count : (r n k : ℕ) → r ≡ n + k * half → n ≤ half + half → (0 < k → half < n) → level r ≡ k
  level_count r n k e few full =
      ⊎_elim
      (λ (l : 0 < k).
      let f = full l in
      let m : 1 * half ≤ k * half = mul-le-mul_right half l in
      let split : r - (half + half) + (half - 1) ≡ n - half - 1 + k * half = omega arith in
      rw (split, add-mul-div_right (n - half - 1) k some, div-eq_of_lt {n = n - half - 1} {m = half} (omega arith)) (omega arith))
      (λ (l : k ≤ 0). let m = mul-le-mul_right half l in div-eq_of_lt (omega (arith, m, zero-mul half)) ∙ omega arith)
      (below_or 0 k)

  -- from where on recorded pair x has l halvings with it, if one at all
  pub level_from : (x : ℕ) → 0 < level (x + 1) → level (x + 1) * half + half ≤ x
  level_from x h =
      let l = level (x + 1) in
      let m = (le-div_iff_mul-le {k = half} {x = l} {y = x + 1 - (half + half) + (half - 1)} some).0 (omega arith) in
      omega (arith, m, mul-le-mul_right half h, one-mul half)

  -- and up to where
  pub level_upto : (x : ℕ) → x < half + half + level (x + 1) * half
  level_upto x =
      let y = x + 1 - (half + half) + (half - 1) in
      omega (arith, lt-div-mul-add {a = y} {b = half} some)

  pub level_least : (x l : ℕ) → 0 < l → l * half + half ≤ x → l ≤ level (x + 1)
  level_least x l h far = (le-div_iff_mul-le {k = half} {x = l} {y = x + 1 - (half + half) + (half - 1)} some).1 (omega (arith, mul-le-mul_right half h, one-mul half))

  -- the halvings since recorded pair x was recorded, of k
  abbrev pub bound : ℕ → ℕ → ℕ
  bound k x = 2 ^ (k - level (x + 1))

  pub bound_some : (k x : ℕ) → 1 ≤ bound k x
  bound_some k x = one-le-pow (k - level (x + 1)) 2 (omega arith)

  pub bound_falls : (k x y : ℕ) → x ≤ y → bound k y ≤ bound k x
  bound_falls k x y h = let m = level_mono (x + 1) (y + 1) (omega arith) in pow-le-pow_right (omega arith) (omega arith)

  -- one halving more
  pub bound_twice : (k x : ℕ) → level (x + 1) ≤ k → bound k x + bound k x ≤ bound (k + 1) x
  bound_twice k x h =
      let l = level (x + 1) in
      let e : k + 1 - l ≡ suc (k - l) = omega arith in
      rw e (omega (arith, two-pow-succ (k - l)))

  -- so many halvings at most
  pub bound_most : (k x j : ℕ) → k ≤ level (x + 1) + j → bound k x ≤ 2 ^ j
  bound_most k x j h = pow-le-pow_right (omega arith) (omega arith)
