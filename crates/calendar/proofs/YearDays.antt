-- Years and their days. Assumes nothing.
use mathlib.Core.Path.{◌≡◌, refl, ap, ◌∙◌, sym}
use mathlib.Core.Bool.{Bool, true, false, cond, not, ◌&&◌, ◌||◌}
use Prim.Native.Nat.{ℕ, zero, suc, ◌+◌, ◌-◌, ◌*◌, ◌/◌, ◌%◌, ◌≤◌, ◌<◌}
use native.Mathlib.Nat.{suc-mul, mod-lt, div-add-mod'}
use native.Mathlib.Omega.{arith}
use borrow.Author.Tests.{ltb-true, ltb-false, eqb-true, eqb-false}
use lib.Arith.{digits_div, digits_mod}
use lib.Dec.{ltb, eqb}
use Rattle.calendar.specs.Calendar.{leap, days_of_years, lengths_of, summed}
use Rattle.calendar.specs.Inner.{years_before}

-- a quotient as its dividend grows by one
module _ (m k : ℕ) (h : zero < m) where
  same : (q r : ℕ) → q * m + r ≡ k → r + 1 < m → ((k + 1) / m ≡ q) × ((k + 1) % m ≡ r + 1)
  same q r s l =
      let e : k + 1 ≡ q * m + (r + 1) = omega (arith, s) in
      (ap (λ (x : ℕ). x / m) e ∙ digits_div q l, ap (λ (x : ℕ). x % m) e ∙ digits_mod q l)

  next : (q r : ℕ) → q * m + r ≡ k → r + 1 ≡ m → ((k + 1) / m ≡ q + 1) × ((k + 1) % m ≡ 0)
  next q r s l =
      let e : k + 1 ≡ suc q * m + 0 = omega (arith, s, suc-mul q m) in
      let f : suc q ≡ q + 1 = omega arith in
      (ap (λ (x : ℕ). x / m) e ∙ digits_div (suc q) h ∙ f, ap (λ (x : ℕ). x % m) e ∙ digits_mod (suc q) h)

  up : (k + 1) % m ≡ 0 → (k + 1) / m ≡ k / m + 1
  up e = go (ltb (k % m + 1) m) refl
    where
      go : (b : Bool) → ltb (k % m + 1) m ≡ b → (k + 1) / m ≡ k / m + 1
      go true t = absurd (omega (arith, (same (k / m) (k % m) (div-add-mod' k m) (ltb-true (k % m + 1) m t)).1))
      go false t = (next (k / m) (k % m) (div-add-mod' k m) (omega (arith, ltb-false (k % m + 1) m t, mod-lt k h))).0

  stay : ((k + 1) % m ≡ 0 → ⊥) → (k + 1) / m ≡ k / m + 0
  stay n = go (ltb (k % m + 1) m) refl
    where
      none : k / m ≡ k / m + 0
      none = omega arith

      go : (b : Bool) → ltb (k % m + 1) m ≡ b → (k + 1) / m ≡ k / m + 0
      go true t = (same (k / m) (k % m) (div-add-mod' k m) (ltb-true (k % m + 1) m t)).0 ∙ none
      go false t = absurd (n (next (k / m) (k % m) (div-add-mod' k m) (omega (arith, ltb-false (k % m + 1) m t, mod-lt k h))).1)

grown : (k a b c p q r n : ℕ) {a' b' c' : ℕ} → b ≤ k → a' ≡ a + p → b' ≡ b + q → c' ≡ c + r → q ≤ 1 → n + q ≡ 365 + p + r → 365 * (k + 1) + a' - b' + c' ≡ 365 * k + a - b + c + n
grown k a b c p q r n h e f g u v = omega arith

under : (k : ℕ) → k / 100 ≤ k
under k = omega arith

-- the days of the years in closed form, as the code has them
abbrev pub closed : ℕ → ℕ
closed k = 365 * k + k / 4 - k / 100 + k / 400

closed_next : (k : ℕ) → closed (k + 1) ≡ closed k + summed (lengths_of (leap (k + 1)))
unfolding leap lengths_of summed
closed_next k = go (eqb ((k + 1) % 4) 0) (eqb ((k + 1) % 100) 0) (eqb ((k + 1) % 400) 0) refl refl refl
  where
    go : (a b c : Bool) → eqb ((k + 1) % 4) 0 ≡ a → eqb ((k + 1) % 100) 0 ≡ b → eqb ((k + 1) % 400) 0 ≡ c → closed (k + 1) ≡ closed k + summed (lengths_of (a && (not b || c)))
    go true true true p q r =
        grown k (k / 4) (k / 100) (k / 400) 1 1 1 366 (under k) (up 4 k (omega arith) (eqb-true _ _ p)) (up 100 k (omega arith) (eqb-true _ _ q)) (up 400 k (omega arith) (eqb-true _ _ r)) (omega arith) refl
    go true true false p q r =
        grown k (k / 4) (k / 100) (k / 400) 1 1 0 365 (under k) (up 4 k (omega arith) (eqb-true _ _ p)) (up 100 k (omega arith) (eqb-true _ _ q)) (stay 400 k (omega arith) (eqb-false _ _ r)) (omega arith) refl
    go true false true p q r = absurd (eqb-false ((k + 1) % 100) 0 q (omega (arith, eqb-true ((k + 1) % 400) 0 r)))
    go true false false p q r =
        grown k (k / 4) (k / 100) (k / 400) 1 0 0 366 (under k) (up 4 k (omega arith) (eqb-true _ _ p)) (stay 100 k (omega arith) (eqb-false _ _ q)) (stay 400 k (omega arith) (eqb-false _ _ r)) (omega arith) refl
    go false true c p q r = absurd (eqb-false ((k + 1) % 4) 0 p (omega (arith, eqb-true ((k + 1) % 100) 0 q)))
    go false false true p q r = absurd (eqb-false ((k + 1) % 100) 0 q (omega (arith, eqb-true ((k + 1) % 400) 0 r)))
    go false false false p q r =
        grown k (k / 4) (k / 100) (k / 400) 0 0 0 365 (under k) (stay 4 k (omega arith) (eqb-false _ _ p)) (stay 100 k (omega arith) (eqb-false _ _ q)) (stay 400 k (omega arith) (eqb-false _ _ r)) (omega arith) refl

one_more_lem : (k : ℕ) → k + 1 ≡ suc k
one_more_lem k = omega arith

pub closed_form : (k : ℕ) → days_of_years k ≡ closed k
unfolding days_of_years
closed_form zero = refl
closed_form (suc k) = ap (λ (n : ℕ). n + summed (lengths_of (leap (suc k)))) (closed_form k) ∙ sym (rw (one_more_lem k) at (closed_next k))

-- a year has the days of its months
pub year-length : (k : ℕ) → days_of_years (k + 1) ≡ days_of_years k + summed (lengths_of (leap (k + 1)))
year-length k = rw (closed_form (k + 1), closed_form k) (closed_next k)

-- later years start later
pub days_mono : (j k : ℕ) → j ≤ k → days_of_years j ≤ days_of_years k
unfolding days_of_years
days_mono j zero h = let e : j ≡ 0 = omega arith in rw e (omega arith)
days_mono j (suc k) h = go (ltb j (suc k)) refl (λ l. days_mono j k l)
  where
    go : (b : Bool) → ltb j (suc k) ≡ b → (j ≤ k → days_of_years j ≤ days_of_years k) → days_of_years j ≤ days_of_years (suc k)
    go true t f = omega (arith, f (omega (arith, ltb-true j (suc k) t)))
    go false t f = let e : j ≡ suc k = omega (arith, ltb-false j (suc k) t) in rw e (omega arith)

-- the guess is not too high, and at most one too low
low : (d : ℕ) → days_of_years (d * 400 / 146097) ≤ d
low d = omega (arith, closed_form (d * 400 / 146097))

high : (d : ℕ) → d < days_of_years (d * 400 / 146097 + 2)
high d = omega (arith, closed_form (d * 400 / 146097 + 2))

-- the year found holds the day
pub year-from : (d : ℕ) → days_of_years (years_before d) ≤ d
unfolding years_before
year-from d = go (ltb d (days_of_years (d * 400 / 146097 + 1))) refl
  where
    go : (b : Bool) → ltb d (days_of_years (d * 400 / 146097 + 1)) ≡ b → days_of_years (cond b (d * 400 / 146097) (d * 400 / 146097 + 1)) ≤ d
    go true e = low d
    go false e = ltb-false d (days_of_years (d * 400 / 146097 + 1)) e

pub year_to : (d : ℕ) → d < days_of_years (years_before d + 1)
unfolding years_before
year_to d = go (ltb d (days_of_years (d * 400 / 146097 + 1))) refl
  where
    go : (b : Bool) → ltb d (days_of_years (d * 400 / 146097 + 1)) ≡ b → d < days_of_years (cond b (d * 400 / 146097) (d * 400 / 146097 + 1) + 1)
    go true e = ltb-true d (days_of_years (d * 400 / 146097 + 1)) e
    go false e =
        let p : d * 400 / 146097 + 1 + 1 ≡ d * 400 / 146097 + 2 = omega arith in
        rw p (high d)

-- and no other does
pub year_is : (d y : ℕ) → days_of_years y ≤ d → d < days_of_years (y + 1) → years_before d ≡ y
year_is d y h k = go (ltb (years_before d) y) (ltb y (years_before d)) refl refl
  where
    go : (a b : Bool) → ltb (years_before d) y ≡ a → ltb y (years_before d) ≡ b → years_before d ≡ y
    go true b p q = absurd (omega (arith, days_mono (years_before d + 1) y (omega (arith, ltb-true (years_before d) y p)), year_to d))
    go false true p q = absurd (omega (arith, days_mono (y + 1) (years_before d) (omega (arith, ltb-true y (years_before d) q)), year-from d))
    go false false p q = omega (arith, ltb-false (years_before d) y p, ltb-false y (years_before d) q)
