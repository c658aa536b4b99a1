-- The order of dates is that of their moments, and of their seconds. Assumes nothing.
use mathlib.Core.Path.{◌≡◌, refl, ap, ◌∙◌, sym}
use mathlib.Core.Bool.{Bool, true, false, cond, ◌&&◌, ◌||◌}
use mathlib.Core.List.{List, [], ◌∷◌}
use Prim.Native.Nat.{ℕ, zero, suc, ◌+◌, ◌-◌, ◌≤◌, ◌<◌}
use native.Mathlib.Omega.{arith}
use borrow.Author.Tests.{lt-ltb, le-ltb, ltb-true, ltb-false, eqb-true, eqb-false}
use lib.Dec.{ltb, eqb}
use lib.ListN.{take, get_or}
use lib.IntN.{pos, negsuc, sub_ℕ}
use lib.Signed.{lt_z}
use Rattle.calendar.specs.declared.Date.{Date}
use Rattle.calendar.specs.Calendar.{leap, lengths_of, summed, days_of_years, days_before, moment_of, second_of}
use Rattle.calendar.specs.Laws.{numbers, before}
use Rattle.calendar.specs.Inner.{Valid}
use Rattle.calendar.proofs.YearDays.{days_mono}
use Rattle.calendar.proofs.Trip.{day-below, day_in, clock_in}

-- ---- tests taken apart
pub by_ltb : (P : Bool → Type 0) (a b : ℕ) → (a < b → P true) → (b ≤ a → P false) → P (ltb a b)
by_ltb P a b f g = go (ltb a b) refl
  where
    go : (t : Bool) → ltb a b ≡ t → P t
    go true e = f (ltb-true a b e)
    go false e = g (ltb-false a b e)

-- the test of the first place at which two lists differ
pub by_first : (P : Bool → Type 0) (x y : ℕ) (t : Bool) → (x < y → P true) → (x ≡ y → P t) → (y < x → P false) → P (ltb x y || eqb x y && t)
by_first P x y t f g h = by_ltb (λ b. P (b || eqb x y && t)) x y f rest
  where
    rest : y ≤ x → P (eqb x y && t)
    rest l = go (eqb x y) refl
      where
        go : (b : Bool) → eqb x y ≡ b → P (b && t)
        go true e = g (eqb-true x y e)
        go false e = h (above (eqb-false x y e))
          where
            above : (x ≡ y → ⊥) → y < x
            above n = omega arith

-- two differences from one number
pub order-kept : (a b k : ℕ) → lt_z (sub_ℕ a k) (sub_ℕ b k) ≡ ltb a b
order-kept a b k = by_ltb (λ t. lt_z (cond t (negsuc (k - suc a)) (pos (a - k))) (sub_ℕ b k) ≡ ltb a b) a k low high
  where
    low : a < k → lt_z (negsuc (k - suc a)) (sub_ℕ b k) ≡ ltb a b
    low h = by_ltb (λ t. lt_z (negsuc (k - suc a)) (cond t (negsuc (k - suc b)) (pos (b - k))) ≡ ltb a b) b k both one
      where
        both : b < k → ltb (k - suc b) (k - suc a) ≡ ltb a b
        both l = by_ltb (λ t. ltb (k - suc b) (k - suc a) ≡ t) a b (λ m. lt-ltb (k - suc b) (k - suc a) (omega arith)) (λ m. le-ltb (k - suc b) (k - suc a) (omega arith))

        one : k ≤ b → true ≡ ltb a b
        one l = sym (lt-ltb a b (omega arith))

    high : k ≤ a → lt_z (pos (a - k)) (sub_ℕ b k) ≡ ltb a b
    high h = by_ltb (λ t. lt_z (pos (a - k)) (cond t (negsuc (k - suc b)) (pos (b - k))) ≡ ltb a b) b k one both
      where
        one : b < k → false ≡ ltb a b
        one l = sym (le-ltb a b (omega arith))

        both : k ≤ b → ltb (a - k) (b - k) ≡ ltb a b
        both l = by_ltb (λ t. ltb (a - k) (b - k) ≡ t) a b (λ m. lt-ltb (a - k) (b - k) (omega arith)) (λ m. le-ltb (a - k) (b - k) (omega arith))

-- ---- one date before another
-- a place in a part of a row is before each later part
later : (ns : List ℕ) (i j r : ℕ) → i < j → r < get_or ns i 0 → summed (take i ns) + r < summed (take j ns)
unfolding summed
later [] zero j r h k = absurd (omega arith)
later [] (suc i) j r h k = absurd (omega arith)
later (n ∷ ns) i zero r h k = absurd (omega arith)
later (n ∷ ns) zero (suc j) r h k = omega arith
later (n ∷ ns) (suc i) (suc j) r h k = omega (arith, later ns i j r (omega arith) k)

module _ (d e : Date) (v : Valid d) (w : Valid e) where
  year_less : d.year < e.year → moment_of d < moment_of e
  year_less h = omega (arith, day-below d v, clock_in d v, days_mono d.year (e.year - 1) (omega arith))

  module _ (y : d.year ≡ e.year) where
    years : days_of_years (d.year - 1) ≡ days_of_years (e.year - 1)
    years = ap (λ (x : ℕ). days_of_years (x - 1)) y

    months : (m : ℕ) → summed (take m (lengths_of (leap d.year))) ≡ summed (take m (lengths_of (leap e.year)))
    months m = ap (λ (x : ℕ). summed (take m (lengths_of (leap x)))) y

    month_less : d.month < e.month → moment_of d < moment_of e
    month_less h =
        omega (
          arith,
          years,
          clock_in d v,
          months (e.month - 1),
          later (lengths_of (leap d.year)) (d.month - 1) (e.month - 1) (d.day - 1) (omega (arith, v.from_1.1)) (day_in d v),
        )

    module _ (m : d.month ≡ e.month) where
      month : summed (take (d.month - 1) (lengths_of (leap d.year))) ≡ summed (take (e.month - 1) (lengths_of (leap e.year)))
      month = months (d.month - 1) ∙ ap (λ (x : ℕ). summed (take (x - 1) (lengths_of (leap e.year)))) m

      day_less : d.day < e.day → moment_of d < moment_of e
      day_less h = omega (arith, years, month, clock_in d v, v.from_1.2)

      module _ (k : d.day ≡ e.day) where
        days : days_before d ≡ days_before e
        days = omega (arith, years, month)

        hour_less : d.hour < e.hour → moment_of d < moment_of e
        hour_less h = omega (arith, days, v.time.1, v.time.2)

        minute_less : d.hour ≡ e.hour → d.minute < e.minute → moment_of d < moment_of e
        minute_less q h = omega (arith, days, v.time.2)

        second_less : d.hour ≡ e.hour → d.minute ≡ e.minute → d.second < e.second → moment_of d < moment_of e
        second_less q p h = omega (arith, days)

        no_less : d.hour ≡ e.hour → d.minute ≡ e.minute → d.second ≡ e.second → moment_of d ≡ moment_of e
        no_less q p h = omega (arith, days)

module _ (d e : Date) (v : Valid d) (w : Valid e) where
  abbrev Is : Bool → Type 0
  Is t = t ≡ ltb (moment_of d) (moment_of e)

  yes : moment_of d < moment_of e → Is true
  yes h = sym (lt-ltb _ _ h)

  no : moment_of e < moment_of d → Is false
  no h = sym (le-ltb (moment_of d) (moment_of e) (omega arith))

  pub dates-order : before (numbers d) (numbers e) ≡ ltb (moment_of d) (moment_of e)
  unfolding before
  dates-order =
      by_first Is d.year e.year _ (λ h. yes (year_less d e v w h))
      (λ y. by_first Is d.month e.month _ (λ h. yes (month_less d e v w y h))
      (λ m. by_first Is d.day e.day _ (λ h. yes (day_less d e v w y m h))
      (λ k. by_first Is d.hour e.hour _ (λ h. yes (hour_less d e v w y m k h))
      (λ q. by_first Is d.minute e.minute _ (λ h. yes (minute_less d e v w y m k q h))
      (λ p. by_first Is d.second e.second _ (λ h. yes (second_less d e v w y m k q p h))
      (λ s. sym (le-ltb (moment_of d) (moment_of e) (omega (arith, no_less d e v w y m k q p s))))
      (λ h. no (second_less e d w v (sym y) (sym m) (sym k) (sym q) (sym p) h)))
      (λ h. no (minute_less e d w v (sym y) (sym m) (sym k) (sym q) h)))
      (λ h. no (hour_less e d w v (sym y) (sym m) (sym k) h)))
      (λ h. no (day_less e d w v (sym y) (sym m) h)))
      (λ h. no (month_less e d w v (sym y) h)))
      (λ h. no (year_less e d w v h))

  pub seconds_order : before (numbers d) (numbers e) ≡ lt_z (second_of d) (second_of e)
  seconds_order = dates-order ∙ sym (order-kept (moment_of d) (moment_of e) 62135596800)
