-- Moments and seconds, and what the test of a date says. Assumes nothing.
use mathlib.Core.Path.{◌≡◌, refl, ap, ◌∙◌, sym}
use mathlib.Core.Bool.{Bool, true, false, cond, ◌&&◌, true≢false}
use Prim.Native.Nat.{ℕ, suc, ◌+◌, ◌-◌, ◌≤◌, ◌<◌}
use native.Mathlib.Omega.{arith}
use borrow.Author.Tests.{lt-ltb, le-ltb, ltb-true, ltb-false, leb-true, le-leb}
use lib.Dec.{ltb, leb, T}
use lib.ListN.{get_or}
use lib.IntN.{ℤ, pos, negsuc, nat_abs, sub_ℕ, ◌+ℤ◌, ◌-ℤ◌}
use lib.Signed.{non_neg}
use mir.Syntax.{w64}
use mir.Val.{Fits, SFits, to_z, of_z}
use mir.Facts.{to_z-of_z, to_z_pos}
use Rattle.limits.specs.Domain.{outside}
use Rattle.order.proofs.Domain.{not_late, not_early}
use Rattle.calendar.specs.declared.Date.{Date}
use Rattle.calendar.specs.Calendar.{leap, lengths_of, within, is_day, is_time, is_date}
use Rattle.calendar.specs.Inner.{Valid, moment_at}

-- the second of a moment
abbrev pub second_at : ℕ → ℤ
second_at n = sub_ℕ n 62135596800

-- ---- seconds
pub moment_sum : (z : ℤ) → outside z ≡ false → z +ℤ pos 62135596800 ≡ pos (moment_at z)
unfolding moment_at
moment_sum (pos n) h = let e : n + 62135596800 ≡ 62135596800 + n = omega arith in ap pos e
moment_sum (negsuc n) h = rw (le-ltb 62135596800 (suc n) (omega (arith, not_early n h)))

pub moment_below : (z : ℤ) → outside z ≡ false → moment_at z < 315537897600
unfolding moment_at
moment_below (pos n) h = omega (arith, not_late n h)
moment_below (negsuc n) h = omega arith

pub second_moment : (z : ℤ) → outside z ≡ false → second_at (moment_at z) ≡ z
unfolding moment_at
second_moment (pos n) h =
    let e : 62135596800 + n - 62135596800 ≡ n = omega arith in
    rw (le-ltb (62135596800 + n) 62135596800 (omega arith)) (ap pos e)
second_moment (negsuc n) h =
    let l = not_early n h in
    let e : 62135596800 - suc (62135596800 - suc n) ≡ n = omega arith in
    rw (lt-ltb (62135596800 - suc n) 62135596800 (omega arith)) (ap negsuc e)

module _ (n : ℕ) (h : n < 315537897600) where
  pub moment_second : moment_at (second_at n) ≡ n
  unfolding moment_at
  moment_second = go (ltb n 62135596800) refl
    where
      go : (b : Bool) → ltb n 62135596800 ≡ b → moment_at (cond b (negsuc (62135596800 - suc n)) (pos (n - 62135596800))) ≡ n
      go true e = omega (arith, ltb-true n 62135596800 e)
      go false e = omega (arith, ltb-false n 62135596800 e)

  pub second_in : outside (second_at n) ≡ false
  second_in = go (ltb n 62135596800) refl
    where
      go : (b : Bool) → ltb n 62135596800 ≡ b → outside (cond b (negsuc (62135596800 - suc n)) (pos (n - 62135596800))) ≡ false
      go true e = rw (le-ltb 62135596799 (62135596800 - suc n) (omega arith))
      go false e = rw (le-ltb 253402300799 (n - 62135596800) (omega arith))

  second_fits : SFits w64 (second_at n)
  second_fits = go (ltb n 62135596800) refl
    where
      go : (b : Bool) → ltb n 62135596800 ≡ b → SFits w64 (cond b (negsuc (62135596800 - suc n)) (pos (n - 62135596800)))
      go true e = record { sfits = omega arith }
      go false e = record { sfits = omega arith }

  seen : to_z w64 n -ℤ pos 62135596800 ≡ second_at n
  seen = rw (to_z_pos w64 {n = n} (omega arith))

  -- the difference as the code computes it, through the bits
  pub sub_fits : SFits w64 (to_z w64 n -ℤ pos 62135596800)
  sub_fits = rw seen second_fits

  pub sub_is : to_z w64 (of_z w64 (to_z w64 n -ℤ pos 62135596800)) ≡ second_at n
  sub_is = to_z-of_z sub_fits ∙ seen

-- the sum as the code computes it
module _ (z : ℤ) (f : SFits w64 z) (h : outside z ≡ false) where
  sum : to_z w64 (of_z w64 z) +ℤ pos 62135596800 ≡ pos (moment_at z)
  sum = rw (to_z-of_z f) (moment_sum z h)

  pub sum_fits : SFits w64 (to_z w64 (of_z w64 z) +ℤ pos 62135596800)
  sum_fits = rw sum (record { sfits = omega (arith, moment_below z h) })

  back : to_z w64 (of_z w64 (to_z w64 (of_z w64 z) +ℤ pos 62135596800)) ≡ pos (moment_at z)
  back = to_z-of_z sum_fits ∙ sum

  pub sum_cast : T (non_neg (to_z w64 (of_z w64 (to_z w64 (of_z w64 z) +ℤ pos 62135596800)))) × Fits w64 (nat_abs (to_z w64 (of_z w64 (to_z w64 (of_z w64 z) +ℤ pos 62135596800))))
  sum_cast = rw back (Prim.tt, record { fits = omega (arith, moment_below z h) })

  pub sum_is : nat_abs (to_z w64 (of_z w64 (to_z w64 (of_z w64 z) +ℤ pos 62135596800))) ≡ moment_at z
  sum_is = ap nat_abs back

-- ---- the test of a date
pub and_true : (a b : Bool) → a && b ≡ true → (a ≡ true) × (b ≡ true)
and_true true b e = (refl, e)
and_true false b e = absurd (true≢false (sym e))

pub within_true : (lo hi x : ℕ) → within lo hi x ≡ true → (lo ≤ x) × (x ≤ hi)
within_true lo hi x e = let p = and_true (leb lo x) (leb x hi) e in (leb-true lo x p.0, leb-true x hi p.1)

within_is : (lo hi x : ℕ) → lo ≤ x → x ≤ hi → within lo hi x ≡ true
within_is lo hi x h k = rw (le-leb lo x h, le-leb x hi k)

pub valid_means : (d : Date) → is_date d ≡ true → Valid d
unfolding is_date is_day is_time
valid_means d e =
    let p = and_true (within 1 9999 d.year) _ e in
    let q = and_true (within 1 12 d.month) _ p.1 in
    let r = and_true (within 1 (get_or (lengths_of (leap d.year)) (d.month - 1) 0) d.day) _ q.1 in
    let t = and_true (ltb d.hour 24) _ r.1 in
    let u = and_true (ltb d.minute 60) (ltb d.second 60) t.1 in
    let y = within_true 1 9999 d.year p.0 in
    let m = within_true 1 12 d.month q.0 in
    let w = within_true 1 (get_or (lengths_of (leap d.year)) (d.month - 1) 0) d.day r.0 in
    record {
      from_1 = (y.0, m.0, w.0);
      year = y.1;
      month = m.1;
      day = w.1;
      time = (ltb-true d.hour 24 t.0, ltb-true d.minute 60 u.0, ltb-true d.second 60 u.1);
    }

pub valid_true : (d : Date) → Valid d → is_date d ≡ true
unfolding is_date is_day is_time
valid_true d v =
    rw (
      within_is 1 9999 d.year v.from_1.0 v.year,
      within_is 1 12 d.month v.from_1.1 v.month,
      within_is 1 (get_or (lengths_of (leap d.year)) (d.month - 1) 0) d.day v.from_1.2 v.day,
      lt-ltb d.hour 24 v.time.0,
      lt-ltb d.minute 60 v.time.1,
      lt-ltb d.second 60 v.time.2,
    )
