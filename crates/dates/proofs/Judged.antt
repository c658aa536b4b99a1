-- What a date-time of the grammar says. Assumes nothing.
use mathlib.Core.Path.{◌≡◌, refl, ap, ◌∙◌}
use mathlib.Core.Bool.{Bool, true, false}
use Prim.Native.Nat.{ℕ, zero, suc, ◌+◌, ◌-◌, ◌*◌, ◌^◌, ◌≤◌, ◌<◌}
use native.Mathlib.Omega.{arith}
use borrow.Author.Tests.{leb-true, lt-ltb}
use lib.Dec.{leb}
use lib.IntN.{pos, negsuc, neg_ℤ, ◌-ℤ◌}
use lib.Signed.{mag}
use mir.Syntax.{w64}
use mir.Val.{SFits, to_z, of_z}
use mir.Facts.{to_z-of_z, to_z_pos}
use Rattle.order.proofs.Domain.{inside_mag, mag_diff}
use Rattle.calendar.specs.Calendar.{second_of, is_date}
use Rattle.calendar.proofs.Laws.{calendar}
use Rattle.calendar.proofs.Moments.{and_true}
use Rattle.date_reader.specs.declared.Zone.{Zone}
use Rattle.date_reader.specs.declared.Stamp.{Stamp}
use Rattle.dates.specs.Read.{is_offset, offset_of, utc_of, if_inside, judged}

-- ---- offsets
abbrev pub seconds : Zone → ℕ
seconds z = (z.hours * 60 + z.minutes) * 60

module _ (z : Zone) where
  pub offset-parts : is_offset z ≡ true → (z.hours ≤ 23) × (z.minutes ≤ 59)
  unfolding is_offset
  offset-parts e =
      let p = and_true (leb z.hours 23) (leb z.minutes 59) e in
      (leb-true z.hours 23 p.0, leb-true z.minutes 59 p.1)

  pub offset-ahead : z.ahead ≡ true → pos (seconds z) ≡ offset_of z
  unfolding offset_of
  offset-ahead e = rw e

  pub offset_behind : z.ahead ≡ false → pos 0 -ℤ pos (seconds z) ≡ offset_of z
  unfolding offset_of
  offset_behind e = rw e (less (seconds z))
    where
      less : (n : ℕ) → pos 0 -ℤ pos n ≡ neg_ℤ (pos n)
      less zero = refl
      less (suc n) = let e : suc n - 1 ≡ n = omega arith in rw (lt-ltb 0 (suc n) (omega arith)) (ap negsuc e)

  pub offset_mag : is_offset z ≡ true → mag (offset_of z) < 2 ^ 20
  offset_mag e = go z.ahead refl
    where
      p : (z.hours ≤ 23) × (z.minutes ≤ 59)
      p = offset-parts e

      go : (b : Bool) → z.ahead ≡ b → mag (offset_of z) < 2 ^ 20
      go true a = rw (← offset-ahead a) (omega (arith, p.0, p.1))
      go false a = rw (← offset_behind a) (omega (arith, p.0, p.1, mag_diff (pos 0) (pos (seconds z))))

-- the same as the code computes it, through the bits
module _ (z : Zone) (h : z.hours ≤ 23) (k : z.minutes ≤ 59) where
  seen : to_z w64 (seconds z) ≡ pos (seconds z)
  seen = to_z_pos w64 {n = seconds z} (omega arith)

  pub ahead_is : z.ahead ≡ true → to_z w64 (seconds z) ≡ offset_of z
  ahead_is e = seen ∙ offset-ahead z e

  pub behind_fits : SFits w64 (pos 0 -ℤ to_z w64 (seconds z))
  behind_fits = rw seen (record { sfits = omega (arith, mag_diff (pos 0) (pos (seconds z))) })

  pub behind_is : z.ahead ≡ false → to_z w64 (of_z w64 (pos 0 -ℤ to_z w64 (seconds z))) ≡ offset_of z
  behind_is e = to_z-of_z behind_fits ∙ rw seen (offset_behind z e)

-- ---- the second in UTC
module _ (r : Stamp) (h : is_date r.date ≡ true) (k : is_offset r.zone ≡ true) where
  pub both : if_inside (utc_of r) ≡ judged r
  unfolding judged
  both = rw (h, k)

  pub utc_fits : SFits w64 (utc_of r)
  utc_fits = record { sfits = omega (arith, inside_mag (second_of r.date) (calendar.in_domain r.date h), offset_mag r.zone k, mag_diff (second_of r.date) (offset_of r.zone)) }
