-- The rows of codes by the magnitude, and that a difference comes back by its own row. Assumes nothing.
use mathlib.Core.Path.{◌≡◌, refl, sym, ap, ◌∙◌, subst}
use mathlib.Core.Bool.{Bool, true, false}
use Prim.Native.Nat.{ℕ, ◌^◌, ◌≤◌, ◌<◌}
use native.Mathlib.Omega.{arith}
use borrow.Author.Tests.{leb-true, leb-false, le-leb, lt-leb}
use lib.Dec.{leb}
use lib.IntN.{ℤ, pos, negsuc, nat_abs}
use lib.Signed.{mag}
use Rattle.signed.specs.Inner.{low_bits}
use Rattle.signed.proofs.Widths.{extend-low}
use Rattle.gorilla.specs.declared.Row.{Row}
use Rattle.gorilla.specs.Rows.{row, row_at, row_of, decoded, strict}
use Rattle.gorilla.proofs.Ranges.{range_mag}

-- ---- the row of a magnitude
pub row0 : (n : ℕ) → n ≤ 0 → row 0b0 1 0 ≡ row_at n
row0 n h = simp (le-leb n 0 h)

pub row1 : (n : ℕ) → 0 < n → n ≤ 63 → row 0b10 2 7 ≡ row_at n
row1 n l h = simp (lt-leb n 0 l, le-leb n 63 h)

pub row2 : (n : ℕ) → 63 < n → n ≤ 255 → row 0b110 3 9 ≡ row_at n
row2 n l h = simp (lt-leb n 0 (omega arith), lt-leb n 63 l, le-leb n 255 h)

pub row3 : (n : ℕ) → 255 < n → n ≤ 2047 → row 0b1110 4 12 ≡ row_at n
row3 n l h = simp (lt-leb n 0 (omega arith), lt-leb n 63 (omega arith), lt-leb n 255 l, le-leb n 2047 h)

pub row4 : (n : ℕ) → 2047 < n → row 0b1111 4 32 ≡ row_at n
row4 n l = simp (lt-leb n 0 (omega arith), lt-leb n 63 (omega arith), lt-leb n 255 (omega arith), lt-leb n 2047 l)

-- ---- a strict difference is one of magnitude below 2^31, as two's complement counts it
pub strict_mag : (d : ℤ) → strict d ≡ leb (mag d) 2147483647
unfolding strict
strict_mag d = range_mag 2147483647 d

pub mag_strict : (d : ℤ) → strict d ≡ true → mag d < 2 ^ 31
mag_strict d s = let h : mag d ≤ 2147483647 = leb-true (mag d) 2147483647 (sym (strict_mag d) ∙ s) in omega arith

pub strict_of : (d : ℤ) → mag d < 2 ^ 31 → strict d ≡ true
strict_of d h = strict_mag d ∙ le-leb (mag d) 2147483647 (omega arith)

-- ---- d comes back from its low bits, by its own row's width
pub by_le {ℓ} : {X : Type ℓ} (n k : ℕ) → (n ≤ k → X) → (k < n → X) → X
by_le {X} n k f g = go (leb n k) refl
  where
    go : (t : Bool) → leb n k ≡ t → X
    go true e = f (leb-true n k e)
    go false e = g (leb-false n k e)

mag_le : (z : ℤ) → mag z ≤ nat_abs z
mag_le (pos n) = omega arith
mag_le (negsuc n) = omega arith

at_0 : (z : ℤ) → nat_abs z ≤ 0 → pos 0 ≡ z
at_0 (pos n) h = ap pos (omega arith)
at_0 (negsuc n) h = absurd (omega (arith, h))

module _ (d : ℤ) where
  Back : Row → Type 0
  Back r = decoded r.width (low_bits r.width d) ≡ d

  pub reads_back : strict d ≡ true → decoded (row_of d).width (low_bits (row_of d).width d) ≡ d
  unfolding Back row_of
  reads_back s =
      by_le (nat_abs d) 0 (λ h. subst Back (row0 (nat_abs d) h) (at_0 d h)) (λ l₀.
      by_le (nat_abs d) 63 (λ h. subst Back (row1 (nat_abs d) l₀ h) (extend-low 7 d (omega arith) (omega arith) (omega (arith, mag_le d)))) (λ l₁.
      by_le (nat_abs d) 255 (λ h. subst Back (row2 (nat_abs d) l₁ h) (extend-low 9 d (omega arith) (omega arith) (omega (arith, mag_le d)))) (λ l₂.
      by_le (nat_abs d) 2047 (λ h. subst Back (row3 (nat_abs d) l₂ h) (extend-low 12 d (omega arith) (omega arith) (omega (arith, mag_le d)))) (λ l₃.
      subst Back (row4 (nat_abs d) l₃) (extend-low 32 d (omega arith) (omega arith) (mag_strict d s))))))
