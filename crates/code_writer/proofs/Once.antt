-- Bits as one number: a code, and codes joined. Assumes nothing.
use Prim.Native.Nat.{ℕ, ◌+◌, ◌*◌, ◌%◌, ◌^◌, ◌≤◌, ◌<◌}
use mathlib.Core.Path.{◌≡◌, sym, ap, ap₂, ◌∙◌, subst}
use mathlib.Core.List.{List, ◌++◌}
use native.Mathlib.Nat.{mod-eq_of_lt, mod-lt, zero-mul}
use native.Mathlib.Omega.{arith}
use lib.ListN.{length, length-append}
use lib.IntN.{ℤ, pos}
use lib.Arith.{digits_lt}
use lib.Pow.{pow_pos, pow-add}
use Rattle.signed.specs.Signed.{pattern}
use Rattle.signed.specs.Inner.{low_bits}
use Rattle.gorilla.specs.declared.Row.{Row}
use Rattle.gorilla.specs.Rows.{row_of}
use Rattle.bit_lists.specs.BitList.{nat_bits, nat_from}
use Rattle.gorilla.specs.Format.{code_bits}
use Rattle.bit_lists.proofs.Lists.{length-nat_bits}
use Rattle.gorilla.proofs.Trip.{rows}
use Rattle.gorilla.proofs.Putting.{narrow}
use Rattle.bit_lists.proofs.Packing.{nat_from_lem, from_nat, from-append, bits_append, bits_nat_bits}
use Rattle.code_writer.specs.declared.Held.{Held}
use Rattle.code_writer.specs.Inner.{held_bits, Fits}

pub nat_join : (n w p x : ℕ) → p < 2 ^ n → x < 2 ^ w → nat_bits (n + w) (p * 2 ^ w + x) ≡ nat_bits n p ++ nat_bits w x
nat_join n w p x h k =
    let l : length (nat_bits n p ++ nat_bits w x) ≡ n + w = simp (length-append, length-nat_bits) in
    let a : nat_from 0 (nat_bits n p) ≡ p = from_nat n 0 p ∙ omega (arith, mod-eq_of_lt h, zero-mul (2 ^ n)) in
    let m : nat_from 0 (nat_bits n p ++ nat_bits w x) ≡ p * 2 ^ w + x =
    from-append 0 (nat_bits n p) (nat_bits w x) ∙ ap (λ (u : ℕ). nat_from u (nat_bits w x)) a ∙ from_nat w p x ∙ ap (λ (u : ℕ). p * 2 ^ w + u) (mod-eq_of_lt k) in
    ap₂ nat_bits (sym l) (sym m) ∙ nat_from_lem 0 (nat_bits n p ++ nat_bits w x) (bits_append (nat_bits n p) (nat_bits w x) (bits_nat_bits n p) (bits_nat_bits w x))

Small : Row → Type 0
Small r = (r.prefix < 2 ^ r.prefix_bits) × (r.prefix < 16) × (1 ≤ r.prefix_bits)

small : (d : ℤ) → Small (row_of d)
unfolding Small
small = rows Small (omega arith, omega arith, omega arith) (omega arith, omega arith, omega arith) (omega arith, omega arith, omega arith) (omega arith, omega arith, omega arith) (omega arith, omega arith, omega arith)

-- ---- the row of a difference, and the low bits of it that the row asks for
module _ (d : ℤ) (r : Row) (e : r ≡ row_of d) where
  pub row_sizes : (r.prefix < 2 ^ r.prefix_bits) × (r.prefix_bits ≤ 4) × (r.width ≤ 32)
  unfolding Small
  row_sizes = subst (λ (y : Row). (y.prefix < 2 ^ y.prefix_bits) × (y.prefix_bits ≤ 4) × (y.width ≤ 32)) (sym e) ((small d).0, (narrow d).0, (narrow d).1)

  pub low_lt : (x : ℕ) → x ≡ low_bits r.width d → x < 2 ^ r.width
  low_lt x f = rw f (mod-lt _ (pow_pos r.width))

-- ---- bits that are joined
module _ (a b h : Held) (f : Fits a) (g : Fits b) (e : h ≡ record { value = a.value * 2 ^ b.width + b.value; width = a.width + b.width }) where
  pub joined_bits : held_bits h ≡ held_bits a ++ held_bits b
  joined_bits = ap held_bits e ∙ nat_join a.width b.width a.value b.value f g

  pub joined_fits : Fits h
  joined_fits = subst Fits (sym e) (omega (arith, digits_lt f g, pow-add 2 a.width b.width))

-- bits above the width are not written
low_same : (w x : ℕ) → nat_bits w (x % 2 ^ w) ≡ nat_bits w x
low_same w x =
    let v : nat_from 0 (nat_bits w x) ≡ x % 2 ^ w = from_nat w 0 x ∙ omega (arith, zero-mul (2 ^ w)) in
    ap₂ nat_bits (sym (length-nat_bits w x)) (sym v) ∙ nat_from_lem 0 (nat_bits w x) (bits_nat_bits w x)

-- prefix and low bits of a row
pub code_joined : (d : ℤ) (r : Row) (x : ℕ) → r ≡ row_of d → x ≡ low_bits r.width d → nat_bits r.prefix_bits r.prefix ++ nat_bits r.width x ≡ code_bits d
unfolding code_bits
code_joined d r x e f =
    ap₂ (λ (y : Row) (m : ℕ). nat_bits y.prefix_bits y.prefix ++ nat_bits y.width m) e (f ∙ ap (λ (y : Row). low_bits y.width d) e)
    ∙ ap (λ (bits : List ℕ). nat_bits (row_of d).prefix_bits (row_of d).prefix ++ bits) (low_same (row_of d).width (pattern d))

-- the first row: one zero bit
pub zero-code : (d : ℤ) → d ≡ pos 0 → nat_bits 1 0 ≡ code_bits d
unfolding code_bits nat_bits row_of
zero-code d e = ap code_bits (sym e)
