-- Bits taken off a list: where there are enough, where there are not, and those that were written. Assumes nothing.
use Prim.Native.Nat.{ℕ, ◌%◌, ◌^◌, ◌≤◌, ◌<◌}
use mathlib.Core.Path.{◌≡◌, refl, ap, ap₂, ◌∙◌}
use mathlib.Core.Bool.{Bool, true, false, cond}
use mathlib.Core.List.{List, ◌∷◌, ◌++◌}
use native.Mathlib.Nat.{mod-eq_of_lt}
use native.Mathlib.Omega.{arith}
use borrow.Author.Tests.{lt-ltb, le-ltb, ltb-false}
use lib.Dec.{ltb}
use lib.ListN.{length, take, drop, length-append}
use lib.Seq.{take_at, drop_at}
use Rattle.bit_lists.specs.BitList.{nat_bits, nat_from}
use Rattle.bit_lists.proofs.Lists.{length-nat_bits}
use Rattle.bit_lists.proofs.Packing.{from_nat}
use Rattle.gorilla.specs.Parser.{read, refused, take_bits}

module _ (l : List ℕ) (n : ℕ) (bs : List ℕ) where
  pub enough : n ≤ length bs → take_bits n l bs ≡ read (nat_from 0 (take n bs)) (drop n bs)
  unfolding take_bits
  enough h = rw (le-ltb (length bs) n h)

  pub few : length bs < n → take_bits n l bs ≡ refused l
  unfolding take_bits
  few h = rw (lt-ltb (length bs) n h)

  -- what was taken off was there
  pub were_enough : {v : ℕ} {r : List ℕ} → take_bits n l bs ≡ read v r → (n ≤ length bs) × (v ≡ nat_from 0 (take n bs)) × (r ≡ drop n bs)
  unfolding take_bits
  were_enough {v} {r} h = go (ltb (length bs) n) refl h
    where
      go : (t : Bool) → ltb (length bs) n ≡ t → cond t (refused l) (read (nat_from 0 (take n bs)) (drop n bs)) ≡ read v r
          → (n ≤ length bs) × (v ≡ nat_from 0 (take n bs)) × (r ≡ drop n bs)
      go true e g = let z : ◌≡◌ {A = ℕ} 0 1 = cc in absurd (omega arith)
      go false e g = (ltb-false (length bs) n e, cc, cc)

pub no_bits : (l bs : List ℕ) → take_bits 0 l bs ≡ read 0 bs
unfolding nat_from
no_bits l bs = enough l 0 bs (omega arith)

pub one_bit : (l : List ℕ) (b : ℕ) (bs : List ℕ) → take_bits 1 l (b ∷ bs) ≡ read b bs
unfolding nat_from
one_bit l b bs = enough l 1 (b ∷ bs) (omega arith) ∙ ap (λ (u : ℕ). read u bs) (omega arith)

pub take_nat : (l : List ℕ) (n x : ℕ) (rest : List ℕ) → take_bits n l (nat_bits n x ++ rest) ≡ read (x % 2 ^ n) rest
take_nat l n x rest =
    enough l n (nat_bits n x ++ rest) (omega (arith, length-append (nat_bits n x) rest, length-nat_bits n x))
    ∙ ap₂ (λ (u r : List ℕ). read (nat_from 0 u) r) (take_at (nat_bits n x) rest n (length-nat_bits n x)) (drop_at (nat_bits n x) rest n (length-nat_bits n x))
    ∙ ap (λ (u : ℕ). read u rest) (from_nat n 0 x ∙ omega arith)

pub take_is : (l : List ℕ) (n x : ℕ) (rest : List ℕ) → x < 2 ^ n → take_bits n l (nat_bits n x ++ rest) ≡ read x rest
take_is l n x rest h = take_nat l n x rest ∙ ap (λ (u : ℕ). read u rest) (mod-eq_of_lt h)
