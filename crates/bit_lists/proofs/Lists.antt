-- Bits by positions and bits by lists: what stands at a position, and bits put one after the other. Assumes nothing.
use Prim.Native.Nat.{ℕ, zero, suc, ◌+◌, ◌-◌, ◌*◌, ◌/◌, ◌%◌, ◌^◌, ◌≤◌, ◌<◌}
use mathlib.Core.Path.{◌≡◌, refl, sym, ap, ap₂, ◌∙◌}
use mathlib.Core.Bool.{Bool, true, false}
use mathlib.Core.List.{List, [], ◌∷◌, ◌++◌, append_assoc}
use native.Mathlib.Nat.{add-zero, zero-div}
use native.Mathlib.Omega.{arith}
use borrow.Author.Tests.{ltb-true, ltb-false}
use lib.Dec.{ltb}
use lib.ListN.{length, get_or, length-append, length-set, get_or-append}
use lib.Seq.{get_or-append-add}
use Rattle.bit_lists.specs.BitList.{nat_bits, bits_of}
use Rattle.raw_bits.specs.Inner.{bit_at, put_bit, put_bits, put_list}
use Rattle.raw_bits.proofs.Bits.{put_bits-add}

pub length-nat_bits : (w x : ℕ) → length (nat_bits w x) ≡ w
unfolding nat_bits
length-nat_bits zero x = refl
length-nat_bits (suc w) x = ap suc (length-nat_bits w x)

pub length-bits_of : (s : List ℕ) → length (bits_of s) ≡ length s * 8
unfolding bits_of
length-bits_of [] = refl
length-bits_of (x ∷ s) = omega (arith, length-append (nat_bits 8 x) (bits_of s), length-nat_bits 8 x, length-bits_of s)

pub bits_of-append : (a b : List ℕ) → bits_of (a ++ b) ≡ bits_of a ++ bits_of b
unfolding bits_of
bits_of-append [] b = refl
bits_of-append (x ∷ a) b = rw (append_assoc) (ap (λ (ys : List ℕ). nat_bits 8 x ++ ys) (bits_of-append a b))

bit_nat_bits : (w x j : ℕ) → j < w → get_or (nat_bits w x) j 0 ≡ x / 2 ^ (w - suc j) % 2
unfolding nat_bits
bit_nat_bits zero x j h = absurd (omega (arith, h))
bit_nat_bits (suc w) x zero h = ap (λ (u : ℕ). x / 2 ^ u % 2) (omega arith)
bit_nat_bits (suc w) x (suc j) h =
    let e : w - suc j ≡ suc w - suc (suc j) = omega arith in
    bit_nat_bits w x j (omega arith) ∙ ap (λ (u : ℕ). x / 2 ^ u % 2) e

-- the list of the bits of bytes has at p the bit at p
pub bit_is : (s : List ℕ) (p : ℕ) → get_or (bits_of s) p 0 ≡ bit_at s p
unfolding bits_of bit_at
bit_is [] p = sym (ap (λ (u : ℕ). u % 2) (zero-div (2 ^ (7 - p % 8))))
bit_is (x ∷ s) p = go (ltb p 8) refl (bit_is s (p - 8))
  where
    go : (b : Bool) → ltb p 8 ≡ b → get_or (bits_of s) (p - 8) 0 ≡ bit_at s (p - 8) → get_or (nat_bits 8 x ++ bits_of s) p 0 ≡ get_or (x ∷ s) (p / 8) 0 / 2 ^ (7 - p % 8) % 2
    go true e ih =
        let h : p < 8 = ltb-true p 8 e in
        let f : 0 ≡ p / 8 = omega arith in
        let g : 8 - suc p ≡ 7 - p % 8 = omega arith in
        get_or-append (nat_bits 8 x) (bits_of s) 0 p (omega (arith, length-nat_bits 8 x)) ∙ bit_nat_bits 8 x p h
        ∙ ap₂ (λ (u v : ℕ). get_or (x ∷ s) u 0 / 2 ^ v % 2) f g
    go false e ih =
        let h : 8 ≤ p = ltb-false p 8 e in
        let q : ℕ = p - 8 in
        let k : p ≡ length (nat_bits 8 x) + q = omega (arith, length-nat_bits 8 x) in
        let f : suc (q / 8) ≡ p / 8 = omega arith in
        let g : q % 8 ≡ p % 8 = omega arith in
        ap (λ (u : ℕ). get_or (nat_bits 8 x ++ bits_of s) u 0) k ∙ get_or-append-add (nat_bits 8 x) (bits_of s) q 0 ∙ ih
        ∙ ap₂ (λ (u v : ℕ). get_or (x ∷ s) u 0 / 2 ^ (7 - v) % 2) f g

-- ---- bits put one after the other

pub put_nat : (s : List ℕ) (p v n : ℕ) → put_bits s p v n ≡ put_list s p (nat_bits n v)
unfolding put_list put_bits nat_bits
put_nat s p v zero = refl
put_nat s p v (suc n) =
    let e : suc n ≡ 1 + n = omega arith in
    let b : put_bits s p (v / 2 ^ n) 1 ≡ put_bit s p (v / 2 ^ n % 2) = ap (λ (u : ℕ). put_bit s u (v / 2 ^ n % 2)) (add-zero p) in
    ap (put_bits s p v) e ∙ put_bits-add s p v 1 n ∙ ap (λ (l : List ℕ). put_bits l (p + 1) v n) b ∙ put_nat (put_bit s p (v / 2 ^ n % 2)) (p + 1) v n

pub put_append : (s : List ℕ) (p : ℕ) (a b : List ℕ) → put_list s p (a ++ b) ≡ put_list (put_list s p a) (p + length a) b
unfolding put_list
put_append s p [] b = ap (λ (u : ℕ). put_list s u b) (sym (add-zero p))
put_append s p (x ∷ a) b =
    let e : p + 1 + length a ≡ p + suc (length a) = omega arith in
    put_append (put_bit s p x) (p + 1) a b ∙ ap (λ (u : ℕ). put_list (put_list (put_bit s p x) (p + 1) a) u b) e

pub length-put_list : (s : List ℕ) (p : ℕ) (bs : List ℕ) → length (put_list s p bs) ≡ length s
unfolding put_list put_bit
length-put_list s p [] = refl
length-put_list s p (b ∷ bs) = length-put_list (put_bit s p b) (p + 1) bs ∙ simp length-set

pub two-parts : (s : List ℕ) (q n p w x : ℕ) → put_list (put_list s q (nat_bits n p)) (q + n) (nat_bits w x) ≡ put_list s q (nat_bits n p ++ nat_bits w x)
two-parts s q n p w x =
    ap (λ (u : ℕ). put_list (put_list s q (nat_bits n p)) (q + u) (nat_bits w x)) (sym (length-nat_bits n p)) ∙ sym (put_append s q (nat_bits n p) (nat_bits w x))
