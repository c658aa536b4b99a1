-- Bits read and written at a position, said by lists of bits. Assumes nothing.
use Prim.Native.Nat.{ℕ, zero, suc, ◌+◌, ◌-◌, ◌*◌, ◌/◌, ◌%◌, ◌^◌, ◌≤◌, ◌<◌}
use mathlib.Core.Path.{◌≡◌, refl, sym, ap, ap₂, ◌∙◌, subst}
use mathlib.Core.Bool.{Bool, true, false}
use mathlib.Core.List.{List, [], ◌∷◌, ◌++◌}
use native.Mathlib.Nat.{add-suc, zero-add, mul-div_cancel, mod-eq_of_lt}
use native.Mathlib.Omega.{arith}
use borrow.Author.Tests.{ltb-true, ltb-false}
use lib.Dec.{ltb}
use lib.ListN.{length, get_or, set, take, drop, length-append, length-drop}
use lib.Seq.{take-suc, take-append-le, take-append-add, get_or-drop, sets-eq, length-take-le}
use lib.Pow.{pow_pos, shr_lt, shr-shr}
use Rattle.bit_lists.specs.BitList.{nat_bits, bits_of, nat_from, packed}
use Rattle.raw_bits.specs.Inner.{bits_at, put_bit, put_bits, put_list}
use Rattle.raw_bits.proofs.Bits.{put_bits-byte, put_bit_eq}
use Rattle.bit_lists.proofs.Lists.{length-nat_bits, length-bits_of, bit_is, put_nat, put_append}
use Rattle.bit_lists.proofs.Packing.{AllBits, bits_nat_bits, bits_append, bits_take, bits_of_lem, from-append, put_packed, length-packed}

-- n bits from p on are the number that they are in the list
pub from_at : (s : List ℕ) (p n : ℕ) → p + n ≤ length s * 8 → nat_from 0 (take n (drop p (bits_of s))) ≡ bits_at s p n
unfolding bits_at nat_from
from_at s p zero h = refl
from_at s p (suc n) h =
    let l : List ℕ = drop p (bits_of s) in
    let k : n < length l = omega (arith, add-suc p n, length-drop p (bits_of s), length-bits_of s) in
    ap (nat_from 0) (take-suc l n 0 k) ∙ from-append 0 (take n l) (get_or l n 0 ∷ [])
    ∙ ap₂ (λ (u b : ℕ). u * 2 + b) (from_at s p n (omega (arith, add-suc p n))) (get_or-drop p (bits_of s) n 0 ∙ bit_is s (p + n))

-- ---- bits that a byte has already, put into it again, and one bit more

-- the first j bits of j + k
first_bits : (j k x : ℕ) → take j (nat_bits (j + k) x) ≡ nat_bits j (x / 2 ^ k)
unfolding nat_bits
first_bits zero k x = refl
first_bits (suc j) k x =
    let e : suc j + k ≡ suc (j + k) = omega arith in
    let f : k + j ≡ j + k = omega arith in
    ap (λ (u : ℕ). take (suc j) (nat_bits u x)) e
    ∙ ap₂ (λ (b : ℕ) (bs : List ℕ). b ∷ bs) (ap (λ (u : ℕ). u % 2) (sym (shr-shr x k j ∙ ap (λ (u : ℕ). x / 2 ^ u) f))) (first_bits j k x)

-- the first bits of a byte, 1 to 8, put at its start: the others become 0
first_put : (x : ℕ) (s : List ℕ) (m : ℕ) → x < 256 → m < 8 → put_list (x ∷ s) 0 (take (suc m) (nat_bits 8 x)) ≡ x / 2 ^ (7 - m) * 2 ^ (7 - m) ∷ s
first_put x s m b h =
    let k : ℕ = 7 - m in
    let u : ℕ = x / 2 ^ k in
    let e : 8 ≡ suc m + k = omega arith in
    let o : 8 - (0 + suc m) ≡ k = omega arith in
    let z : x / 2 ^ 8 * 2 ^ 8 ≡ 0 = omega arith in
    let l : u < 2 ^ suc m = shr_lt (suc m) k (subst (λ (q : ℕ). x < 2 ^ q) e b) in
    ap (put_list (x ∷ s) 0) (ap (λ (q : ℕ). take (suc m) (nat_bits q x)) e ∙ first_bits (suc m) k x)
    ∙ sym (put_nat (x ∷ s) 0 u (suc m))
    ∙ put_bits-byte (x ∷ s) 0 0 u m (omega arith) (omega arith)
    ∙ ap (λ (q : ℕ). q ∷ s) (ap₂ (λ (a c : ℕ). a + c) z (ap₂ (λ (a c : ℕ). a * 2 ^ c) (mod-eq_of_lt l) o) ∙ zero-add (u * 2 ^ k))

-- past the first byte
bit_past : (x : ℕ) (s : List ℕ) (p c : ℕ) → put_bit (x ∷ s) (8 + p) c ≡ x ∷ put_bit s p c
unfolding put_bit
bit_past x s p c =
    let e : (8 + p) / 8 ≡ suc (p / 8) = omega arith in
    let f : (8 + p) % 8 ≡ p % 8 = omega arith in
    ap₂ (λ (i r : ℕ). set (x ∷ s) i (get_or (x ∷ s) i 0 / 2 ^ (8 - r) * 2 ^ (8 - r) + c * 2 ^ (7 - r))) e f

list-past : (x : ℕ) (s : List ℕ) (p : ℕ) (bs : List ℕ) → put_list (x ∷ s) (8 + p) bs ≡ x ∷ put_list s p bs
unfolding put_list
list-past x s p [] = refl
list-past x s p (b ∷ bs) =
    let e : 8 + p + 1 ≡ 8 + (p + 1) = omega arith in
    ap₂ (λ (u : List ℕ) (q : ℕ). put_list u q bs) (bit_past x s p b) e ∙ list-past x (put_bit s p b) (p + 1) bs

-- a whole byte put again, and then more
byte_again : (x : ℕ) (s bs : List ℕ) → x < 256 → put_list (x ∷ s) 0 (nat_bits 8 x ++ bs) ≡ x ∷ put_list s 0 bs
unfolding nat_bits
byte_again x s bs b =
    let z : x / 2 ^ 0 * 2 ^ 0 ≡ x = omega arith in
    put_append (x ∷ s) 0 (nat_bits 8 x) bs
    ∙ ap₂ (λ (u : List ℕ) (q : ℕ). put_list u q bs) (first_put x s 7 b (omega arith) ∙ ap (λ (q : ℕ). q ∷ s) z) (omega (arith, length-nat_bits 8 x))
    ∙ list-past x s 0 bs

-- the bits before p put again change nothing that a bit put at p keeps
again : (s : List ℕ) (p c : ℕ) → ((j : ℕ) → get_or s j 0 < 256) → p < length s * 8 → put_bit (put_list s 0 (take p (bits_of s))) p c ≡ put_bit s p c
unfolding bits_of put_list
again [] p c b h = absurd (omega (arith, h))
again (x ∷ s) p c b h = go (ltb p 8) refl (again s (p - 8) c (λ j. b (suc j)))
  where
    low : (r : ℕ) → r < 8 → put_bit (put_list (x ∷ s) 0 (take r (nat_bits 8 x))) r c ≡ put_bit (x ∷ s) r c
    low zero l = refl
    low (suc m) l =
        let k : ℕ = 7 - m in
        let y : ℕ = x / 2 ^ k * 2 ^ k in
        let z : 0 * 8 + suc m ≡ suc m = omega arith in
        let e : y / 2 ^ k * 2 ^ k ≡ y = ap (λ (u : ℕ). u * 2 ^ k) (mul-div_cancel (x / 2 ^ k) (pow_pos k)) in
        let f : 8 - suc m ≡ k = omega arith in
        ap₂ (λ (u : List ℕ) (q : ℕ). put_bit u q c) (first_put x s m (b 0) (omega arith)) (sym z) ∙ put_bit_eq (y ∷ s) 0 (suc m) c l
        ∙ ap (λ (u : ℕ). (y / 2 ^ u * 2 ^ u + c * 2 ^ (7 - suc m)) ∷ s) f
        ∙ ap (λ (u : ℕ). (u + c * 2 ^ (7 - suc m)) ∷ s) e
        ∙ ap (λ (u : ℕ). (x / 2 ^ u * 2 ^ u + c * 2 ^ (7 - suc m)) ∷ s) (sym f)
        ∙ sym (ap (λ (q : ℕ). put_bit (x ∷ s) q c) (sym z) ∙ put_bit_eq (x ∷ s) 0 (suc m) c l)

    go : (t : Bool) → ltb p 8 ≡ t → (p - 8 < length s * 8 → put_bit (put_list s 0 (take (p - 8) (bits_of s))) (p - 8) c ≡ put_bit s (p - 8) c)
        → put_bit (put_list (x ∷ s) 0 (take p (nat_bits 8 x ++ bits_of s))) p c ≡ put_bit (x ∷ s) p c
    go true e ih =
        let l : p < 8 = ltb-true p 8 e in
        ap (λ (u : List ℕ). put_bit (put_list (x ∷ s) 0 u) p c) (take-append-le p (nat_bits 8 x) (bits_of s) (omega (arith, length-nat_bits 8 x))) ∙ low p l
    go false e ih =
        let l : 8 ≤ p = ltb-false p 8 e in
        let q : ℕ = p - 8 in
        let k : p ≡ length (nat_bits 8 x) + q = omega (arith, length-nat_bits 8 x) in
        let f : p ≡ 8 + q = omega arith in
        ap (λ (u : List ℕ). put_bit (put_list (x ∷ s) 0 u) p c) (ap (λ (u : ℕ). take u (nat_bits 8 x ++ bits_of s)) k ∙ take-append-add (nat_bits 8 x) (bits_of s) q)
        ∙ ap₂ (λ (u : List ℕ) (r : ℕ). put_bit u r c) (byte_again x s (take q (bits_of s)) (b 0)) f
        ∙ bit_past x (put_list s 0 (take q (bits_of s))) q c
        ∙ ap (λ (u : List ℕ). x ∷ u) (ih (omega arith))
        ∙ sym (ap (λ (r : ℕ). put_bit (x ∷ s) r c) f ∙ bit_past x s q c)

-- bits put at p: the bits before them, they, and zeros to a whole byte; and the bytes after it as they were
pub put_over : (s : List ℕ) (p v n : ℕ) → ((j : ℕ) → get_or s j 0 < 256) → p + suc n ≤ length s * 8
    → put_bits s p v (suc n) ≡ packed (take p (bits_of s) ++ nat_bits (suc n) v) ++ drop (length (packed (take p (bits_of s) ++ nat_bits (suc n) v))) s
unfolding put_list nat_bits
put_over s p v n b h =
    let a : List ℕ = take p (bits_of s) in
    let ns : List ℕ = nat_bits (suc n) v in
    let l : length a ≡ p = length-take-le p (bits_of s) (omega (arith, length-bits_of s)) in
    let k : length (a ++ ns) ≡ p + suc n = omega (arith, length-append a ns, length-nat_bits (suc n) v) in
    let e : 0 + length a ≡ p = omega arith in
    let f : AllBits (a ++ ns) = bits_append a ns (bits_take p (bits_of s) (bits_of_lem s)) (bits_nat_bits (suc n) v) in
    put_nat s p v (suc n)
    ∙ ap (λ (u : List ℕ). put_list u (p + 1) (nat_bits n v)) (sym (again s p (v / 2 ^ n % 2) b (omega arith)))
    ∙ ap (λ (q : ℕ). put_list (put_list s 0 a) q ns) (sym e) ∙ sym (put_append s 0 a ns)
    ∙ put_packed s 0 (a ++ ns) f b (omega arith)
    ∙ sets-eq (packed (a ++ ns)) s 0 (omega (arith, length-packed (a ++ ns)))
    ∙ ap (λ (q : ℕ). packed (a ++ ns) ++ drop q s) (zero-add (length (packed (a ++ ns))))
