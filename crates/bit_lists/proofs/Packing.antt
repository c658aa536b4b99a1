-- Bits packed into bytes. Assumes nothing.
use Prim.Native.Nat.{ℕ, zero, suc, ◌+◌, ◌-◌, ◌*◌, ◌/◌, ◌%◌, ◌^◌, ◌≤◌, ◌<◌}
use mathlib.Core.Path.{◌≡◌, refl, sym, ap, ap₂, ◌∙◌, subst}
use mathlib.Core.Bool.{Bool, true, false}
use mathlib.Core.List.{List, [], ◌∷◌, ◌++◌, append-nil}
use native.Mathlib.Nat.{mod-lt, zero-lt-suc, pow-suc, mul_assoc, mul_comm, add-mul, add-zero, mod-eq_of_lt, zero-add}
use native.Mathlib.Omega.{arith}
use borrow.Author.Tests.{ltb-true, ltb-false}
use lib.Dec.{ltb}
use lib.ListN.{length, get_or, set, take, drop, replicate, length-append, length-drop, length-set, take-append-drop}
use lib.Seq.{take-append-le, drop-append-le, take-append-add, take-add, sets, length-take-le}
use lib.Arith.{digits_div, digits_mod}
use lib.Pow.{mod-pow-add}
use Rattle.raw_bits.specs.Inner.{put_bits, put_list}
use Rattle.raw_bits.proofs.Bits.{put_bits-byte, byte-set}
use Rattle.bit_lists.specs.BitList.{nat_bits, bits_of, nat_from, bytes_of, byte_len, packed}
use Rattle.bit_lists.proofs.Lists.{put_nat, put_append}

unfoldable pub AllBits : List ℕ → Type 0
AllBits [] = Unit {0}
AllBits (b ∷ bs) = (b < 2) × AllBits bs

pub bits_nat_bits : (w v : ℕ) → AllBits (nat_bits w v)
unfolding AllBits nat_bits
bits_nat_bits zero v = tt
bits_nat_bits (suc w) v = (mod-lt (v / 2 ^ w) (zero-lt-suc 1), bits_nat_bits w v)

pub bits_append : (a b : List ℕ) → AllBits a → AllBits b → AllBits (a ++ b)
unfolding AllBits
bits_append [] b f g = g
bits_append (x ∷ a) b (h, f) g = (h, bits_append a b f g)

pub bits_take : (n : ℕ) (bs : List ℕ) → AllBits bs → AllBits (take n bs)
unfolding AllBits
bits_take zero bs f = tt
bits_take (suc n) [] f = tt
bits_take (suc n) (b ∷ bs) (h, f) = (h, bits_take n bs f)

bits_drop : (n : ℕ) (bs : List ℕ) → AllBits bs → AllBits (drop n bs)
unfolding AllBits
bits_drop zero bs f = f
bits_drop (suc n) [] f = tt
bits_drop (suc n) (b ∷ bs) (h, f) = bits_drop n bs f

pub bits_of_lem : (s : List ℕ) → AllBits (bits_of s)
unfolding AllBits bits_of
bits_of_lem [] = tt
bits_of_lem (x ∷ s) = bits_append (nat_bits 8 x) (bits_of s) (bits_nat_bits 8 x) (bits_of_lem s)

-- ---- the number that bits are

from-add : (v : ℕ) (bs : List ℕ) → nat_from v bs ≡ v * 2 ^ length bs + nat_from 0 bs
unfolding nat_from
from-add v [] = omega arith
from-add v (b ∷ bs) =
    let n : ℕ = length bs in
    let s : v * 2 ^ suc n ≡ v * 2 * 2 ^ n = ap (λ (u : ℕ). v * u) (pow-suc 2 n ∙ mul_comm (2 ^ n) 2) ∙ sym (mul_assoc v 2 (2 ^ n)) in
    let o : (0 * 2 + b) * 2 ^ n ≡ b * 2 ^ n = ap (λ (u : ℕ). u * 2 ^ n) (omega arith) in
    omega (arith, from-add (v * 2 + b) bs, from-add (0 * 2 + b) bs, s, o, add-mul (v * 2) b (2 ^ n))

from_lt : (bs : List ℕ) → AllBits bs → nat_from 0 bs < 2 ^ length bs
unfolding nat_from AllBits
from_lt [] f = omega arith
from_lt (b ∷ bs) (h, f) = go b h (from_lt bs f)
  where
    go : (b : ℕ) → b < 2 → nat_from 0 bs < 2 ^ length bs → nat_from (0 * 2 + b) bs < 2 ^ suc (length bs)
    go zero h l = omega (arith, from-add (0 * 2 + 0) bs, pow-suc 2 (length bs), l)
    go (suc zero) h l = omega (arith, from-add (0 * 2 + 1) bs, pow-suc 2 (length bs), l)
    go (suc (suc b)) h l = absurd (omega (arith, h))

-- bits are those of the number that they are
pub nat_from_lem : (v : ℕ) (bs : List ℕ) → AllBits bs → nat_bits (length bs) (nat_from v bs) ≡ bs
unfolding nat_from nat_bits AllBits
nat_from_lem v [] f = refl
nat_from_lem v (b ∷ bs) (h, f) =
    let d : nat_from (v * 2 + b) bs / 2 ^ length bs ≡ v * 2 + b = ap (λ (u : ℕ). u / 2 ^ length bs) (from-add (v * 2 + b) bs) ∙ digits_div (v * 2 + b) (from_lt bs f) in
    ap₂ (λ (x : ℕ) (ys : List ℕ). x ∷ ys) (ap (λ (u : ℕ). u % 2) d ∙ digits_mod v h) (nat_from_lem (v * 2 + b) bs f)

pub from-append : (v : ℕ) (a b : List ℕ) → nat_from v (a ++ b) ≡ nat_from (nat_from v a) b
unfolding nat_from
from-append v [] b = refl
from-append v (x ∷ a) b = from-append (v * 2 + x) a b

-- a number's highest bit of suc n, then the others
one_more_lem : (v x n : ℕ) → (v * 2 + x / 2 ^ n % 2) * 2 ^ n + x % 2 ^ n ≡ v * 2 ^ suc n + x % 2 ^ suc n
one_more_lem v x n =
    let P : ℕ = 2 ^ n in
    let b : ℕ = x / P % 2 in
    let e : suc n ≡ 1 + n = omega arith in
    let m : x % 2 ^ suc n ≡ b * P + x % P = ap (λ (u : ℕ). x % 2 ^ u) e ∙ mod-pow-add x 1 n in
    let s : v * 2 ^ suc n ≡ v * 2 * P = ap (λ (u : ℕ). v * u) (pow-suc 2 n ∙ mul_comm P 2) ∙ sym (mul_assoc v 2 P) in
    omega (arith, m, s, add-mul (v * 2) b P)

-- the number that the n low bits of x are, after v
pub from_nat : (n v x : ℕ) → nat_from v (nat_bits n x) ≡ v * 2 ^ n + x % 2 ^ n
unfolding nat_from nat_bits
from_nat zero v x = omega arith
from_nat (suc n) v x = from_nat n (v * 2 + x / 2 ^ n % 2) x ∙ one_more_lem v x n

from_zeros : (v j : ℕ) → nat_from v (replicate j 0) ≡ v * 2 ^ j
unfolding nat_from
from_zeros v zero = omega arith
from_zeros v (suc j) =
    let s : v * 2 ^ suc j ≡ v * 2 * 2 ^ j = ap (λ (u : ℕ). v * u) (pow-suc 2 j ∙ mul_comm (2 ^ j) 2) ∙ sym (mul_assoc v 2 (2 ^ j)) in
    from_zeros (v * 2 + 0) j ∙ ap (λ (u : ℕ). u * 2 ^ j) (omega arith) ∙ sym s

-- ---- the bits of packed bytes
pub bits_bytes : (n : ℕ) (bs : List ℕ) → AllBits bs → n * 8 ≤ length bs → bits_of (bytes_of n bs) ≡ take (n * 8) bs
unfolding bits_of bytes_of
bits_bytes zero bs f h = refl
bits_bytes (suc n) bs f h =
    let l : length (take 8 bs) ≡ 8 = length-take-le 8 bs (omega arith) in
    let e : suc n * 8 ≡ 8 + n * 8 = omega arith in
    ap₂ (λ (a b : List ℕ). a ++ b)
    (ap (λ (u : ℕ). nat_bits u (nat_from 0 (take 8 bs))) (sym l) ∙ nat_from_lem 0 (take 8 bs) (bits_take 8 bs f))
    (bits_bytes n (drop 8 bs) (bits_drop 8 bs f) (omega (arith, length-drop 8 bs)))
    ∙ sym (ap (λ (u : ℕ). take u bs) e ∙ take-add 8 (n * 8) bs)

zeros : (j : ℕ) → AllBits (replicate j 0)
unfolding AllBits
zeros zero = tt
zeros (suc j) = (omega arith, zeros j)

take_zeros : (j n : ℕ) → j ≤ n → ◌≡◌ {A = List ℕ} (take j (replicate n 0)) (replicate j 0)
take_zeros zero n h = refl
take_zeros (suc j) zero h = absurd (omega (arith, h))
take_zeros (suc j) (suc n) h = ap (λ (ys : List ℕ). 0 ∷ ys) (take_zeros j n (omega arith))

-- m bits of bs and the zeros after them
take_padded : (bs : List ℕ) (m : ℕ) → length bs ≤ m → m ≤ length bs + 7 → take m (bs ++ replicate 7 0) ≡ bs ++ replicate (m - length bs) 0
take_padded bs m h k =
    let e : m ≡ length bs + (m - length bs) = omega arith in
    ap (λ (u : ℕ). take u (bs ++ replicate 7 0)) e ∙ take-append-add bs (replicate 7 0) (m - length bs) ∙ ap (λ (ys : List ℕ). bs ++ ys) (take_zeros (m - length bs) 7 (omega arith))

-- the bits, and zeros up to a byte
pub bits_packed : (bs : List ℕ) → AllBits bs → bits_of (packed bs) ≡ bs ++ replicate (byte_len (length bs) * 8 - length bs) 0
unfolding packed
bits_packed bs f =
    bits_bytes (byte_len (length bs)) (bs ++ replicate 7 0) (bits_append bs (replicate 7 0) f (zeros 7)) (omega (arith, length-append bs (replicate 7 0)))
    ∙ take_padded bs (byte_len (length bs) * 8) (omega arith) (omega arith)

pub length-packed : (bs : List ℕ) → length (packed bs) ≡ byte_len (length bs)
unfolding packed bytes_of
length-packed bs = go (byte_len (length bs)) (bs ++ replicate 7 0)
  where
    go : (n : ℕ) (cs : List ℕ) → length (bytes_of n cs) ≡ n
    go zero cs = refl
    go (suc n) cs = ap suc (go n (drop 8 cs))

-- ---- bits put from a whole byte on are packed bytes

-- one byte of 1 to 8 bits
one_byte : (s : List ℕ) (k : ℕ) (bs : List ℕ) (m : ℕ) → length bs ≡ suc m → m < 8 → AllBits bs → k < length s → get_or s k 0 < 256
    → put_list s (k * 8) bs ≡ set s k (nat_from 0 (bs ++ replicate (8 - suc m) 0))
one_byte s k bs m l h f r x =
    let v : ℕ = nat_from 0 bs in
    let n : nat_bits (suc m) v ≡ bs = ap (λ (u : ℕ). nat_bits u v) (sym l) ∙ nat_from_lem 0 bs f in
    let z : get_or s k 0 / 2 ^ 8 * 2 ^ 8 ≡ 0 = omega arith in
    let q : v % 2 ^ suc m ≡ v = mod-eq_of_lt (subst (λ (u : ℕ). v < 2 ^ u) l (from_lt bs f)) in
    let o : 8 - (0 + suc m) ≡ 8 - suc m = omega arith in
    let w : get_or s k 0 / 2 ^ (8 - 0) * 2 ^ (8 - 0) + v % 2 ^ suc m * 2 ^ (8 - (0 + suc m)) ≡ nat_from 0 (bs ++ replicate (8 - suc m) 0) =
    ap₂ (λ (u y : ℕ). u + y) z (ap₂ (λ (u y : ℕ). u * 2 ^ y) q o) ∙ zero-add (v * 2 ^ (8 - suc m)) ∙ sym (from_zeros v (8 - suc m)) ∙ sym (from-append 0 bs (replicate (8 - suc m) 0)) in
    ap (put_list s (k * 8)) (sym n) ∙ sym (put_nat s (k * 8) v (suc m)) ∙ ap (λ (u : ℕ). put_bits s u v (suc m)) (sym (add-zero (k * 8)))
    ∙ put_bits-byte s k 0 v m r (omega arith) ∙ ap (set s k) w

put_bytes : (n : ℕ) (s : List ℕ) (k : ℕ) (bs : List ℕ) → byte_len (length bs) ≡ n → AllBits bs → ((j : ℕ) → get_or s j 0 < 256) → k * 8 + length bs ≤ length s * 8
    → put_list s (k * 8) bs ≡ sets s k (bytes_of n (bs ++ replicate 7 0))
unfolding bytes_of put_list
put_bytes zero s k [] e f b h = refl
put_bytes zero s k (x ∷ bs) e f b h = absurd (omega arith)
put_bytes (suc n) s k bs e f b h = go (ltb (length bs) 8) refl (λ u l c r. put_bytes n u (suc k) (drop 8 bs) l (bits_drop 8 bs f) c r)
  where
    z : List ℕ
    z = replicate 7 0

    go : (t : Bool) → ltb (length bs) 8 ≡ t
        → ((u : List ℕ) → byte_len (length (drop 8 bs)) ≡ n → ((j : ℕ) → get_or u j 0 < 256) → suc k * 8 + length (drop 8 bs) ≤ length u * 8 → put_list u (suc k * 8) (drop 8 bs) ≡ sets u (suc k) (bytes_of n (drop 8 bs ++ replicate 7 0)))
        → put_list s (k * 8) bs ≡ sets s k (nat_from 0 (take 8 (bs ++ replicate 7 0)) ∷ bytes_of n (drop 8 (bs ++ replicate 7 0)))
    go true g ih =
        let l : length bs < 8 = ltb-true (length bs) 8 g in
        let m : ℕ = length bs - 1 in
        let lm : length bs ≡ suc m = omega arith in
        let o : n ≡ 0 = omega arith in
        let w : 8 - suc m ≡ 8 - length bs = omega arith in
        one_byte s k bs m lm (omega arith) f (omega arith) (b k)
        ∙ ap (set s k) (ap (λ (u : ℕ). nat_from 0 (bs ++ replicate u 0)) w ∙ sym (ap (nat_from 0) (take_padded bs 8 (omega arith) (omega arith))))
        ∙ ap (λ (u : ℕ). sets s k (nat_from 0 (take 8 (bs ++ replicate 7 0)) ∷ bytes_of u (drop 8 (bs ++ replicate 7 0)))) (sym o)
    go false g ih =
        let l : 8 ≤ length bs = ltb-false (length bs) 8 g in
        let l8 : length (take 8 bs) ≡ 8 = length-take-le 8 bs l in
        let y : ℕ = nat_from 0 (take 8 bs) in
        let p : k * 8 + length (take 8 bs) ≡ suc k * 8 = omega arith in
        let o : put_list s (k * 8) (take 8 bs) ≡ set s k y =
        one_byte s k (take 8 bs) 7 l8 (omega arith) (bits_take 8 bs f) (omega arith) (b k) ∙ ap (λ (u : List ℕ). set s k (nat_from 0 u)) (append-nil (take 8 bs)) in
        let yl : y < 256 = subst (λ (u : ℕ). y < 2 ^ u) l8 (from_lt (take 8 bs) (bits_take 8 bs f)) in
        let ld = length-drop 8 bs in
        ap (put_list s (k * 8)) (sym (take-append-drop 8 bs)) ∙ put_append s (k * 8) (take 8 bs) (drop 8 bs)
        ∙ ap₂ (λ (u : List ℕ) (q : ℕ). put_list u q (drop 8 bs)) o p
        ∙ ih (set s k y) (omega arith) (byte-set s k y b yl) (omega (arith, length-set s k y))
        ∙ ap₂ (λ (u v : List ℕ). sets (set s k (nat_from 0 u)) (suc k) (bytes_of n v)) (sym (take-append-le 8 bs (replicate 7 0) l)) (sym (drop-append-le 8 bs (replicate 7 0) l))

pub put_packed : (s : List ℕ) (k : ℕ) (bs : List ℕ) → AllBits bs → ((j : ℕ) → get_or s j 0 < 256) → k * 8 + length bs ≤ length s * 8
    → put_list s (k * 8) bs ≡ sets s k (packed bs)
unfolding packed
put_packed s k bs f b h = put_bytes (byte_len (length bs)) s k bs refl f b h
