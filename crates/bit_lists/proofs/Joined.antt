-- Bits put by positions: bytes stay bytes, only the low bits count, and two writes in a row are one. Assumes nothing.
use Prim.Native.Nat.{ℕ, zero, suc, ◌+◌, ◌-◌, ◌*◌, ◌/◌, ◌%◌, ◌^◌, ◌<◌}
use mathlib.Core.Path.{◌≡◌, subst, refl, sym, ap, ap₂, ◌∙◌}
use mathlib.Core.List.{List}
use native.Mathlib.Nat.{zero-lt-suc, mod-lt}
use native.Mathlib.Numerals.{add-one}
use native.Mathlib.Omega.{arith}
use lib.ListN.{get_or}
use lib.Pow.{pow_pos, field, mod-mod-pow}
use lib.Arith.{digits_div, digits_mod}
use Rattle.raw_bits.specs.Inner.{put_bit, put_bits}
use Rattle.raw_bits.proofs.Bits.{merge_lt, put_bits-add, byte-set}

one_byte : (x r c : ℕ) → x < 256 → r < 8 → c < 2 → x / 2 ^ (8 - r) * 2 ^ (8 - r) + c * 2 ^ (7 - r) < 256
one_byte x r c hx hr hc =
    let e : 8 - (r + 1) ≡ 7 - r = omega arith in
    subst (λ (u : ℕ). x / 2 ^ (8 - r) * 2 ^ (8 - r) + c * 2 ^ u < 256) e (merge_lt x r 1 c hx (omega arith) hc)

-- bytes stay bytes
pub bytes : (s : List ℕ) (p v n : ℕ) → ((j : ℕ) → get_or s j 0 < 256) → (j : ℕ) → get_or (put_bits s p v n) j 0 < 256
unfolding put_bits put_bit
bytes s p v zero b j = b j
bytes s p v (suc n) b j = byte-set (put_bits s p (v / 2) n) ((p + n) / 8) _ (bytes s p (v / 2) n b)
    (one_byte (get_or (put_bits s p (v / 2) n) ((p + n) / 8) 0) ((p + n) % 8) (v % 2) (bytes s p (v / 2) n b ((p + n) / 8)) (omega arith) (mod-lt v (zero-lt-suc 1))) j

-- only the low bits count
put_bits-mod : (s : List ℕ) (p v n : ℕ) → put_bits s p (v % 2 ^ n) n ≡ put_bits s p v n
unfolding put_bits
put_bits-mod s p v zero = refl
put_bits-mod s p v (suc n) =
    let e : v % 2 ^ suc n ≡ v % 2 ^ (n + 1) = ap (λ (u : ℕ). v % 2 ^ u) (sym (add-one n)) in
    ap₂ (λ (l : List ℕ) (c : ℕ). put_bit l (p + n) c)
    (ap (λ (u : ℕ). put_bits s p u n) (ap (λ (u : ℕ). u / 2) e ∙ field v n 1) ∙ put_bits-mod s p (v / 2) n)
    (ap (λ (u : ℕ). u % 2) e ∙ mod-mod-pow v n 1)

-- two writes in a row are one
pub put_bits_join : (s : List ℕ) (p x a v b : ℕ) → put_bits (put_bits s p x a) (p + a) v b ≡ put_bits s p (x * 2 ^ b + v % 2 ^ b) (a + b)
put_bits_join s p x a v b =
    let l : v % 2 ^ b < 2 ^ b = mod-lt v (pow_pos b) in
    sym (put_bits-mod (put_bits s p x a) (p + a) v b)
    ∙ ap (λ (u : ℕ). put_bits (put_bits s p x a) (p + a) u b) (sym (digits_mod x l))
    ∙ put_bits-mod (put_bits s p x a) (p + a) (x * 2 ^ b + v % 2 ^ b) b
    ∙ ap (λ (u : ℕ). put_bits (put_bits s p u a) (p + a) (x * 2 ^ b + v % 2 ^ b) b) (sym (digits_div x l))
    ∙ sym (put_bits-add s p (x * 2 ^ b + v % 2 ^ b) a b)
