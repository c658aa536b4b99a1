-- Bits of bytes by their positions, as our own functions move them: bit p is bit 7 - p % 8 of byte p / 8. No public statement cites
-- this file: crates/bit_lists/proofs/Written.antt says the same by lists of bits.
use Rattle.std.specs.Prelude.{ℕ, zero, suc, ◌+◌, ◌-◌, ◌*◌, ◌/◌, ◌%◌, ◌^◌, List, [], ◌∷◌, get_or, set}

-- the bit at p
unfoldable pub bit_at : List ℕ → ℕ → ℕ
bit_at s p = get_or s (p / 8) 0 / 2 ^ (7 - p % 8) % 2

-- the number that the n bits from p on are
unfoldable pub bits_at : List ℕ → ℕ → ℕ → ℕ
bits_at s p zero = 0
bits_at s p (suc n) = bits_at s p n * 2 + bit_at s (p + n)

-- the bit b at p: the bits before it in its byte stay, and those after it become 0
unfoldable pub put_bit : List ℕ → ℕ → ℕ → List ℕ
put_bit s p b = set s (p / 8) (get_or s (p / 8) 0 / 2 ^ (8 - p % 8) * 2 ^ (8 - p % 8) + b * 2 ^ (7 - p % 8))

-- the n low bits of v from p on, one after the other
unfoldable pub put_bits : List ℕ → ℕ → ℕ → ℕ → List ℕ
put_bits s p v zero = s
put_bits s p v (suc n) = put_bit (put_bits s p (v / 2) n) (p + n) (v % 2)

-- bits put one after the other, from bit p of s on
unfoldable pub put_list : List ℕ → ℕ → List ℕ → List ℕ
put_list s p [] = s
put_list s p (b ∷ bs) = put_list (put_bit s p b) (p + 1) bs
