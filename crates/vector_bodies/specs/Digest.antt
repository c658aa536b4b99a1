-- The digest of compare/FORMAT.md.
use Rattle.std.specs.Prelude.{ℕ, ◌*◌, ◌/◌, ◌%◌, ◌^◌, bit_xor}

-- A step of xorshift on 64 bits, in its three parts.
abbrev pub left : ℕ → ℕ → ℕ
left x k = bit_xor x ((x * 2 ^ k) % 2 ^ 64)

abbrev pub right : ℕ → ℕ → ℕ
right x k = bit_xor x (x / 2 ^ k)

abbrev pub mix : ℕ → ℕ
mix x = left (right (left x 13) 7) 17
