-- Two's complement: a pattern is a number of 64 bits, below 2^64. `signed` reads one as a signed number, `pattern` is the
-- pattern of a signed number, and differences and sums are those of the patterns, modulo 2^64.
use Rattle.std.specs.Prelude.{ℕ, suc, ◌+◌, ◌-◌, ◌%◌, ◌^◌, ℤ, pos, negsuc, nat_lt}
use Rattle.std.specs.Int.{w64}
use mir.Val.{sel, of_z}

-- w bits m as a signed number: m as it stands, less 2^w where the top one of the w bits is set; `negsuc n` is -(n + 1)
abbrev pub signed_of : ℕ → ℕ → ℤ
signed_of w m = sel (nat_lt m (2 ^ (w - 1))) (pos m) (negsuc (2 ^ w - suc m))

abbrev pub signed : ℕ → ℤ
signed u = signed_of 64 u

-- the 64 bits of z: n for n, 2^64 - n for -n
abbrev pub pattern : ℤ → ℕ
pattern z = of_z w64 z

-- a - b and a + b of patterns, wrapping at 64 bits
abbrev pub sub_w : ℕ → ℕ → ℕ
sub_w a b = (a + (2 ^ 64 - b)) % 2 ^ 64

abbrev pub add_w : ℕ → ℕ → ℕ
add_w a b = (a + b) % 2 ^ 64

-- the same of signed numbers
abbrev pub sub_s : ℤ → ℤ → ℤ
sub_s a b = signed (sub_w (pattern a) (pattern b))

abbrev pub add_s : ℤ → ℤ → ℤ
add_s a b = signed (add_w (pattern a) (pattern b))
