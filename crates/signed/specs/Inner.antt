-- What our own functions promise each other. No public statement cites this file.
use Rattle.std.specs.Prelude.{ℕ, ◌%◌, ◌^◌, ℤ}
use Rattle.signed.specs.Signed.{pattern}

-- the low w bits of z
abbrev pub low_bits : ℕ → ℤ → ℕ
low_bits w z = pattern z % 2 ^ w
