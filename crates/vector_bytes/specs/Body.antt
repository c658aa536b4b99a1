-- How a body is read.
use Rattle.std.specs.Prelude.{ℕ, ◌-◌, List, [], ◌++◌, length, take, replicate, cond, nat_le, slice_index}

-- The first n bytes; past the end stand zeros.
abbrev pub padded : ℕ → List ℕ → List ℕ
padded n bytes = take n bytes ++ replicate (n - length bytes) 0

-- The first n bytes, or none where there are not so many.
abbrev pub part : ℕ → List ℕ → List ℕ
part n bytes = cond (nat_le n (length bytes)) (take n bytes) []

abbrev pub first_byte : List ℕ → ℕ
first_byte bytes = slice_index bytes 0
