-- What our own functions promise each other. No public statement cites this file.
use Rattle.std.specs.Prelude.{ℕ, ◌+◌, ◌/◌, cond, ltb}

-- how many elements stay of n and one more
abbrev pub count_with : ℕ → ℕ → ℕ
count_with capacity n = cond (ltb n capacity) (n + 1) (n / 2 + 1)
