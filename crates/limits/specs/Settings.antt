-- What settings are valid, and the room that they need.
use Rattle.std.specs.Prelude.{ℕ, Bool, cond, ◌||◌, ltb, eqb}

-- capacity above 8,192 or interval above 2^63-1
abbrev pub bad_settings : ℕ → ℕ → Bool
bad_settings capacity interval = ltb 8192 capacity || ltb 9223372036854775807 interval

-- room needed: the capacity, but at least 1
abbrev pub room_of : ℕ → ℕ
room_of capacity = cond (eqb capacity 0) 1 capacity
