-- A place in bytes, and the number of bits before it.
use Rattle.std.specs.Prelude.{ℕ, ◌+◌, ◌-◌, ◌*◌, ◌/◌, ◌%◌, cond, ltb}
use Rattle.bits.specs.declared.Place.{Place}

-- the bits before a place in len bytes: one past the end, or with a bit above 7, counts as the end
unfoldable pub pos_of : ℕ → Place → ℕ
pos_of len at = cond (ltb at.byte len) (cond (ltb at.bit 8) (at.byte * 8 + at.bit) (len * 8)) (len * 8)

-- the bits from a place on that are left in len bytes
abbrev pub left_at : ℕ → Place → ℕ
left_at len at = len * 8 - pos_of len at

-- the place with p bits before it
abbrev pub place_of : ℕ → Place
place_of p = record { byte = p / 8; bit = p % 8 }
