-- What our own functions promise each other. No public statement cites this file.
use Rattle.std.specs.Prelude.{Bool, true, false, ℤ}
use Rattle.signed.specs.Signed.{sub_s, add_s}
use Rattle.gorilla.specs.Parser.{Read, read, refused}
use Rattle.gorilla.specs.declared.Track.{Track}
use Rattle.gorilla.specs.declared.Coded.{Coded}

-- ---- from value to value: all differences wrap at 64 bits

-- the difference of deltas at x, and x with the delta that led to it
abbrev pub advanced : Track → ℤ → Coded
advanced t x = record { dod = sub_s (sub_s x t.prev) t.delta; next = record { prev = x; delta = sub_s x t.prev } }

-- the value that a difference of deltas leads to, and its delta
abbrev pub followed : Track → ℤ → Track
followed t d = record { prev = add_s t.prev (add_s t.delta d); delta = add_s t.delta d }

-- ---- reading

-- whether it was read, with no value
abbrev pub shape : {A : Type 0} → Read A → Read (Unit {0})
shape (read x bs) = read tt bs
shape (refused l) = refused l

abbrev pub is_read : {A : Type 0} → Read A → Bool
is_read (read x bs) = true
is_read (refused l) = false
