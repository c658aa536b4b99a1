-- What our own functions promise each other. No public statement cites this file.
use Rattle.std.specs.Prelude.{ℕ, ◌+◌, ◌^◌, ◌<◌, ◌≡◌, List, ◌++◌, length, ℤ}
use Rattle.gorilla.specs.declared.Track.{Track}
use Rattle.bit_lists.specs.BitList.{nat_bits}
use Rattle.gorilla.specs.Format.{codes_bits}
use Rattle.code_writer.specs.declared.Held.{Held}

-- the codes of xs, after the value and the delta of t, are bs and then the codes of ys, after those of u
abbrev pub Leads : List ℤ → Track → List ℕ → List ℤ → Track → Type 0
Leads xs t bs ys u = codes_bits t.prev t.delta xs ≡ bs ++ codes_bits u.prev u.delta ys

-- a run: xs have seven values more than ys, and the codes of the seven are a zero bit each
abbrev pub Run : List ℤ → Track → List ℤ → Track → Type 0
Run xs t ys u = (length ys + 7 ≡ length xs) × Leads xs t (nat_bits 7 0) ys u

-- the bits that are held
abbrev pub held_bits : Held → List ℕ
held_bits h = nat_bits h.width h.value

-- no bit above them is set
abbrev pub Fits : Held → Type 0
Fits h = h.value < 2 ^ h.width
