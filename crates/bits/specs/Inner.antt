-- What our own functions promise each other. No public statement cites this file.
use Rattle.std.specs.Prelude.{ℕ, ◌+◌, ◌*◌, ◌<◌, ◌≤◌, ◌≡◌, List, length, drop}
use Rattle.bit_lists.specs.BitList.{bits_of}
use Rattle.bits.specs.Place.{pos_of}
use Rattle.bits.specs.declared.Place.{Place}

-- r is the place `at`, or the end of len bytes where that counts as the end
pub record Settled (len : ℕ) (at r : Place) : Type 0 where
  pub low : r.bit < 8
  pub within : r.byte * 8 + r.bit ≤ len * 8
  pub pos : r.byte * 8 + r.bit ≡ pos_of len at

-- the bits of a slice from a place on
unfoldable pub bits_from : List ℕ → Place → List ℕ
bits_from s at = drop (pos_of (length s) at) (bits_of s)
