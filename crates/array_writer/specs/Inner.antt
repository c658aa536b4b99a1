-- What our own functions promise each other. No public statement cites this file.
use Rattle.std.specs.Prelude.{ℕ, ◌+◌, ◌*◌, ◌≤◌, ◌<◌, ◌≡◌, List, length, ℤ, pos}
use Rattle.std.proofs.lemmas.List.Edits.{sets}
use Rattle.bits.specs.Place.{place_of}
use Rattle.bits.specs.declared.Place.{Place}
use Rattle.raw_bits.specs.Inner.{put_list}
use Rattle.gorilla.specs.Format.{codes_bits, array_bytes}

-- the codes of xs, which follow an array's first value x, find room in buf from a place on
abbrev pub CodesFit : List ℕ → Place → ℤ → List ℤ → Type 0
CodesFit buf at x xs = (at.bit < 8) × (at.byte * 8 + at.bit + length (codes_bits x (pos 0) xs) ≤ length buf * 8)

-- buf with those codes from a place on is `now`, and the place after them is p
abbrev pub CodesPut : List ℕ → Place → ℤ → List ℤ → Place → List ℕ → Type 0
CodesPut buf at x xs p now =
    (p ≡ place_of (at.byte * 8 + at.bit + length (codes_bits x (pos 0) xs))) × (now ≡ put_list buf (at.byte * 8 + at.bit) (codes_bits x (pos 0) xs))

-- buf with the array xs from a byte on is `now`, and the byte after it is `end`
abbrev pub ArrayPut : List ℕ → ℕ → List ℤ → ℕ → List ℕ → Type 0
ArrayPut buf from xs end now = (end ≡ from + length (array_bytes xs)) × (now ≡ sets buf from (array_bytes xs))
