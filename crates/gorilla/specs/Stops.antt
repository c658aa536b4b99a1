-- Where an input stops: what it has from the place on that refusals 4 to 8 tell, that the missing item begins there, and that an image which is cut off is refused.
use Rattle.std.specs.Prelude.{ℕ, zero, suc, ◌+◌, ◌-◌, ◌*◌, ◌/◌, ◌≤◌, ◌<◌, ◌≡◌, Bool, List, [], ◌∷◌, ◌++◌, length, get_or, take, drop, replicate}
use Rattle.bits.specs.declared.Place.{Place}
use Rattle.bit_lists.specs.BitList.{bits_of}
use Rattle.gorilla.specs.Rows.{widths}
use Rattle.gorilla.specs.Parser.{read, refused, Reader, ◌>>=◌, ◌>>◌, give, take_bits, with, item}
use Rattle.gorilla.specs.Reading.{read_values, le_count, read_part, Pairs, read_image}

-- the refusals that tell a place: 4 to 8
abbrev pub TellsPlace : List ℕ → Type 0
TellsPlace l = (4 ≤ get_or l 0 0) × (get_or l 0 0 ≤ 8)

-- the place lies within the input, or at its end
abbrev pub PlaceIn : List ℕ → Place → Type 0
PlaceIn bytes at = (at.bit < 8) × (at.byte * 8 + at.bit ≤ length bytes * 8)

-- the bits of the input from the place on
abbrev pub bits_on : List ℕ → Place → List ℕ
bits_on bytes at = drop (at.byte * 8 + at.bit) (bits_of bytes)

-- the prefix of n ones: a zero after them, or four ones
abbrev pub prefix_of : ℕ → List ℕ
prefix_of n = take 4 (replicate n 1 ++ (0 ∷ []))

-- what an input that is refused with l, one of 4 to 8, has from the place on that l tells
pub data Stop (bytes l : List ℕ) : Type 0 where
  -- too few bits for a count
  count : (a : ℕ) (at : Place) → l ≡ with (4 ∷ a ∷ []) at → PlaceIn bytes at → length (bits_on bytes at) < 32 → Stop bytes l
  -- too few for a first value
  first : (a : ℕ) (at : Place) → l ≡ with (5 ∷ a ∷ []) at → PlaceIn bytes at → length (bits_on bytes at) < 64 → Stop bytes l
  -- none
  code : (a i : ℕ) (at : Place) → l ≡ with (6 ∷ a ∷ i ∷ []) at → PlaceIn bytes at → bits_on bytes at ≡ [] → Stop bytes l
  -- one to three ones
  prefix : (a i k : ℕ) (at : Place) → l ≡ with (7 ∷ a ∷ i ∷ []) at → PlaceIn bytes at → 1 ≤ k → k ≤ 3 → bits_on bytes at ≡ replicate k 1 → Stop bytes l
  -- a prefix, and with it fewer bits than it and its width have together
  difference : (a i n : ℕ) (at : Place) (rest : List ℕ) → l ≡ with (8 ∷ a ∷ i ∷ get_or widths n 0 ∷ []) at → PlaceIn bytes at → n ≤ 4
      → bits_on bytes at ≡ prefix_of n ++ rest → length (bits_on bytes at) < length (prefix_of n) + get_or widths n 0 → Stop bytes l

-- so of any input, whoever wrote it
abbrev pub StopsThere : Type 0
StopsThere = (room : ℕ → Bool) (bytes l : List ℕ) → read_image room bytes ≡ refused l → TellsPlace l → Stop bytes l

-- what stands before array a of an image whose header says n: before the sequences nothing, before the seconds the sequences with their padding
abbrev pub before_array : ℕ → (ℕ → Bool) → ℕ → ℕ → Reader (Unit {0})
before_array all room zero n = give tt
before_array all room (suc a) n = do
  read_part all 0 room n
  give tt

-- what stands before the count of array a, as `read_pairs` reads it: the header, and what stands before the array
unfoldable pub before_count : ℕ → (ℕ → Bool) → ℕ → Reader (Unit {0})
before_count all room a = do
  take_bits 8 (1 ∷ [])
  n ← le_count (3 ∷ [])
  before_array all room a n

-- before its first value: that, and the count
unfoldable pub before_first : ℕ → (ℕ → Bool) → ℕ → Reader (Unit {0})
before_first all room a = do
  before_count all room a
  item all (take_bits 32 (4 ∷ a ∷ []))
  give tt

-- before its code of index i: that, and the i values before
unfoldable pub before_code : ℕ → (ℕ → Bool) → ℕ → ℕ → Reader (Unit {0})
before_code all room a i = do
  before_first all room a
  read_values all a i
  give tt

-- an input that is refused with l, one of 4 to 8: the item that is missing begins at the place that l tells, as what stands before it is read, and what is left then is the bits from the place on
pub data Begins (room : ℕ → Bool) (bytes l : List ℕ) : Type 0 where
  count : (a : ℕ) (at : Place) → l ≡ with (4 ∷ a ∷ []) at → PlaceIn bytes at → before_count (length bytes * 8) room a (bits_of bytes) ≡ read tt (bits_on bytes at) → Begins room bytes l
  first : (a : ℕ) (at : Place) → l ≡ with (5 ∷ a ∷ []) at → PlaceIn bytes at → before_first (length bytes * 8) room a (bits_of bytes) ≡ read tt (bits_on bytes at) → Begins room bytes l
  code : (number a i : ℕ) (more : List ℕ) (at : Place) → l ≡ with (number ∷ a ∷ i ∷ more) at → 6 ≤ number → PlaceIn bytes at
      → before_code (length bytes * 8) room a i (bits_of bytes) ≡ read tt (bits_on bytes at) → Begins room bytes l

-- so of any input, whoever wrote it
abbrev pub BeginsThere : Type 0
BeginsThere = (room : ℕ → Bool) (bytes l : List ℕ) → read_image room bytes ≡ refused l → TellsPlace l → Begins room bytes l

-- and at no other place: from no two places on are the same bits left
abbrev pub OnePlace : Type 0
OnePlace = (bytes : List ℕ) (at other : Place) → PlaceIn bytes at → PlaceIn bytes other → bits_on bytes at ≡ bits_on bytes other → at ≡ other

-- an input that ends before its image does: with no byte it is refused by 1, with one to four by 3, and with more by one of 4 to 8, with the place where it stops
pub record CutOff (bytes : List ℕ) (Refused : List ℕ → Type 0) : Type 0 where
  pub empty : length bytes ≡ 0 → Refused (1 ∷ [])
  pub header : 1 ≤ length bytes → length bytes ≤ 4 → Refused (3 ∷ [])
  pub arrays : 5 ≤ length bytes → (l : List ℕ) × Refused l × Stop bytes l

-- so of any accepted input, cut after k bytes, where its image has more
abbrev pub CutRefused : Type 0
CutRefused = (room : ℕ → Bool) (bytes left : List ℕ) (p : Pairs) (k : ℕ)
    → read_image room bytes ≡ read p left → k < length bytes - length left / 8 → CutOff (take k bytes) (λ l. read_image room (take k bytes) ≡ refused l)
