-- What our own functions promise each other. No public statement cites this file.
use Rattle.std.specs.Prelude.{ℕ, ◌+◌, ◌-◌, ◌*◌, ◌/◌, ◌^◌, ◌≤◌, ◌<◌, min, ◌≡◌, List, [], ◌∷◌, length, drop, ℤ, Result, Ok, Err}
use Rattle.raw_bits.specs.Inner.{bit_at, bits_at}
use Rattle.bit_lists.specs.BitList.{bits_of}
use Rattle.bits.specs.Place.{place_of}
use Rattle.gorilla.specs.Parser.{Read, read, refused, with}
use Rattle.gorilla.specs.Reading.{count_ones, read_code}
use Rattle.code_reader.specs.declared.missing.Missing.{Missing}
use Rattle.code_reader.specs.declared.missing.Missing.TheVariants as m
use Rattle.code_reader.specs.declared.missing.Cut.{Cut}
use Rattle.code_reader.specs.declared.window.Window.{Window}
use Rattle.code_reader.specs.declared.code.Code.{Code}

-- w has bits of the bytes xs from bit q on: as many as a code may have, or all that are left
pub record Holds (xs : List ℕ) (q : ℕ) (w : Window) : Type 0 where
  pub within : q + w.have ≤ length xs * 8
  pub most : w.have ≤ 64
  pub value : (k : ℕ) → k ≤ w.have → w.bits / 2 ^ (64 - k) ≡ bits_at xs q k
  pub last : w.have < 36 → q + w.have ≡ length xs * 8

-- the first n bits of w are zeros
abbrev pub Zeros : Window → ℕ → ℕ → Type 0
Zeros w max n = (n ≤ max) × (n ≤ w.have) × ((xs : List ℕ) (q : ℕ) → Holds xs q w → (j : ℕ) → j < n → bit_at xs (q + j) ≡ 0)

-- what is missing of the code of index i of array a, as its refusal tells it, without the place
abbrev pub missed : ℕ → ℕ → Missing → List ℕ
missed a i m.Code = 6 ∷ a ∷ i ∷ []
missed a i m.Prefix = 7 ∷ a ∷ i ∷ []
missed a i (m.Diff width) = 8 ∷ a ∷ i ∷ width ∷ []

-- ---- answers as what a reader gives, of the bytes xs from bit q on, for index i of array a
abbrev pub told_prefix : List ℕ → ℕ → ℕ → ℕ → Result ℕ Cut → Read ℕ
told_prefix xs q a i (Ok n) = read n (drop (q + min (n + 1) 4) (bits_of xs))
told_prefix xs q a i (Err cut) = refused (missed a i cut.missing)

abbrev pub told_code : List ℕ → ℕ → ℕ → ℕ → Result Code Cut → Read ℤ
told_code xs q a i (Ok code) = read code.diff (drop (q + code.bits) (bits_of xs))
told_code xs q a i (Err cut) = refused (with (missed a i cut.missing) (place_of (length xs * 8 - cut.left)))

-- a prefix has at most four ones, and its bits are bits of w; where one is cut off, w has fewer than four, and they are what is left
abbrev pub WithinPrefix : Window → Result ℕ Cut → Type 0
WithinPrefix w (Ok n) = (n ≤ 4) × (min (n + 1) 4 ≤ w.have)
WithinPrefix w (Err cut) = (w.have < 4) × (cut.left ≡ w.have)

-- a code has bits, and they are bits of w, as are those that are left where one is cut off
abbrev pub WithinCode : Window → Result Code Cut → Type 0
WithinCode w (Ok code) = (0 < code.bits) × (code.bits ≤ w.have)
WithinCode w (Err cut) = cut.left ≤ w.have

-- r is the prefix, whatever bytes w has bits of, and of whatever index
abbrev pub ReadsPrefix : Window → Result ℕ Cut → Type 0
ReadsPrefix w r = WithinPrefix w r × ((xs : List ℕ) (q a i : ℕ) → Holds xs q w → told_prefix xs q a i r ≡ count_ones a i 4 0 (drop q (bits_of xs)))

-- r is its code
abbrev pub ReadsCode : Window → Result Code Cut → Type 0
ReadsCode w r = WithinCode w r × ((xs : List ℕ) (q a i : ℕ) → Holds xs q w → told_code xs q a i r ≡ read_code (length xs * 8) a i (drop q (bits_of xs)))
