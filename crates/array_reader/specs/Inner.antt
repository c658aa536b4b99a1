-- What our own functions promise each other. No public statement cites this file.
use Rattle.std.specs.Prelude.{ℕ, zero, suc, ◌-◌, ◌*◌, ◌^◌, ◌≤◌, ◌<◌, ◌≡◌, Bool, true, List, [], ◌∷◌, leb, ℤ, pos, drop, length, Result, Ok, Err}
use Rattle.bits.specs.declared.Place.{Place}
use Rattle.gorilla.specs.Array.{array_no}
use Rattle.gorilla.specs.declared.Array.{Array}
use Rattle.bit_lists.specs.BitList.{bits_of}
use Rattle.gorilla.specs.Inner.{shape, is_read}
use Rattle.gorilla.specs.Parser.{Read, read, refused, and_then, ◌>>◌, give, align, read_or}
use Rattle.bits.specs.Inner.{bits_from}
use Rattle.gorilla.specs.Reading.{read_codes, read_values, read_array, values_after}
use Rattle.code_reader.specs.Refusal.{told}
use Rattle.code_reader.specs.declared.Refusal.{Refusal}
use Rattle.array_reader.specs.declared.array.Stretch.{Stretch}

-- ---- answers as what a reader gives, in the bytes xs
abbrev pub told_scan : List ℕ → Result Place Refusal → Read (Unit {0})
told_scan xs (Ok q) = read tt (bits_from xs q)
told_scan xs (Err r) = refused (told r)

-- the codes of n values of array a from a place on: where they end, or which is cut off
abbrev pub Scans : List ℕ → Place → ℕ → Array → Result Place Refusal → Type 0
Scans xs at n a r = told_scan xs r ≡ shape (read_codes (length xs * 8) (array_no a) (n - 1) 1 (bits_from xs at))

-- the values of array a: n of them, the first f, and the codes of the others at q
unfoldable pub array_at : List ℕ → ℕ → ℕ → ℤ → Place → List ℤ
array_at xs a zero f q = []
array_at xs a (suc k) f q = f ∷ values_after f (pos 0) (read_or [] (read_codes (length xs * 8) a k 1 (bits_from xs q)))

-- those of an array that was found
abbrev pub values_of : List ℕ → ℕ → Stretch → List ℤ
values_of xs a f = array_at xs a f.count f.first f.at

abbrev pub told_array : List ℕ → Array → Result Stretch Refusal → Read (List ℤ)
told_array xs a (Ok f) = read (values_of xs (array_no a) f) (drop (f.end * 8) (bits_of xs))
told_array xs a (Err r) = refused (told r)

-- what was read, and the next whole byte
abbrev pub aligned : {A : Type 0} → Read A → Read A
aligned r = and_then r (λ x. ◌>>◌ align (give x))

-- ---- what was found is there to be filled in
-- the codes of n values are all there, in bytes that a window can be made of
unfoldable pub passed_at : List ℕ → ℕ → ℕ → Place → Type 0
passed_at xs a zero q = Unit {0}
passed_at xs a (suc k) q = (8 ≤ length xs) × (is_read (read_codes (length xs * 8) a k 1 (bits_from xs q)) ≡ true)

abbrev pub PassedArray : List ℕ → Array → Result Stretch Refusal → Type 0
PassedArray xs a (Ok f) = passed_at xs (array_no a) f.count f.at × (f.end ≤ length xs)
PassedArray xs a (Err r) = Unit {0}

-- the n values of array a from a place on
abbrev pub ReadsValues : List ℕ → Place → ℕ → Array → Result Stretch Refusal → Type 0
ReadsValues xs at n a r = (told_array xs a r ≡ aligned (read_values (length xs * 8) (array_no a) n (bits_from xs at))) × PassedArray xs a r

-- a count of 32 bits finds room that is not above max
abbrev pub Agrees : ℕ → (ℕ → Bool) → Type 0
Agrees max room = (n : ℕ) → n < 2 ^ 32 → room n ≡ leb n max

-- array a from a byte on, of at most max values
abbrev pub ReadsArray : List ℕ → ℕ → ℕ → Array → Result Stretch Refusal → Type 0
ReadsArray xs from max a r =
    ((room : ℕ → Bool) → Agrees max room → told_array xs a r ≡ aligned (read_array (length xs * 8) (array_no a) room (drop (from * 8) (bits_of xs)))) × PassedArray xs a r
