-- What our own functions promise each other. No public statement cites this file.
use Rattle.std.specs.Prelude.{ℕ, ◌*◌, ◌≤◌, ◌≡◌, Bool, List, [], ◌∷◌, map, drop, length, Result, Ok, Err}
use Rattle.signed.specs.Signed.{pattern}
use Rattle.bit_lists.specs.BitList.{bits_of}
use Rattle.gorilla.specs.Parser.{Read, read, refused}
use Rattle.gorilla.specs.Reading.{Pairs, le_count, read_arrays, read_image}
use Rattle.code_reader.specs.Refusal.{told}
use Rattle.array_reader.specs.Inner.{values_of, passed_at, Agrees}
use Rattle.image_reader.specs.declared.image.Parts.{Parts}
use Rattle.code_reader.specs.declared.Refusal.{Refusal}

-- the pairs whose parts stand in the bytes xs
abbrev pub pairs_at : List ℕ → Parts → Pairs
pairs_at xs p = record { seqs = map pattern (values_of xs 0 p.seqs); secs = values_of xs 1 p.secs }

abbrev pub told_image : List ℕ → Result Parts Refusal → Read Pairs
told_image xs (Ok p) = read (pairs_at xs p) (drop (p.secs.end * 8) (bits_of xs))
told_image xs (Err r) = refused (told r)

-- what was found is there to be filled in
abbrev pub PassedImage : List ℕ → ℕ → Result Parts Refusal → Type 0
PassedImage xs max (Ok p) =
    passed_at xs 0 p.seqs.count p.seqs.at × passed_at xs 1 p.secs.count p.secs.at × (p.seqs.count ≡ p.secs.count) × (p.secs.count ≤ max) × (p.secs.end ≤ length xs)
PassedImage xs max (Err r) = Unit {0}

-- n is the count in the header of the bytes xs
abbrev pub HeaderCount : List ℕ → ℕ → Type 0
HeaderCount xs n = le_count (3 ∷ []) (drop 8 (bits_of xs)) ≡ read n (drop 40 (bits_of xs))

-- both arrays after the header, of at most max values and of the count n that it says
abbrev pub ReadsArrays : List ℕ → ℕ → ℕ → Result Parts Refusal → Type 0
ReadsArrays xs max n r = ((room : ℕ → Bool) → Agrees max room → told_image xs r ≡ read_arrays (length xs * 8) room n (drop 40 (bits_of xs))) × PassedImage xs max r

-- an image of at most max pairs
abbrev pub ReadsImage : List ℕ → ℕ → Result Parts Refusal → Type 0
ReadsImage xs max r = ((room : ℕ → Bool) → Agrees max room → told_image xs r ≡ read_image room xs) × PassedImage xs max r
