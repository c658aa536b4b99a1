-- An image with any bytes after it: one that was written, and any that is accepted.
use Rattle.std.specs.Prelude.{ℕ, ◌≤◌, min, ◌≡◌, ◌↔◌, List, ◌++◌, length, ℤ}
use Rattle.told.specs.Over.{over}
use Rattle.told.specs.Told.{gave}
use Rattle.gorilla.specs.Format.{image_bytes}
use Rattle.gorilla.specs.Reading.{Pairs}
use Rattle.gorilla.specs.RoundTrip.{Fit}
use Rattle.gorilla.specs.Wide.{wide_of}
use Rattle.decoder.specs.Decode.{decode_rule, seqs_after, secs_after, image_len_rule, rest_rule}

-- the bytes of pairs' image, and those after it
abbrev pub image_then : Pairs → List ℕ → List ℕ
image_then p following = image_bytes p.seqs p.secs ++ following

-- the image's length is its own, and the rest is the bytes after it
abbrev pub RestFollows : Type 0
RestFollows = (p : Pairs) (following : List ℕ) → Fit p
    → (image_len_rule (image_then p following) ≡ gave (length (image_bytes p.seqs p.secs))) × (rest_rule (image_then p following) ≡ following)

-- decoded into arrays that have room, it gives its count; and the arrays then hold the pairs exactly where every difference of deltas lies in -2^31..2^31-1
abbrev pub DecodesBack : Type 0
DecodesBack = (p : Pairs) (following seqs : List ℕ) (secs : List ℤ) → Fit p → length p.seqs ≤ min (length seqs) (length secs)
    → (decode_rule (image_then p following) seqs secs ≡ gave (length p.seqs))
    × ((wide_of p.seqs p.secs ≡ gave tt)
    ↔ ((seqs_after (image_then p following) seqs secs ≡ over p.seqs seqs) × (secs_after (image_then p following) seqs secs ≡ over p.secs secs)))

-- Of any accepted input, whoever wrote it: bytes after it change neither the count nor the arrays, and neither the image's length nor what follows it, but for themselves.
abbrev pub CallsIgnoreFollowing : Type 0
CallsIgnoreFollowing = (bytes following seqs : List ℕ) (secs : List ℤ) (n : ℕ)
    → (decode_rule bytes seqs secs ≡ gave n
    → (decode_rule (bytes ++ following) seqs secs ≡ gave n)
    × (seqs_after (bytes ++ following) seqs secs ≡ seqs_after bytes seqs secs)
    × (secs_after (bytes ++ following) seqs secs ≡ secs_after bytes seqs secs))
    × (image_len_rule bytes ≡ gave n → (image_len_rule (bytes ++ following) ≡ gave n) × (rest_rule (bytes ++ following) ≡ rest_rule bytes ++ following))
