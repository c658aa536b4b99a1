-- The list reader, an image's length, and what follows it (docs/RULES.md, "The image"): the numbers of their refusals, and the rules.
use Rattle.std.specs.Prelude.{ℕ, ◌+◌, ◌-◌, ◌/◌, min, ◌≡◌, true, List, leb, length, drop, ℤ, Result}
use Rattle.told.specs.Over.{filled}
use Rattle.told.specs.Told.{Told, gave, refused, told_by}
use Rattle.gorilla.specs.Parser.{Read, read}
use Rattle.gorilla.specs.Parser as parser
use Rattle.gorilla.specs.Reading.{Pairs, read_image, pairs_read}
use Rattle.code_reader.specs.Refusal.{told}
use Rattle.code_reader.specs.declared.Refusal.{Refusal}

-- ---- the list reader
abbrev pub told_decode : Result ℕ Refusal → Told ℕ
told_decode = told_by told

-- what it reads: a count finds room that is not above the shorter lent array
unfoldable pub listed : List ℕ → List ℕ → List ℤ → Read Pairs
listed bytes seqs secs = read_image (λ n. leb n (min (length seqs) (length secs))) bytes

-- its answer: the pair count, or the refusal
abbrev pub count_of : Read Pairs → Told ℕ
count_of (read p left) = gave (length p.secs)
count_of (parser.refused r) = refused r

abbrev pub decode_rule : List ℕ → List ℕ → List ℤ → Told ℕ
decode_rule bytes seqs secs = count_of (listed bytes seqs secs)

-- the lent arrays after it: the values, and from the count on what stood there; refused, all of it
abbrev pub seqs_after : List ℕ → List ℕ → List ℤ → List ℕ
seqs_after bytes seqs secs = filled (decode_rule bytes seqs secs) (pairs_read (listed bytes seqs secs)).seqs seqs

abbrev pub secs_after : List ℕ → List ℕ → List ℤ → List ℤ
secs_after bytes seqs secs = filled (decode_rule bytes seqs secs) (pairs_read (listed bytes seqs secs)).secs secs

-- `decode`: its answer, and both arrays afterwards
abbrev pub Decodes : List ℕ → List ℕ → List ℤ → Result ℕ Refusal → List ℕ → List ℤ → Type 0
Decodes bytes seqs secs r seqs' secs' = (told_decode r ≡ decode_rule bytes seqs secs) × (seqs' ≡ seqs_after bytes seqs secs) × (secs' ≡ secs_after bytes seqs secs)

-- ---- an image's length
abbrev pub told_image_len : Result ℕ Refusal → Told ℕ
told_image_len = told_by told

-- the bytes, less those that are left; `left` is their bits
abbrev pub image_len_of : List ℕ → Read Pairs → Told ℕ
image_len_of bytes (read p left) = gave (length bytes - length left / 8)
image_len_of bytes (parser.refused r) = refused r

-- no array is lent, so every count finds room
unfoldable pub image_len_rule : List ℕ → Told ℕ
image_len_rule bytes = image_len_of bytes (read_image (λ n. true) bytes)

-- ---- what follows it
abbrev pub start_of : List ℕ → Told ℕ → ℕ
start_of bytes (gave n) = n
start_of bytes (refused r) = length bytes

-- where the part that follows starts: after the image's length; refused, at the input's end
abbrev pub rest_from : List ℕ → ℕ
rest_from bytes = start_of bytes (image_len_rule bytes)

-- the bytes from there on
abbrev pub rest_rule : List ℕ → List ℕ
rest_rule bytes = drop (rest_from bytes) bytes

-- an address, n bytes on: the same piece of memory, n bytes further
abbrev pub onwards : ℕ × ℕ → ℕ → ℕ × ℕ
onwards address n = (address.0, address.1 + n)
