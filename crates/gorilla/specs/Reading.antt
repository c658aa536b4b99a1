-- How an array and an image are read (docs/RULES.md, "One array", "The image"), with the refusals where they arise. Array 0 is the sequences, and array 1 the seconds;
-- `all` is the number of bits of the whole input, by which an item that is not all there tells its place.
use Rattle.std.specs.Prelude.{ℕ, zero, suc, ◌+◌, ◌*◌, Bool, List, [], ◌∷◌, map, eqb, length, get_or, ℤ, pos}
use Rattle.signed.specs.Signed.{signed, pattern, add_s}
use Rattle.gorilla.specs.Rows.{widths, decoded}
use Rattle.gorilla.specs.Parser.{Read, read, refused, Reader, ◌>>=◌, ◌>>◌, give, require, take_bits, item, align, read_or}
use Rattle.bit_lists.specs.BitList.{bits_of}

-- 6: no bit of a code is there; 7: its prefix is cut off
unfoldable pub cut_number : ℕ → ℕ
cut_number zero = 6
cut_number (suc n) = 7

-- ones up to the first zero or the fourth one: n are counted, and at most k more count
unfoldable pub count_ones : ℕ → ℕ → ℕ → ℕ → Reader ℕ
count_ones a i zero n bs = read n bs
count_ones a i (suc k) n [] = refused (cut_number n ∷ a ∷ i ∷ [])
count_ones a i (suc k) n (zero ∷ bs) = read n bs
count_ones a i (suc k) n (suc b ∷ bs) = count_ones a i k (n + 1) bs

-- the difference of deltas of index i of array a: its code, prefix and all, is one item
unfoldable pub read_code : ℕ → ℕ → ℕ → Reader ℤ
read_code all a i = item all (do
  n ← count_ones a i 4 0
  v ← take_bits (get_or widths n 0) (8 ∷ a ∷ i ∷ get_or widths n 0 ∷ [])
  give (decoded (get_or widths n 0) v))

-- those of k indices, from i on
unfoldable pub read_codes : ℕ → ℕ → ℕ → ℕ → Reader (List ℤ)
read_codes all a zero i = give []
read_codes all a (suc k) i = do
  d ← read_code all a i
  ds ← read_codes all a k (i + 1)
  give (d ∷ ds)

-- the values that differences of deltas lead to, after the value p and the delta e
unfoldable pub values_after : ℤ → ℤ → List ℤ → List ℤ
values_after p e [] = []
values_after p e (d ∷ ds) = add_s p (add_s e d) ∷ values_after (add_s p (add_s e d)) (add_s e d) ds

-- n values
unfoldable pub read_values : ℕ → ℕ → ℕ → Reader (List ℤ)
read_values all a zero = give []
read_values all a (suc k) = do
  v ← item all (take_bits 64 (5 ∷ a ∷ []))
  ds ← read_codes all a k 1
  give (signed v ∷ values_after (signed v) (pos 0) ds)

-- array a; room says whether a count finds room
unfoldable pub read_array : ℕ → ℕ → (ℕ → Bool) → Reader (List ℤ)
read_array all a room = do
  n ← item all (take_bits 32 (4 ∷ a ∷ []))
  require (room n) (10 ∷ a ∷ [])
  read_values all a n

-- a count of four bytes, the least significant first
unfoldable pub le_count : List ℕ → Reader ℕ
le_count l = do
  b₀ ← take_bits 8 l
  b₁ ← take_bits 8 l
  b₂ ← take_bits 8 l
  b₃ ← take_bits 8 l
  give (b₀ + 256 * (b₁ + 256 * (b₂ + 256 * b₃)))

-- array a of an image whose header says n
unfoldable pub read_part : ℕ → ℕ → (ℕ → Bool) → ℕ → Reader (List ℤ)
read_part all a room n = do
  xs ← read_array all a room
  require (eqb (length xs) n) (9 ∷ a ∷ [])
  align
  give xs

pub record Pairs : Type 0 where
  pub seqs : List ℕ
  pub secs : List ℤ

-- both arrays of an image whose header says n
abbrev pub read_arrays : ℕ → (ℕ → Bool) → ℕ → Reader Pairs
read_arrays all room n = do
  seqs ← read_part all 0 room n
  secs ← read_part all 1 room n
  give (record { seqs = map pattern seqs; secs = secs })

-- version 1, the pair count, both arrays
unfoldable pub read_pairs : ℕ → (ℕ → Bool) → Reader Pairs
read_pairs all room = do
  v ← take_bits 8 (1 ∷ [])
  require (eqb v 1) (2 ∷ v ∷ [])
  n ← le_count (3 ∷ [])
  read_arrays all room n

-- an image: its pairs, and the bits of the bytes after it
abbrev pub read_image : (ℕ → Bool) → List ℕ → Read Pairs
read_image room bytes = read_pairs (length bytes * 8) room (bits_of bytes)

-- the pairs that were read; none where the reader refused
abbrev pub pairs_read : Read Pairs → Pairs
pairs_read r = read_or (record { seqs = []; secs = [] }) r
