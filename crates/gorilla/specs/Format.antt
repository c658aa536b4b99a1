-- How an array and an image are written (docs/RULES.md, "One array", "The image").
use Rattle.std.specs.Prelude.{ℕ, zero, suc, ◌/◌, ◌%◌, List, [], ◌∷◌, ◌++◌, map, length, ℤ, pos}
use Rattle.signed.specs.Signed.{signed, pattern, sub_s}
use Rattle.gorilla.specs.Rows.{row_of}
use Rattle.bit_lists.specs.BitList.{nat_bits, packed}

-- the code of a difference of deltas: its row's prefix, and as many low bits as the row has
unfoldable pub code_bits : ℤ → List ℕ
code_bits d = nat_bits (row_of d).prefix_bits (row_of d).prefix ++ nat_bits (row_of d).width (pattern d)

-- the codes of xs, which follow the value p, reached by the delta e
unfoldable pub codes_bits : ℤ → ℤ → List ℤ → List ℕ
codes_bits p e [] = []
codes_bits p e (x ∷ xs) = code_bits (sub_s (sub_s x p) e) ++ codes_bits x (sub_s x p) xs

-- the first value in 64 bits, and a code for each later one; the delta before the first is 0
unfoldable pub values_bits : List ℤ → List ℕ
values_bits [] = []
values_bits (x ∷ xs) = nat_bits 64 (pattern x) ++ codes_bits x (pos 0) xs

-- a 32-bit count, then the values
unfoldable pub array_bits : List ℤ → List ℕ
array_bits xs = nat_bits 32 (length xs) ++ values_bits xs

-- padded to a byte
abbrev pub array_bytes : List ℤ → List ℕ
array_bytes xs = packed (array_bits xs)

-- n bytes of v, the least significant first
unfoldable pub le_bytes : ℕ → ℕ → List ℕ
le_bytes zero v = []
le_bytes (suc n) v = v % 256 ∷ le_bytes n (v / 256)

-- version 1, the pair count in 4 bytes, the sequences by their bit patterns, the seconds
unfoldable pub image_bytes : List ℕ → List ℤ → List ℕ
image_bytes seqs secs = 1 ∷ le_bytes 4 (length seqs) ++ array_bytes (map signed seqs) ++ array_bytes secs
