-- What changes nothing in the pairs that are read of an input, whoever wrote it: the bytes after the image, and the padding of its arrays.
use Rattle.std.specs.Prelude.{ℕ, ◌%◌, ◌<◌, ◌≡◌, Bool, List, [], ◌++◌, map, length, ℤ}
use Rattle.signed.specs.Signed.{pattern}
use Rattle.bit_lists.specs.BitList.{bits_of}
use Rattle.gorilla.specs.Parser.{read}
use Rattle.gorilla.specs.Reading.{Pairs, read_array, read_pairs, read_image}

-- an accepted input with any bytes after it is read as the same pairs, and those bytes are left too
abbrev pub FollowingIgnored : Type 0
FollowingIgnored = (room : ℕ → Bool) (bytes following left : List ℕ) (p : Pairs)
    → read_image room bytes ≡ read p left → read_image room (bytes ++ following) ≡ read p (left ++ bits_of following)

-- the bits of an accepted input, and which of them are padding
pub record Padded (room : ℕ → Bool) (bits : List ℕ) (p : Pairs) (left : List ℕ) : Type 0 where
  pub header : List ℕ
  pub seqs : List ℕ
  pub seqs_padding : List ℕ
  pub secs : List ℕ
  pub secs_padding : List ℕ
  pub parts : bits ≡ header ++ seqs ++ seqs_padding ++ secs ++ secs_padding ++ left
  -- the header is five bytes, each array by itself is read to its last bit, and fewer than eight bits pad it to a byte
  pub five : length header ≡ 40
  pub values : List ℤ
  pub patterns : p.seqs ≡ map pattern values
  pub seqs_read : read_array (length seqs) 0 room seqs ≡ read values []
  pub secs_read : read_array (length secs) 1 room secs ≡ read p.secs []
  pub seqs_padded : (length seqs_padding < 8) × (length (seqs ++ seqs_padding) % 8 ≡ 0)
  pub secs_padded : (length secs_padding < 8) × (length (secs ++ secs_padding) % 8 ≡ 0)
  -- any other padding as long: the same is read
  pub ignored : (x y : List ℕ) → length x ≡ length seqs_padding → length y ≡ length secs_padding
      → read_pairs (length bits) room (header ++ seqs ++ x ++ secs ++ y ++ left) ≡ read p left

abbrev pub PaddingIgnored : Type 0
PaddingIgnored = (room : ℕ → Bool) (bytes left : List ℕ) (p : Pairs) → read_image room bytes ≡ read p left → Padded room (bits_of bytes) p left
