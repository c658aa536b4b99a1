-- The bytes that a reader leaves. Assumes nothing.
use Prim.Native.Nat.{ℕ, ◌-◌, ◌*◌, ◌/◌, ◌≤◌}
use mathlib.Core.Path.{◌≡◌, sym}
use mathlib.Core.Bool.{true}
use mathlib.Core.List.{List}
use native.Mathlib.Omega.{arith}
use borrow.Author.Tests.{le-leb}
use lib.ListN.{length, take, drop, length-drop}
use lib.Seq.{take_all}
use Rattle.told.specs.Told.{gave}
use Rattle.told.proofs.Unique.{given_not_refused, same_gift}
use Rattle.bit_lists.specs.BitList.{bits_of}
use Rattle.gorilla.specs.Parser.{Read, read, refused}
use Rattle.gorilla.specs.Reading.{Pairs, read_image}
use Rattle.bit_lists.proofs.Lists.{length-bits_of}
use Rattle.decoder.specs.Decode.{image_len_of, image_len_rule}
use Rattle.array_reader.specs.Inner.{Agrees}

-- every count of 32 bits is at most 2^32 - 1
pub no_limit : Agrees 4294967295 (λ n. true)
no_limit n h = sym (le-leb n 4294967295 (omega (arith, h)))

-- the bytes less those after byte e
pub less_left : (s : List ℕ) (e : ℕ) → e ≤ length s → e ≡ length s - length (drop (e * 8) (bits_of s)) / 8
less_left s e h = omega (arith, length-drop (e * 8) (bits_of s), length-bits_of s)

-- an image is no longer than its bytes
pub len_within : (s : List ℕ) {n : ℕ} → gave n ≡ image_len_rule s → n ≤ length s
unfolding image_len_rule
len_within s {n} h = go (read_image (λ m. true) s) h
  where
    go : (r : Read Pairs) → gave n ≡ image_len_of s r → n ≤ length s
    go (read p left) g = let e : n ≡ length s - length left / 8 = same_gift g in omega arith
    go (refused l) g = given_not_refused g

-- a part from n on is all that is left from there
pub tail_is : (s : List ℕ) (n : ℕ) → take (length s - n) (drop n s) ≡ drop n s
tail_is s n = take_all (length s - n) (drop n s) (omega (arith, length-drop n s))
