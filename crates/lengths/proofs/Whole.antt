-- The length of an image. Assumes nothing.
use Prim.Native.Nat.{ℕ, ◌+◌, ◌*◌, ◌≤◌}
use mathlib.Core.Path.{◌≡◌}
use mathlib.Core.List.{List, map}
use native.Mathlib.Omega.{arith}
use lib.ListN.{length, length-append, length-map}
use lib.IntN.{ℤ}
use Rattle.signed.specs.Signed.{signed}
use Rattle.bit_lists.specs.BitList.{byte_len}
use Rattle.gorilla.specs.Format.{array_bits, array_bytes, le_bytes, image_bytes}
use Rattle.bit_lists.proofs.Packing.{length-packed}
use Rattle.code_writer.proofs.Codes.{array_most}

pub image_length : (seqs : List ℕ) (secs : List ℤ)
    → length (image_bytes seqs secs) ≡ 5 + byte_len (length (array_bits (map signed seqs))) + byte_len (length (array_bits secs))
unfolding image_bytes le_bytes
image_length seqs secs =
    let A : List ℕ = array_bytes (map signed seqs) in
    let B : List ℕ = array_bytes secs in
    omega (arith, length-append A B, length-packed (array_bits (map signed seqs)), length-packed (array_bits secs))

-- at 36 bits a code
pub image_most : (seqs : List ℕ) (secs : List ℤ) → length seqs ≡ length secs → length (image_bytes seqs secs) ≤ length seqs * 9 + 21
image_most seqs secs e = omega (arith, image_length seqs secs, array_most (map signed seqs), array_most secs, length-map seqs signed)
