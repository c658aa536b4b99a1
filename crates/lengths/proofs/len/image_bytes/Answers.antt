use Rattle.std.proofs.Common.{◌≡◌, ℕ, ◌+◌, map, sym, ap, ap₂, ◌∙◌, arith, map-id}
use lib.ListN.{length-map}
use Rattle.std.specs.Int.{div_ceil}
use Rattle.bit_lists.specs.BitList.{byte_len}
use Rattle.signed.specs.Signed.{signed}
use Rattle.code_writer.proofs.Codes.{array_most}
use Rattle.lengths.proofs.Whole.{image_length}
use Rattle.lengths.proofs.len.image_bytes.Goals as goal

-- whole bytes, rounded up
in_bytes : (n : ℕ) → div_ceil n 8 ≡ byte_len n
in_bytes n = omega arith

pub overflow_add-result : goal.overflow_add-result
overflow_add-result c = let s = c.args.seqs.now in omega (arith, array_most (map signed s), length-map s signed, c.array_bits.ensures, c.div_ceil.ensures, in_bytes c.array_bits.result)

pub overflow_add-result-2 : goal.overflow_add-result-2
overflow_add-result-2 c =
    let s = c.args.seqs.now in
    let t = rw map-id at c.array_bits-2.ensures in
    omega (arith, array_most (map signed s), length-map s signed, c.array_bits.ensures, array_most c.args.secs.now, t, in_bytes c.array_bits.result, in_bytes c.array_bits-2.result)

pub returns : goal.returns
returns c =
    let t = rw map-id at c.array_bits-2.ensures in
    ap₂ (λ (x y : ℕ). 5 + x + y) (c.div_ceil.ensures ∙ in_bytes _ ∙ ap byte_len c.array_bits.ensures) (c.div_ceil-2.ensures ∙ in_bytes _ ∙ ap byte_len t) ∙ sym (image_length c.args.seqs.now c.args.secs.now)
