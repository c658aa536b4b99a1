use Rattle.std.proofs.Common.{◌≡◌, length, map, ap, ◌∙◌, arith, map-id}
use lib.Seq.{length-sets}
use Rattle.signed.specs.Signed.{signed}
use Rattle.gorilla.specs.Format.{array_bits}
use Rattle.bit_lists.proofs.Packing.{length-packed}
use Rattle.array_writer.specs.Inner.{ArrayPut}
use Rattle.lengths.proofs.Whole.{image_length}
use Rattle.image_writer.proofs.Whole.{image_put}
use Rattle.image_writer.proofs.image.write_image.Goals as goal

pub write_header-requires : goal.write_header-requires
write_header-requires c = omega (arith, image_length c.args.seqs.now c.args.secs.now)

pub write_array-end-requires : goal.write_array-end-requires
write_array-end-requires c =
    let h : length c.write_header.new.out ≡ length c.args.out.now = ap length c.write_header.ensures ∙ simp length-sets in
    omega (arith, image_length c.args.seqs.now c.args.secs.now, h)

pub write_array-requires : goal.write_array-requires
write_array-requires c =
    let h : length c.write_header.new.out ≡ length c.args.out.now = ap length c.write_header.ensures ∙ simp length-sets in
    let q : length c.write_array-end.new.buf ≡ length c.write_header.new.out = ap length c.write_array-end.ensures.1 ∙ simp length-sets in
    rw map-id (omega (arith, image_length c.args.seqs.now c.args.secs.now, h, q, length-packed (array_bits (map signed c.args.seqs.now))))

pub returns : goal.returns
returns c =
    let s = c.args.seqs.now in
    let t = c.args.secs.now in
    let w : ArrayPut c.write_array-end.new.buf c.write_array-end.result t c.write_array.result c.write_array.new.buf = rw map-id at c.write_array.ensures in record {
      bytes = omega (arith, image_length s t, length-packed (array_bits (map signed s)), length-packed (array_bits t), w.0);
      out = image_put s t c.args.out.now c.write_header.new.out c.write_array-end.new.buf c.write_array.new.buf c.write_array-end.result c.requires
          c.write_header.ensures c.write_array-end.ensures.1 c.write_array-end.ensures.0 w.1;
    }
