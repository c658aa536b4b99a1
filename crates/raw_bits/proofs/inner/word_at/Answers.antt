use Rattle.std.proofs.Common.{◌+◌, arith}
use Rattle.raw_bits.proofs.Bits.{one_byte, next-byte}
use Rattle.raw_bits.proofs.inner.word_at.Goals as goal

pub returns : goal.returns
returns c =
    let s = c.args.s.now in
    let i = c.args.i in
    let g = c.type_inv.s in
    omega (
      arith,
      c.from_be_bytes.ensures,
      one_byte s i (omega (arith, g i)),
      next-byte s i 1 (omega (arith, g (i + 1))),
      next-byte s i 2 (omega (arith, g (i + 2))),
      next-byte s i 3 (omega (arith, g (i + 3))),
      next-byte s i 4 (omega (arith, g (i + 4))),
      next-byte s i 5 (omega (arith, g (i + 5))),
      next-byte s i 6 (omega (arith, g (i + 6))),
      next-byte s i 7 (omega (arith, g (i + 7))),
    )
