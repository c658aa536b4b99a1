use native.Mathlib.Omega.{arith}
use Rattle.raw_bits.proofs.Bits.{merge_lt, merge_eq}
use Rattle.raw_bits.proofs.inner.merge.Goals as goal

pub overflow_add-result-2 : goal.overflow_add-result-2
overflow_add-result-2 c =
    let a = c.args in
    omega (
      arith,
      merge_eq a.x a.bit a.t a.chunk c.from.ensures c.ranges.x.fits c.requires.0 c.requires.1,
      merge_lt a.x a.bit a.t a.chunk c.ranges.x.fits c.requires.0 c.requires.1,
    )

pub overflow_cast-result-4 : goal.overflow_cast-result-4
overflow_cast-result-4 c =
    let a = c.args in
    omega (
      arith,
      merge_eq a.x a.bit a.t a.chunk c.from.ensures c.ranges.x.fits c.requires.0 c.requires.1,
      merge_lt a.x a.bit a.t a.chunk c.ranges.x.fits c.requires.0 c.requires.1,
    )

pub returns : goal.returns
returns c =
    let a = c.args in
    merge_eq a.x a.bit a.t a.chunk c.from.ensures c.ranges.x.fits c.requires.0 c.requires.1
