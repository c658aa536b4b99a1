use native.Mathlib.Omega.{arith}
use mathlib.Core.Path.{ap}
use lib.ListN.{length, length-append}
use Rattle.text.proofs.Putting.{then, put_length}
use Rattle.text.proofs.Numbers.{decimal_small, decimal_large, decimal-length}
use Rattle.text.proofs.inner.+put_decimal.Goals as goal

pub returns-then-n-lt10 : goal.returns-then-n-lt10
returns-then-n-lt10 t c = rw (decimal_small c.args.n c.if-n-lt10.true) c.put_byte.ensures

pub put_byte-requires-2 : goal.put_byte-requires-2
put_byte-requires-2 t c =
    let e = decimal_large c.args.n c.if-n-lt10.false c.ranges.n.fits in
    omega (arith, simp length-append at (ap length e), decimal-length c.args.n, put_length c.put_decimal-p.ensures, c.put_decimal-p.ensures.ends)

pub returns : goal.returns
returns t c = rw (decimal_large c.args.n c.if-n-lt10.false c.ranges.n.fits) (then c.put_decimal-p.ensures c.put_byte-2.ensures)
