use native.Mathlib.Omega.{arith}
use Rattle.text.proofs.Putting.{then, put_length}
use Rattle.text.proofs.Numbers.{decimal-length}
use Rattle.text.proofs.inner.put_word_line.Goals as goal

pub put_byte-requires : goal.put_byte-requires
put_byte-requires c =
    omega (arith, c.put_decimal-b.ensures.ends, put_length c.put_decimal-b.ensures, c.put_bytes-a.ensures.ends, put_length c.put_bytes-a.ensures, decimal-length c.args.n, c.requires)

pub returns : goal.returns
returns c =
    then (then c.put_bytes-a.ensures c.put_decimal-b.ensures) c.put_byte.ensures
