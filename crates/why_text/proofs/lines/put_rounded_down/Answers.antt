use native.Mathlib.Omega.{arith}
use Rattle.text.proofs.Putting.{then, next}
use Rattle.text.proofs.Numbers.{decimal-length}
use Rattle.why_text.proofs.lines.put_rounded_down.Goals as goal

pub put_byte-c-requires : goal.put_byte-c-requires
put_byte-c-requires c =
    let r1 = next 13 115 c.put_bytes-a.ensures (omega arith) (omega arith) in
    let r2 = next 20 95 c.put_decimal-b.ensures (decimal-length c.args.below) r1 in
    omega (arith, r2)

pub put_answer-requires : goal.put_answer-requires
put_answer-requires c =
    let r1 = next 13 115 c.put_bytes-a.ensures (omega arith) (omega arith) in
    let r2 = next 20 95 c.put_decimal-b.ensures (decimal-length c.args.below) r1 in
    let r3 = next 1 94 c.put_byte-c.ensures (omega arith) r2 in
    omega (arith, r3)

pub returns : goal.returns
returns c =
    then (then (then c.put_bytes-a.ensures c.put_decimal-b.ensures) c.put_byte-c.ensures) c.put_answer.ensures
