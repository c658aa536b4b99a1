use native.Mathlib.Omega.{arith}
use Rattle.text.proofs.Putting.{then, next}
use Rattle.why_text.proofs.Lengths.{neighbour_length}
use Rattle.why_text.proofs.lines.put_rounded_up.Goals as goal

pub put_byte-c-requires : goal.put_byte-c-requires
put_byte-c-requires c =
    let r1 = next 11 117 c.put_bytes-a.ensures (omega arith) (omega arith) in
    let r2 = next 20 97 c.put_answer-b.ensures (neighbour_length c.args.below) r1 in
    omega (arith, r2)

pub put_decimal-requires : goal.put_decimal-requires
put_decimal-requires c =
    let r1 = next 11 117 c.put_bytes-a.ensures (omega arith) (omega arith) in
    let r2 = next 20 97 c.put_answer-b.ensures (neighbour_length c.args.below) r1 in
    let r3 = next 1 96 c.put_byte-c.ensures (omega arith) r2 in
    omega (arith, r3)

pub returns : goal.returns
returns c =
    then (then (then c.put_bytes-a.ensures c.put_answer-b.ensures) c.put_byte-c.ensures) c.put_decimal.ensures
