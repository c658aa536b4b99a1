use native.Mathlib.Omega.{arith}
use Rattle.text.proofs.Putting.{then, next}
use Rattle.lookup.specs.Found.{partner_of}
use Rattle.why_text.proofs.Lengths.{reason-length, answer-length}
use Rattle.why_text.proofs.lines.put_line.Goals as goal

pub put_byte-b-requires : goal.put_byte-b-requires
put_byte-b-requires g c =
    let r1 = next 64 64 c.put_reason-a.ensures (reason-length c.args.why.reason) (omega arith) in
    omega (arith, r1)

pub put_answer-c-requires : goal.put_answer-c-requires
put_answer-c-requires g c =
    let r1 = next 64 64 c.put_reason-a.ensures (reason-length c.args.why.reason) (omega arith) in
    let r2 = next 1 63 c.put_byte-b.ensures (omega arith) r1 in
    omega (arith, r2)

pub put_byte-requires : goal.put_byte-requires
put_byte-requires g c =
    let r1 = next 64 64 c.put_reason-a.ensures (reason-length c.args.why.reason) (omega arith) in
    let r2 = next 1 63 c.put_byte-b.ensures (omega arith) r1 in
    let r3 = next 21 42 c.put_answer-c.ensures (answer-length g.A.Answer.number g.met.A.Answer.short (partner_of c.args.why.answer)) r2 in
    omega (arith, r3)

pub returns : goal.returns
returns g c =
    then (then (then c.put_reason-a.ensures c.put_byte-b.ensures) c.put_answer-c.ensures) c.put_byte.ensures
