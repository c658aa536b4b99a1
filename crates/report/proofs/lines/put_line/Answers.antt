use native.Mathlib.Omega.{arith}
use mir.Facts.{to_z-of_z}
use Rattle.report.specs.Lines.{line}
use Rattle.text.proofs.Putting.{then, next}
use Rattle.text.proofs.Numbers.{decimal-length}
use Rattle.report.proofs.lines.put_line.Goals as goal

pub put_byte-b-requires : goal.put_byte-b-requires
put_byte-b-requires g c =
    let r1 = next 20 44 c.put_decimal-a.ensures (decimal-length c.args.i) c.requires.room in
    omega (arith, r1)

pub put_decimal-c-requires : goal.put_decimal-c-requires
put_decimal-c-requires g c =
    let r1 = next 20 44 c.put_decimal-a.ensures (decimal-length c.args.i) c.requires.room in
    let r2 = next 1 43 c.put_byte-b.ensures (omega arith) r1 in
    omega (arith, r2)

pub put_byte-d-requires : goal.put_byte-d-requires
put_byte-d-requires g c =
    let r1 = next 20 44 c.put_decimal-a.ensures (decimal-length c.args.i) c.requires.room in
    let r2 = next 1 43 c.put_byte-b.ensures (omega arith) r1 in
    let r3 = next 20 23 c.put_decimal-c.ensures (decimal-length c.args.seq) r2 in
    omega (arith, r3)

pub put-e-requires-clause-room : goal.put-e-requires-clause-room
put-e-requires-clause-room g c =
    let r1 = next 20 44 c.put_decimal-a.ensures (decimal-length c.args.i) c.requires.room in
    let r2 = next 1 43 c.put_byte-b.ensures (omega arith) r1 in
    let r3 = next 20 23 c.put_decimal-c.ensures (decimal-length c.args.seq) r2 in
    let r4 = next 1 22 c.put_byte-d.ensures (omega arith) r3 in
    omega (arith, r4)

pub put_byte-requires : goal.put_byte-requires
put_byte-requires g c =
    let r1 = next 20 44 c.put_decimal-a.ensures (decimal-length c.args.i) c.requires.room in
    let r2 = next 1 43 c.put_byte-b.ensures (omega arith) r1 in
    let r3 = next 20 23 c.put_decimal-c.ensures (decimal-length c.args.seq) r2 in
    let r4 = next 1 22 c.put_byte-d.ensures (omega arith) r3 in
    let r5 = next 21 1 c.put-e.ensures (g.met.T.Third.short _) r4 in
    omega (arith, r5)

pub returns : goal.returns
unfolding line
returns g c =
    then (then (then (then (then c.put_decimal-a.ensures c.put_byte-b.ensures) c.put_decimal-c.ensures) c.put_byte-d.ensures) (rw (to_z-of_z c.ranges.sec) at c.put-e.ensures)) c.put_byte.ensures
