use Rattle.std.proofs.Common.{get_or, pos, arith, rules, to_z-of_z, w64, SFits}
use Rattle.text.proofs.Putting.{then, put_length}
use Rattle.report.proofs.Lengths.{lines_more, lines-length, none}
use Rattle.report.proofs.lines.put_lines.Goals as goal

pub loop-i-init : goal.loop-i-init
loop-i-init g c = none _ _ _ _ _

pub put_line-p-requires-clause-room : goal.put_line-p-requires-clause-room
put_line-p-requires-clause-room g c =
    let put = c.loop-i.invariant in
    omega (arith, put.ends, put_length put, lines-length g.T.Third.text g.met.T.Third.short c.args.seqs.now c.args.secs.now c.loop-i.i)

pub loop-i-preserved : goal.loop-i-preserved
loop-i-preserved g c =
    let f : SFits w64 (get_or c.args.secs.now c.loop-i.i (pos 0)) = search rules in
    rw (lines_more g.T.Third.text c.args.seqs.now c.args.secs.now c.loop-i.i) (then c.loop-i.invariant (rw (to_z-of_z f) at c.put_line-p.ensures))
