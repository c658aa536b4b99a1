use Rattle.std.proofs.Common.{arith}
use Rattle.input.proofs.Laws.{grows}
use Rattle.input.proofs.read_all.Goals as goal

pub loop-next-preserved : goal.loop-next-preserved
loop-next-preserved g c =
    let h = grows (g.R.Read.remaining c.args.from.now) c.read_more.ensures c.in-Ok.is c.loop-next.invariant.reading c.loop-next.invariant.given in
    record {
      reading = h.reading;
      same = omega (arith, c.read_more.ensures.same, c.loop-next.invariant.same);
      given = h.given;
    }
