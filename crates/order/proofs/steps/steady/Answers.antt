use Rattle.std.proofs.Common.{arith}
use Rattle.order.proofs.Fours.{more_four}
use Rattle.order.proofs.steps.steady.Goals as goal

pub loop-i-preserved : goal.loop-i-preserved
loop-i-preserved g c = (omega arith, more_four _ _ c.loop-i.invariant.1 (c.four.ensures c.if-four.false), omega arith)
