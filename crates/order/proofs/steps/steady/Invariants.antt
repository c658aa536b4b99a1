use Rattle.std.proofs.Common.{◌-◌, ◌≤◌}
use Rattle.order.specs.Order.{drops}
use Rattle.order.specs.Inner.{NoneBelow}
use Rattle.order.proofs.steps.steady.Given as goal

abbrev pub invariant-loop-i : goal.invariant-loop-i
invariant-loop-i g l = (1 ≤ l.i) × NoneBelow (drops g.K.Key.lt g.K.Key.zero l.keys) l.i × (l.i ≤ 8196)

abbrev pub decreases-loop-i : goal.decreases-loop-i
decreases-loop-i g l = l.n - l.i
