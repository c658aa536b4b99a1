use Rattle.std.proofs.Common.{sym, ◌∙◌}
use Rattle.order.proofs.First.{found_hit, found-none}
use Rattle.order.proofs.inner.first_drop.Goals as goal

pub returns-then-drops_at : goal.returns-then-drops_at
returns-then-drops_at g c = found_hit _ _ _ c.loop-i-test.true c.loop-i.invariant.1 (sym c.drops_at.ensures ∙ c.if-drops_at.true)

pub returns : goal.returns
returns g c = found-none _ _ _ c.loop-i-test.false c.loop-i.invariant.1
