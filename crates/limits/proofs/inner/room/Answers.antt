use borrow.Author.Tests.{eq-eqb, ne_eqb}
use Rattle.limits.proofs.inner.room.Goals as goal

pub returns-then-capacity-eq0 : goal.returns-then-capacity-eq0
returns-then-capacity-eq0 c = simp (eq-eqb _ _ c.if-capacity-eq0.true)

pub returns-else-capacity-eq0 : goal.returns-else-capacity-eq0
returns-else-capacity-eq0 c = simp (ne_eqb _ _ c.if-capacity-eq0.false)
