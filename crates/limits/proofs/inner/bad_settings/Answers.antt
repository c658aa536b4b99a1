use borrow.Author.Tests.{lt-ltb, le-ltb}
use Rattle.limits.proofs.inner.bad_settings.Goals as goal

pub returns-then-capacity-gt-MAX_CAPACITY : goal.returns-then-capacity-gt-MAX_CAPACITY
returns-then-capacity-gt-MAX_CAPACITY c = rw (lt-ltb _ _ c.if-capacity-gt-MAX_CAPACITY.true)

pub returns : goal.returns
returns c = rw (le-ltb _ _ c.if-capacity-gt-MAX_CAPACITY.false)
