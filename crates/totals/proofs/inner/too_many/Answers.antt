use borrow.Author.Tests.{lt-ltb}
use Prim.Native.Nat.{◌-◌}
use native.Mathlib.Omega.{arith}
use Rattle.totals.specs.Totals.{sum_of, most}
use Rattle.totals.proofs.Sum.{same_test}
use Rattle.totals.proofs.inner.too_many.Goals as goal

pub returns-then-totals-after_recorded : goal.returns-then-totals-after_recorded
returns-then-totals-after_recorded c = rw (lt-ltb most (sum_of c.args.totals) (omega (arith, c.if-totals-after_recorded.true)))

pub returns-then-totals-after_back : goal.returns-then-totals-after_back
returns-then-totals-after_back c =
    rw (lt-ltb most (sum_of c.args.totals) (omega (arith, c.if-totals-after_recorded.false, c.if-totals-after_back.true)))

pub returns : goal.returns
returns c =
    let n = c.args.totals in
    same_test (most - n.recorded - n.went_back - n.too_soon) n.refused most (sum_of n) (λ h. omega (arith, h, c.if-totals-after_recorded.false, c.if-totals-after_back.false)) (λ h. omega (arith, h, c.if-totals-after_recorded.false, c.if-totals-after_back.false))
