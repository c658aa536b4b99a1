use Rattle.std.proofs.Common.{rules}
use Rattle.date_reader.proofs.Counted.{partly_more}
use Rattle.date_reader.proofs.steps.number.Goals as goal

pub digits-preserved : goal.digits-preserved
digits-preserved c = partly_more _ _ _ _ _ c.digits.invariant c.digits-test.true _ _ (search rules)
