use Rattle.std.proofs.Common.{◌≡◌, Err, refl, arith, rules}
use Rattle.offer_log.proofs.Run.{next, stops}
use Rattle.log_records.proofs.walk.Goals as goal

pub loop-pair-preserved : goal.loop-pair-preserved
loop-pair-preserved c = next c.loop-pair.invariant (omega arith) _ refl c.in_ok-p.p _ _ (rw c.in_ok-p.was at c.step.ensures)

pub returns-in_err-p : goal.returns-in_err-p
returns-in_err-p c =
    let e : c.from_residual.result ≡ Err c.in_err-p.field-0.0 = search rules in
    rw e (stops c.loop-pair.invariant (omega arith) _ refl c.in_err-p.field-0.0 _ _ (rw c.in_err-p.was at c.step.ensures))
