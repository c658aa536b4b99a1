use Rattle.order.proofs.Order.{round}
use native.Mathlib.Omega.{arith}
use mathlib.Core.Path.{refl}
use lib.IntN.{pos}
use lib.ListN.{get_or}
use Rattle.question_lists.proofs.Fill.{filled_more, seq_make}
use Rattle.question_lists.proofs.by_second.answers.Goals as goal

pub loop-i-preserved : goal.loop-i-preserved
loop-i-preserved c =
    let r = c.seq_answer-answer in
    let l = c.loop-i in
    let f = l.invariant.0 in
    let key = get_or c.args.keys.now l.i (pos 0) in
    (filled_more _ _ _ seq_make 0 _ _ l.i l.answers l.found _ _ _ (omega (arith, f.same_answers)) (omega (arith, f.same_found)) refl (rw (round key (omega arith)) at r.ensures) f, omega arith)
