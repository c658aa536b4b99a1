use borrow.Author.Rules.{rules}
use mir.Syntax.{w64}
use mir.Val.{SFits}
use mir.Facts.{to_z-of_z}
use native.Mathlib.Omega.{arith}
use mathlib.Core.Path.{refl}
use lib.IntN.{pos}
use Rattle.question_lists.proofs.Fill.{filled_more, ts_make}
use Rattle.question_lists.proofs.by_seq.answers.Goals as goal

pub loop-i-preserved : goal.loop-i-preserved
loop-i-preserved c =
    let r = c.ts_answer-answer in
    let l = c.loop-i in
    let f = l.invariant.0 in
    let whole : SFits w64 r.result.second.0 = search rules in
    (rw (to_z-of_z {w = w64} whole) (filled_more _ _ _ ts_make (pos 0) _ _ l.i l.answers l.found _ _ _ (omega (arith, f.same_answers)) (omega (arith, f.same_found)) refl r.ensures f), omega arith)
