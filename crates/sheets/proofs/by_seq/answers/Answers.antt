use borrow.Author.Rules.{rules}
use native.Mathlib.Omega.{arith}
use mathlib.Core.Path.{◌≡◌, refl}
use lib.ListN.{length}
use Rattle.sheets.specs.Sheet.{ts_sheet}
use Rattle.sheets.proofs.Fill.{filled_more, unmapped}
use Rattle.sheets.proofs.by_seq.answers.Goals as goal

pub loop-i-preserved : goal.loop-i-preserved
loop-i-preserved c =
    let l = c.loop-i in
    let a = c.args in
    let sixteen : length a.sheet.answers ≡ 16 = search (rules, unmapped) in
    (rw c.ts_answer-answer.ensures (filled_more _ _ _ _ l.i (ts_sheet l.filled) _ (omega arith) refl l.invariant.0), omega arith)
