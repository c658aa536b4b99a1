use borrow.Author.Rules.{rules}
use native.Mathlib.Omega.{arith}
use mathlib.Core.Path.{◌≡◌, sym, ◌∙◌, ap}
use lib.Dec.{ltb}
use Rattle.told.specs.Told.{gave}
use Rattle.search.specs.Inner.{among}
use Rattle.tracker.specs.Refusal.{told_check}
use Rattle.tracker.specs.Table.{check_of}
use Rattle.tracker.proofs.Good.{Fine, fine, count-seqs, count-secs}
use Rattle.order.proofs.Order.{nat_order}
use Rattle.lookup.specs.Find.{place, second_at}
use Rattle.explaining.specs.Inner.{answering}
use Rattle.explaining.proofs.Facts.{answering-among}
use Rattle.explaining.proofs.Told.{mapped, told_standing, is_inside}
use Rattle.explaining.proofs.why_ts.Goals as goal
use Rattle.explaining.proofs.why_ts.Goals.{After-answering, In_ok-check}

is_good : (c : In_ok-check) → let a = c.args in check_of a.table a.seqs.now a.secs.now ≡ gave tt
is_good c = sym c.check.ensures ∙ ap told_check c.in_ok-check.was

ok : (c : In_ok-check) → let a = c.args in Fine a.table a.seqs.now a.secs.now
ok c =
    let a = c.args in
    fine a.table a.seqs.now a.secs.now (is_good c)

pub reason-reason-requires : goal.reason-reason-requires
reason-reason-requires c = (count-seqs _ _ _ (ok c).state, (ok c).pairs.seqs_rise)

-- the position that answers is the lookup's
there : (c : After-answering)
    → let a = c.args in c.answering.result ≡ among a.table.count (place ltb 0 a.find_opt a.seqs.now a.table.count a.seq.0)
there c =
    let a = c.args in
    let good = ok (goal.at.map-answer-requires c).In_ok-check in
    c.answering.ensures ∙ ap answering c.reason-reason.ensures ∙ answering-among ltb nat_order 0 a.seqs.now a.table.count a.seq.0 good.pairs.seqs_rise a.find_opt

pub map-answer-requires : goal.map-answer-requires
map-answer-requires c p e =
    let k = count-secs _ _ _ (ok (goal.at.map-answer-requires c).In_ok-check).state in
    let l = (is_inside _ _ p (sym (there c) ∙ e)).1 in
    (λ κs w z r u. omega (arith, k, l), λ κs w z r u. omega (arith, k, l))

pub returns : goal.returns
returns c =
    let a = c.args in
    let o = (goal.at.returns c).In_ok-check in
    rw (mapped (second_at a.secs.now) c.answering.result c.map-answer.result _ c.map-answer.ensures.cases (λ p b i e. search rules))
    (told_standing (second_at a.secs.now) (check_of a.table a.seqs.now a.secs.now) (is_good o) a.table.count _ c.answering.result (there (goal.at.returns c).After-answering) _ c.reason-reason.result c.reason-reason.ensures)
