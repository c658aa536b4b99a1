use native.Mathlib.Omega.{arith}
use mathlib.Core.Path.{◌≡◌, sym, ◌∙◌, ap}
use lib.IntN.{pos}
use lib.Signed.{lt_z}
use Rattle.told.specs.Told.{gave}
use Rattle.search.specs.Inner.{among}
use Rattle.tracker.specs.Refusal.{told_check}
use Rattle.tracker.specs.Table.{check_of}
use Rattle.tracker.proofs.Good.{Fine, fine, count-seqs, count-secs}
use Rattle.order.proofs.Order.{int_order}
use Rattle.lookup.specs.Find.{place, seq_at}
use borrow.Author.Rules.{rules}
use mir.Syntax.{w64}
use mir.Val.{to_z, of_z}
use Rattle.explaining.specs.Reason.{reason_of}
use Rattle.explaining.specs.Inner.{answering}
use Rattle.explaining.proofs.Facts.{answering-among}
use Rattle.explaining.proofs.Told.{mapped, told_standing, is_inside}
use Rattle.explaining.proofs.why_seq.Goals as goal
use Rattle.explaining.proofs.why_seq.Goals.{After-answering, In_ok-check}

is_good : (c : In_ok-check) → let a = c.args in check_of a.table a.seqs.now a.secs.now ≡ gave tt
is_good c = sym c.check.ensures ∙ ap told_check c.in_ok-check.was

ok : (c : In_ok-check) → let a = c.args in Fine a.table a.seqs.now a.secs.now
ok c =
    let a = c.args in
    fine a.table a.seqs.now a.secs.now (is_good c)

pub reason-reason-requires : goal.reason-reason-requires
reason-reason-requires c = let o = ok (goal.at.reason-reason-requires c).In_ok-check in (count-secs _ _ _ o.state, o.pairs.secs_rise)

-- the second asked for is held as bits
by_reason : (c : After-answering) → let a = c.args in c.reason-reason.result ≡ reason_of lt_z (pos 0) a.find_opt a.secs.now a.table.count a.ts.0
by_reason c = let whole : to_z w64 (of_z w64 c.args.ts.0) ≡ c.args.ts.0 = search rules in rw whole at c.reason-reason.ensures

-- the position that answers is the lookup's
there : (c : After-answering)
    → let a = c.args in c.answering.result ≡ among a.table.count (place lt_z (pos 0) a.find_opt a.secs.now a.table.count a.ts.0)
there c =
    let a = c.args in
    let good = ok (goal.at.map-answer-requires c).In_ok-check in
    c.answering.ensures ∙ ap answering (by_reason c) ∙ answering-among lt_z int_order (pos 0) a.secs.now a.table.count a.ts.0 good.pairs.secs_rise a.find_opt

pub map-answer-requires : goal.map-answer-requires
map-answer-requires c p e =
    let k = count-seqs _ _ _ (ok (goal.at.map-answer-requires c).In_ok-check).state in
    let l = (is_inside _ _ p (sym (there c) ∙ e)).1 in
    (λ κs w z r u. omega (arith, k, l), λ κs w z r u v. omega (arith, k, l))

pub returns : goal.returns
returns c =
    let a = c.args in
    let o = (goal.at.returns c).In_ok-check in
    let v = (goal.at.returns c).After-answering in
    rw (mapped (seq_at a.seqs.now) c.answering.result c.map-answer.result _ c.map-answer.ensures.cases (λ p b i e. search rules))
    (told_standing (seq_at a.seqs.now) (check_of a.table a.seqs.now a.secs.now) (is_good o) a.table.count _ c.answering.result (there v) _ c.reason-reason.result (by_reason v))
