use Rattle.std.proofs.Common.{◌+◌, List, map, ℤ, pos, sym, ap, ◌∙◌, arith, rules, to_z-of_z, w64, SFits}
use borrow.Author.Rules.{sfits_of}
use Rattle.gorilla.specs.Array.{array_no}
use Rattle.gorilla.specs.Wide.{wide_after, wide_in}
use Rattle.gorilla.specs.Inner.{advanced}
use Rattle.gorilla.proofs.Walk.{stored_at}
use Rattle.strict.proofs.Wide.{wide_none, wide_next, wide_here, wide_end}
use Rattle.strict.proofs.search.search.Goals as goal

pub returns-in_err-first : goal.returns-in_err-first
returns-in_err-first g c = rw c.from_residual.ensures (wide_none (array_no c.args.array) g.T.Stored.as_z c.args.values.now c.in_err-first.ensures.cases)

pub loop-i-init : goal.loop-i-init
unfolding wide_in
loop-i-init g c =
    let a = array_no c.args.array in
    ap (λ (z : ℤ). wide_after a 1 z (pos 0) (map g.T.Stored.as_z c.in_ok-first.rest.now)) (to_z-of_z {w = w64} (sfits_of c.to_signed.type_inv) ∙ c.to_signed.ensures)
    ∙ ap (λ (vs : List g.row.T.Denot). wide_in a (map g.T.Stored.as_z vs)) (sym c.in_ok-first.ensures.cases.0)

pub returns-then-not-is_strict : goal.returns-then-not-is_strict
returns-then-not-is_strict g c =
    let f : SFits w64 c.advance-c.result.dod = search rules in
    let s = c.to_signed-in-loop-i in
    let e = c.advance-c.ensures ∙ ap (advanced c.loop-i.t) (to_z-of_z {w = w64} (sfits_of s.type_inv) ∙ s.ensures) in
    wide_here (array_no c.args.array) (c.loop-i.i + 1) c.loop-i.t _ _ c.advance-c.result _ e (to_z-of_z f) (cc)
    ∙ ap (wide_after (array_no c.args.array) (c.loop-i.i + 1) c.loop-i.t.prev c.loop-i.t.delta) (sym (stored_at g.T.Stored.as_z c.in_ok-first.rest.now c.loop-i.i _ (omega arith) c.index-rest-i.is))
    ∙ c.loop-i.invariant

pub loop-i-preserved : goal.loop-i-preserved
loop-i-preserved g c =
    let f : SFits w64 c.advance-c.result.dod = search rules in
    let s = c.to_signed-in-loop-i in
    let e = c.advance-c.ensures ∙ ap (advanced c.loop-i.t) (to_z-of_z {w = w64} (sfits_of s.type_inv) ∙ s.ensures) in
    wide_next (array_no c.args.array) (c.loop-i.i + 1) c.loop-i.t _ _ c.advance-c.result _ e (to_z-of_z f) (cc)
    ∙ ap (wide_after (array_no c.args.array) (c.loop-i.i + 1) c.loop-i.t.prev c.loop-i.t.delta) (sym (stored_at g.T.Stored.as_z c.in_ok-first.rest.now c.loop-i.i _ (omega arith) c.index-rest-i.is))
    ∙ c.loop-i.invariant

pub returns : goal.returns
returns g c =
    wide_end (array_no c.args.array) (c.loop-i.i + 1) c.loop-i.i c.loop-i.t.prev c.loop-i.t.delta g.T.Stored.as_z c.in_ok-first.rest.now c.loop-i-test.false
    ∙ c.loop-i.invariant
