use Rattle.std.proofs.Common.{◌≡◌, ◌∙◌, arith, to_z-of_z, w64, eqb-true}
use Rattle.std.proofs.lemmas.Nat.{le_or_l, le_or_r}
use borrow.Author.Rules.{sfits_of}
use Rattle.strict.proofs.Wide.{wide_none}
use Rattle.strict.proofs.Small.{calm_first, calm_next, calm_last}
use Rattle.strict.proofs.calm.calm.Goals as goal

pub returns-in_default : goal.returns-in_default
returns-in_default g c h a = wide_none a g.T.Stored.as_z c.args.values.now c.in_default.ensures.cases

pub loop-i-init : goal.loop-i-init
loop-i-init g c = λ _. calm_first g.T.Stored.as_z c.args.values.now c.in-Some.rest.now _ c.in-Some.ensures.cases.0

-- a delta whose excess is 0 is small
pub loop-i-preserved : goal.loop-i-preserved
loop-i-preserved g c =
    let to = to_z-of_z {w = w64} (sfits_of c.to_signed.type_inv) ∙ c.to_signed.ensures in
    let from = to_z-of_z {w = w64} (sfits_of c.to_signed-in-loop-i.type_inv) ∙ c.to_signed-in-loop-i.ensures in
    λ h.
    let before : c.loop-i.over ≡ 0 = omega (arith, h, le_or_l c.loop-i.over c.excess-over.result) in
    let here : c.excess-over.result ≡ 0 = omega (arith, h, le_or_r c.loop-i.over c.excess-over.result) in
    calm_next g.T.Stored.as_z c.args.values.now c.in-Some.rest.now _ c.in-Some.ensures.cases.0 c.loop-i.i c.index-rest-i.result c.index-values-i.result c.loop-i-test.true c.index-rest-i.is
    c.index-values-i.is (rw (to, from) at (c.excess-over.ensures here)) (c.loop-i.invariant before)

pub returns : goal.returns
returns g c h = calm_last g.T.Stored.as_z c.args.values.now c.in-Some.rest.now c.loop-i.i c.loop-i-test.false (c.loop-i.invariant (eqb-true _ _ h))
