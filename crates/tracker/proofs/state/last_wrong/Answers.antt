use borrow.Author.Rules.{rules}
use borrow.Author.Tests.{eq-eqb, ne_eqb}
use mathlib.Core.Path.{◌≡◌, sym, ◌∙◌}
use mathlib.Core.Bool.{true, false}
use Prim.Native.Nat.{◌-◌}
use lib.IntN.{pos}
use lib.ListN.{get_or}
use mir.Syntax.{w64}
use mir.Val.{to_z, of_z}
use Rattle.limits.specs.Domain.{outside}
use Rattle.order.proofs.Order.{round}
use Rattle.tracker.proofs.state.last_wrong.Goals as goal

pub returns-then-n-eq0 : goal.returns-then-n-eq0
returns-then-n-eq0 c = rw (c.in-Some.is, eq-eqb _ _ c.if-n-eq0.true)

pub returns-then-out_of_domain : goal.returns-then-out_of_domain
returns-then-out_of_domain c =
    let x = c.in-Some.s.0 in
    let r : to_z w64 (of_z w64 x) ≡ x = search rules in
    let e : outside x ≡ true = rw (← r) (sym c.out_of_domain.ensures ∙ c.if-out_of_domain.true) in
    rw (c.in-Some.is, ne_eqb _ _ c.if-n-eq0.false, e)

pub returns-in-None : goal.returns-in-None
returns-in-None c = rw c.in-None.is

pub returns-else-out_of_domain : goal.returns-else-out_of_domain
returns-else-out_of_domain c =
    let x = c.in-Some.s.0 in
    let a = c.args in
    let r : to_z w64 (of_z w64 x) ≡ x = search rules in
    let q : to_z w64 (of_z w64 (get_or a.secs.now (a.n - 1) (pos 0))) ≡ get_or a.secs.now (a.n - 1) (pos 0) = round _ c.result-1.given in
    let e : outside x ≡ false = rw (← r) (sym c.out_of_domain.ensures ∙ c.if-out_of_domain.false) in
    rw (c.in-Some.is, ne_eqb _ _ c.if-n-eq0.false, e, r, q)
