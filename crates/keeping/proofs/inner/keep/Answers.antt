use Rattle.std.proofs.Common.{◌≡◌, ◌∙◌, arith}
use Rattle.keeping.proofs.Halve.{added, ended_even, ended-odd}
use Rattle.keeping.proofs.inner.keep.Goals as goal
use Rattle.keeping.proofs.inner.keep.Goals.{then-half-kept, else-half-kept}

pub returns-then-n-capacity-clause-items : goal.returns-then-n-capacity-clause-items
returns-then-n-capacity-clause-items g c = added _ _ _ _ c.if-n-capacity.true (omega arith)

pub returns-clause-items : goal.returns-clause-items
returns-clause-items g c =
    let a = c.args in
    let full = c.if-n-capacity.false in
    let inv = c.loop-j.invariant in
    let e : c.div_ceil-kept.result ≡ c.loop-j.j = omega arith in
    elim c.if-half-kept.branch [
      | then-half-kept w ↦ w.items-is ∙ rw e (ended_even a.item _ _ _ _ _ a.item c.requires.0 c.requires.2 full inv (omega (arith, w.if-half-kept)))
      | else-half-kept w ↦ w.items-is ∙ ended-odd a.item _ _ _ _ _ a.item c.requires.0 c.requires.2 full inv (omega (arith, w.if-half-kept))
    ]
