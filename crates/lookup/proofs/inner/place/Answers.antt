use Rattle.std.proofs.Common.{◌∙◌}
use borrow.Author.Tests.{lt-ltb, le-ltb}
use Rattle.lookup.proofs.Taken.{in_order_taken, first_taken, last_among}
use Rattle.lookup.proofs.inner.place.Goals as goal
use Rattle.lookup.proofs.inner.place.Goals.{After-first_not_below-p}

pub invariant_of-sorted : goal.invariant_of-sorted
invariant_of-sorted g c = record { in_order = in_order_taken g.K.Key.lt g.K.Key.zero c.args.keys.now c.args.n c.requires.0 c.requires.1 }

pub invariant_of-sorted-in-RoundDown : goal.invariant_of-sorted-in-RoundDown
invariant_of-sorted-in-RoundDown g c = record { in_order = in_order_taken g.K.Key.lt g.K.Key.zero c.args.keys.now c.args.n c.requires.0 c.requires.1 }

pub returns-then-p-n : goal.returns-then-p-n
returns-then-p-n g c =
    let m = g.K.Key in
    let a = c.args in
    let e = c.first_not_below-p.ensures ∙ first_taken m.lt m.zero a.keys.now a.n c.requires.0 a.x in
    rw (c.in-RoundUp.is, ← e, lt-ltb _ _ c.if-p-n.true)

pub returns-else-p-n : goal.returns-else-p-n
returns-else-p-n g c =
    let m = g.K.Key in
    let a = c.args in
    let e = c.first_not_below-p.ensures ∙ first_taken m.lt m.zero a.keys.now a.n c.requires.0 a.x in
    rw (c.in-RoundUp.is, ← e, le-ltb _ _ c.if-p-n.false)

pub returns-in-RoundDown : goal.returns-in-RoundDown
returns-in-RoundDown g c =
    let m = g.K.Key in
    let a = c.args in
    rw c.in-RoundDown.is (c.last_not_above.ensures ∙ last_among m.lt m.zero a.keys.now a.n c.requires.0 a.x)
