use denote.Param.{value_of, number}
use Rattle.std.proofs.Common.{◌≡◌, true, false, sym, ◌∙◌, not, nat_eq, length}
use Rattle.search.specs.Inner.{passes}
use Rattle.search.proofs.Bound.{falls, place_after, place_here}
use Rattle.search.proofs.inner.sorted.Sorted.by_known_halves.Goals as goal

pub returns-then-passes : goal.returns-then-passes
returns-then-passes g c =
    let m = g.K.Key in
    let a = c.args in
    let above = not (nat_eq (value_of (number g.row.ABOVE)) 0) in
    let keys = a.self.now.keys.now in
    let t = passes m.lt m.zero above keys a.x in
    let F = falls m.lt g.met.K.Key.order m.zero keys (length keys) a.self.now.in_order a.x above in
    let e : t c.half-p-12.result ≡ true = sym c.passes.ensures ∙ c.if-passes.true in
    place_after t (length keys) F c.half-p-12.result c.half-p-12.ensures e

pub returns-else-passes : goal.returns-else-passes
returns-else-passes g c =
    let m = g.K.Key in
    let a = c.args in
    let above = not (nat_eq (value_of (number g.row.ABOVE)) 0) in
    let keys = a.self.now.keys.now in
    let t = passes m.lt m.zero above keys a.x in
    let F = falls m.lt g.met.K.Key.order m.zero keys (length keys) a.self.now.in_order a.x above in
    let e : t c.half-p-12.result ≡ false = sym c.passes.ensures ∙ c.if-passes.false in
    place_here t (length keys) F c.half-p-12.result c.half-p-12.ensures e
