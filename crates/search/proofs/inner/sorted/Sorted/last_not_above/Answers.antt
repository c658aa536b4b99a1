use Rattle.std.proofs.Common.{length}
use Rattle.search.proofs.Above.{before_past}
use Rattle.search.proofs.inner.sorted.Sorted.last_not_above.Goals as goal

pub returns : goal.returns
returns g c =
    let m = g.K.Key in
    let a = c.args in
    let keys = a.self.now.keys.now in
    before_past m.lt m.zero keys (length keys) a.x g.met.K.Key.order a.self.now.in_order _ _ c.first_above.ensures c.checked_sub.ensures
