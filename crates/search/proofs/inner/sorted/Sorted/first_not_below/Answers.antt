use Rattle.std.proofs.Common.{length, false, rules}
use Rattle.std.proofs.lemmas.List.Sorted.{IsPartitionPoint-from_clause}
use Rattle.search.proofs.Bound.{falls, parted, cut}
use Rattle.search.proofs.inner.sorted.Sorted.first_not_below.Goals as goal

pub returns : goal.returns
returns g c =
    let m = g.K.Key in
    let a = c.args in
    let keys = a.self.now.keys.now in
    let F = falls m.lt g.met.K.Key.order m.zero keys (length keys) a.self.now.in_order a.x false in
    let at = c.partition_point.ensures in
    cut (λ k. m.lt k a.x) keys m.zero _ at.bound (IsPartitionPoint-from_clause (λ k. m.lt k a.x) keys _ at.partitioned (parted (λ k. m.lt k a.x) keys m.zero F) (λ b r q k. search rules))
