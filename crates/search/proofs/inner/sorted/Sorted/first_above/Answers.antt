use Rattle.std.proofs.Common.{length, not, true, rules, ◌∙◌}
use Rattle.std.proofs.lemmas.List.Sorted.{IsPartitionPoint-from_clause}
use Rattle.search.proofs.Bound.{falls, parted, cut, twice}
use Rattle.search.proofs.inner.sorted.Sorted.first_above.Goals as goal

pub returns-then-is_known : goal.returns-then-is_known
returns-then-is_known g c =
    let m = g.K.Key in
    let a = c.args in
    c.by_known_halves.ensures ∙ twice m.lt m.zero a.self.now.keys.now _ a.x

pub returns : goal.returns
returns g c =
    let m = g.K.Key in
    let a = c.args in
    let keys = a.self.now.keys.now in
    let F = falls m.lt g.met.K.Key.order m.zero keys (length keys) a.self.now.in_order a.x true in
    let at = c.partition_point.ensures in
    cut (λ k. not (m.lt a.x k)) keys m.zero _ at.bound (IsPartitionPoint-from_clause (λ k. not (m.lt a.x k)) keys _ at.partitioned (parted (λ k. not (m.lt a.x k)) keys m.zero F) (λ b r q k. search rules)) ∙ twice m.lt m.zero keys _ a.x
