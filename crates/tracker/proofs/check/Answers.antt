use mathlib.Core.Path.{sym, ◌∙◌}
use Rattle.tracker.proofs.Good.{agreed, count-seqs, count-secs}
use Rattle.tracker.proofs.check.Goals as goal

pub returns-then-disagrees : goal.returns-then-disagrees
returns-then-disagrees c = rw (← c.disagrees.ensures, c.if-disagrees.true)

pub pairs-requires : goal.pairs-requires
pairs-requires c =
    let a = c.args in
    let ok = agreed a.table a.seqs.now a.secs.now (sym c.disagrees.ensures ∙ c.if-disagrees.false) in
    (count-seqs _ _ _ ok, count-secs _ _ _ ok)

pub returns : goal.returns
returns c = rw (← c.disagrees.ensures, c.if-disagrees.false) c.pairs.ensures
