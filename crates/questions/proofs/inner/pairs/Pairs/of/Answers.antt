use Rattle.questions.proofs.Good.{kept-good}
use Rattle.questions.proofs.inner.pairs.Pairs.of.Goals as goal

pub invariant_of-result : goal.invariant_of-result
invariant_of-result c = record { good = kept-good c.args.table c.args.seqs.now c.args.secs.now c.requires }
