use Rattle.std.proofs.Common.{length}
use Rattle.offers.specs.Whole.{whole}
use Rattle.tallies.specs.Tally.{none_yet}
use Rattle.offer_log.specs.Log.{run_of}
use Rattle.offer_log.specs.Pairs.{records_of}
use Rattle.offer_log.proofs.Run.{Upto}
use Rattle.pair_walk.proofs.inner.pairs_good.Given as goal

abbrev pub invariant-loop-q : goal.invariant-loop-q
invariant-loop-q l =
    Upto (run_of (whole l.fn.table l.fn.seqs l.fn.secs) none_yet 0 (records_of l.from_seqs l.from_secs)) (records_of l.from_seqs l.from_secs) l.p l.seqs l.secs (length l.yielded)
