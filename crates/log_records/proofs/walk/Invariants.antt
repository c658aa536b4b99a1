use Rattle.offers.specs.Whole.{whole}
use Rattle.tallies.specs.Tally.{none_yet}
use Rattle.offer_log.specs.Log.{run_of}
use Rattle.offer_log.proofs.Run.{Upto}
use Rattle.log_records.proofs.walk.Given as goal

abbrev pub invariant-loop-pair : goal.invariant-loop-pair
invariant-loop-pair l = Upto (run_of (whole l.fn.table l.fn.seqs l.fn.secs) none_yet 0 l.records) l.records l.p l.seqs l.secs l.pair-index
