use mathlib.Core.Path.{sym, ◌∙◌, ap}
use Rattle.tracker.specs.Refusal.{told_check}
use Rattle.tracker.proofs.Good.{fine, count-seqs}
use Rattle.lookup.proofs.find_ts.Goals as goal

pub place-requires : goal.place-requires
place-requires c =
    let ok = fine c.args.table c.args.seqs.now c.args.secs.now (sym c.check.ensures ∙ ap told_check c.in_ok-check.was) in
    (count-seqs _ _ _ ok.state, ok.pairs.seqs_rise)
