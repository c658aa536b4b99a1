-- A restore that names an interval answers as `restore` does, with that interval in the state. Assumes nothing.
use mathlib.Core.Path.{◌≡◌, refl, ap}
use mathlib.Core.Bool.{Bool, true, false, cond}
use mathlib.Core.List.{[], ◌∷◌}
use lib.ListN.{length}
use Rattle.told.specs.Told.{Told, gave, refused, if_good}
use Rattle.limits.specs.Settings.{bad_settings}
use Rattle.gorilla.specs.Parser.{Read, read}
use Rattle.gorilla.specs.Parser as parser
use Rattle.gorilla.specs.Reading.{Pairs}
use Rattle.fresh.specs.Fresh.{default_capacity, default_interval_secs, fresh_table}
use Rattle.tracker.specs.Table.{pairs_of}
use Rattle.tracker.specs.declared.SequenceTracker.{SequenceTracker}
use Rattle.settling.specs.Settle.{last_of}
use Rattle.restoring.specs.Restore.{read_table, judged, too_short}
use Rattle.restoring.specs.Interval.{told_with, AsRestore}

pub as_restore : AsRestore
as_restore interval bytes seqs secs = ap (cond (bad_settings default_capacity interval) (refused (15 ∷ []))) (room (too_short (length seqs) (length secs)))
  where
    settled : (checked : Told (Unit {0})) (t u : SequenceTracker) → gave u ≡ told_with interval (gave t) → if_good checked (gave u) ≡ told_with interval (if_good checked (gave t))
    settled (gave x) t u e = e
    settled (refused what) t u e = refl

    judge : (r : Read Pairs) → judged interval r ≡ told_with interval (judged default_interval_secs r)
    judge (read p left) =
        let n = length p.seqs in
        settled (pairs_of p.seqs p.secs n) (fresh_table default_capacity default_interval_secs n (last_of p.secs n)) (fresh_table default_capacity interval n (last_of p.secs n)) refl
    judge (parser.refused what) = refl

    room : (b : Bool) → cond b (refused (14 ∷ [])) (judged interval (read_table bytes)) ≡ told_with interval (cond b (refused (14 ∷ [])) (judged default_interval_secs (read_table bytes)))
    room true = refl
    room false = judge (read_table bytes)
