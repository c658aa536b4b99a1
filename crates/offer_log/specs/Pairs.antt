-- A log whose records stand in two lists, and another table's pairs offered as a log.
use Rattle.std.specs.Prelude.{ℕ, cond, List, [], ◌∷◌, ◌++◌, eqb, ℤ, length}
use Rattle.told.specs.Told.{Told, refused}
use Rattle.tracker.specs.Table.{kept}
use Rattle.tracker.specs.declared.TrackedSeq.{TrackedSeq}
use Rattle.offers.specs.Whole.{Table, check_in, Left, leaving}
use Rattle.tallies.specs.Tally.{none_yet}
use Rattle.offer_log.specs.Log.{Log, unless, run_of, log_of}

-- a sequence and a second as a record
abbrev pub pair_of : ℕ → ℤ → TrackedSeq
pair_of q s = record { seq = record { 0 = q }; ts = record { 0 = s } }

-- the records of two lists of one length
unfoldable pub records_of : List ℕ → List ℤ → List TrackedSeq
records_of (q ∷ seqs) (s ∷ secs) = pair_of q s ∷ records_of seqs secs
records_of [] secs = []
records_of (q ∷ seqs) [] = []

-- `offer_pairs`: 18 where the lists differ in length; else the log of their records
abbrev pub pairs_log_of : Table → List ℕ → List ℤ → Left (Told Log)
pairs_log_of w seqs secs = cond (eqb (length seqs) (length secs)) (log_of w (records_of seqs secs)) (leaving (refused (18 ∷ [])) w)

-- `extend_from`: the own table is checked, then the other one, and a refusal also tells, last, which was bad; then the pairs that the
-- other keeps are offered in order
abbrev pub extend_of : Table → Table → Left (Told Log)
extend_of w other =
    unless (check_in w) (λ what. leaving (refused (what ++ (0 ∷ []))) w)
    (unless (check_in other) (λ what. leaving (refused (what ++ (1 ∷ []))) w)
    (run_of w none_yet 0 (records_of (kept other.state other.seqs) (kept other.state other.secs))))
