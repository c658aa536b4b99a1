-- A good table's pairs pass 18 and 19.
use mathlib.Core.Path.{◌≡◌}
use mathlib.Core.List.{List}
use Prim.Native.Nat.{ℕ}
use native.Mathlib.Omega.{arith}
use borrow.Author.Tests.{eq-eqb, le-ltb}
use lib.IntN.{ℤ}
use lib.ListN.{length}
use Rattle.told.specs.Told.{Told, gave}
use Rattle.tracker.specs.Table.{check_of, kept}
use Rattle.tracker.specs.declared.SequenceTracker.{SequenceTracker}
use Rattle.tracker.proofs.Good.{keeps_pairs}
use Rattle.encoder.specs.Encode.{arrays_rule}

pub passes : (table : SequenceTracker) (seqs : List ℕ) (secs : List ℤ) (next : Told ℕ) → check_of table seqs secs ≡ gave tt → arrays_rule (kept table seqs) (kept table secs) next ≡ next
unfolding arrays_rule
passes table seqs secs next good =
    let pairs = keeps_pairs table seqs secs good in
    rw (eq-eqb (length (kept table seqs)) (length (kept table secs)) pairs.0, le-ltb 65536 (length (kept table seqs)) (omega (arith, pairs.1)))
