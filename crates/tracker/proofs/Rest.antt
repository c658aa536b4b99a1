-- A check depends on the rest of the state, and of its totals only on whether they add up within 64 bits.
use mathlib.Core.Path.{◌≡◌, sym, ap, subst, ◌∙◌}
use mathlib.Core.List.{List}
use Prim.Native.Nat.{ℕ, ◌≤◌}
use lib.IntN.{ℤ}
use Rattle.told.specs.Told.{gave}
use Rattle.totals.specs.Totals.{sum_of, most, too_many}
use Rattle.totals.specs.declared.Totals.{Totals}
use Rattle.totals.proofs.Sum.{not_too_many}
use Rattle.tracker.specs.Rest.{with_totals, rest_of}
use Rattle.tracker.specs.Table.{check_of}
use Rattle.tracker.specs.declared.SequenceTracker.{SequenceTracker}
use Rattle.tracker.proofs.Good.{fine}

-- a state with the rest of another is that one with totals of its own
pub with_rest : (t u : SequenceTracker) → rest_of t ≡ rest_of u → with_totals u.totals t ≡ u
with_rest t u e = ap (with_totals u.totals) e

-- so what holds of that one with any totals holds of it
pub by-rest : (P : SequenceTracker → Type 0) (t u : SequenceTracker) → rest_of t ≡ rest_of u → P (with_totals u.totals t) → P u
by-rest P t u e = subst P (with_rest t u e)

check_totals : (t : SequenceTracker) (n : Totals) (seqs : List ℕ) (secs : List ℤ) → too_many n ≡ too_many t.totals → check_of (with_totals n t) seqs secs ≡ check_of t seqs secs
check_totals t n seqs secs e = rw e

-- so where both add up it is the same
pub fit_check : (t : SequenceTracker) (n : Totals) (seqs : List ℕ) (secs : List ℤ) → sum_of t.totals ≤ most → sum_of n ≤ most → check_of t seqs secs ≡ check_of (with_totals n t) seqs secs
fit_check t n seqs secs fit fit' = sym (check_totals t n seqs secs (not_too_many n fit' ∙ sym (not_too_many t.totals fit)))

-- and a good table is good with other totals that add up
pub good_totals : (t : SequenceTracker) (n : Totals) (seqs : List ℕ) (secs : List ℤ) → sum_of n ≤ most → check_of t seqs secs ≡ gave tt → check_of (with_totals n t) seqs secs ≡ gave tt
good_totals t n seqs secs fit good = sym (fit_check t n seqs secs (fine t seqs secs good).state.totals_fit fit) ∙ good
