-- States cross as `specs/Crossing.antt` says.
use mathlib.Core.Path.{◌≡◌, refl}
use mathlib.Core.Bool.{false}
use mathlib.Core.List.{List, [], ◌∷◌}
use Prim.Native.Nat.{ℕ}
use borrow.Author.Tests.{lt-ltb, le-ltb, eq-eqb}
use lib.Dec.{ltb}
use lib.IntN.{ℤ}
use lib.ListN.{length}
use Rattle.told.specs.Told.{refused}
use Rattle.totals.specs.declared.Totals.{Totals}
use Rattle.tracker.specs.Table.{check_of}
use Rattle.tracker.specs.declared.Second.{Second}
use Rattle.std.specs.Prelude.{None, Some, Option}
use Rattle.tracker.specs.declared.SequenceTracker.{SequenceTracker}
use Rattle.states.specs.State.{no_capacity, table_of, last_in, last_out}
use Rattle.table_answers.specs.Crossing.{Unusable, Crossing}

-- a state that the check refuses with 14 is refused so by every call
unusable : (t : SequenceTracker) → ((seqs : List ℕ) (secs : List ℤ) → check_of t seqs secs ≡ refused (14 ∷ [])) → Unusable t
unusable t e = record {
  check = e;
  offer = λ seqs secs seq ts. rw (e seqs secs);
  pairs = λ seqs secs xs zs l. rw (eq-eqb (length xs) (length zs) l, e seqs secs);
  own = λ seqs secs other. rw (e seqs secs);
  other = λ w seqs secs g. rw (g, e seqs secs);
  by_seq = λ seqs secs x opt. rw (e seqs secs);
  by_second = λ seqs secs x opt. rw (e seqs secs);
  sheet = λ seqs secs used l. rw (le-ltb 16 used l, e seqs secs);
  list = λ seqs secs n. rw (eq-eqb n n refl, e seqs secs);
  save = λ seqs secs room. rw (e seqs secs);
  save_strict = λ seqs secs room. rw (e seqs secs);
}

-- such a capacity is above 8,192
no_capacity_lem : (n i : ℕ) (l : Option Second) (m : Totals) (seqs : List ℕ) (secs : List ℤ) → check_of (record { count = n; capacity = no_capacity; interval_secs = i; last_recorded_ts = l; totals = m }) seqs secs ≡ refused (14 ∷ [])
no_capacity_lem n i l m seqs secs = refl

pub crossing : Crossing
crossing = record {
  same = λ t. rw (last-back t.last_recorded_ts, marked t.last_recorded_ts);
  none = unusable _ (λ seqs secs. refl);
  neither = λ s h. unusable (table_of s) (λ seqs secs. rw (lt-ltb 1 s.has_last h) (no_capacity_lem s.count s.interval_secs (last_in s.has_last s.last) s.totals seqs secs));
}
  where
    last-back : (l : Option Second) → last_in (last_out l).0 (last_out l).1 ≡ l
    last-back None = refl
    last-back (Some s) = refl

    marked : (l : Option Second) → ltb 1 (last_out l).0 ≡ false
    marked None = refl
    marked (Some s) = refl
