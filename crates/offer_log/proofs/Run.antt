-- A log from record to record: what is left of it, and what holds between two records.
use mathlib.Core.Path.{◌≡◌, refl, sym, ap, ◌∙◌}
use mathlib.Core.List.{List, [], ◌∷◌}
use Prim.Native.Nat.{ℕ, ◌+◌, ◌≤◌, ◌<◌}
use native.Mathlib.Numerals.{add-one}
use native.Mathlib.Omega.{arith}
use lib.IntN.{ℤ, pos}
use lib.ListN.{length, get_or, drop}
use lib.ListN.{drop_of_length-le}
use lib.Seq.{drop-cons}
use Rattle.std.specs.Prelude.{Result, Ok, Err}
use Rattle.told.specs.Told.{Told, gave, refused}
use Rattle.tracker.specs.Table.{check_of}
use Rattle.tracker.specs.declared.TrackedSeq.{TrackedSeq}
use Rattle.tracker.specs.declared.SequenceTracker.{SequenceTracker}
use Rattle.offers.specs.Whole.{Table, whole, Left, leaving}
use Rattle.offers.specs.Offer.{Outcome, recorded, went_back, too_soon, pair_refused, offered_to}
use Rattle.offers.proofs.Preserved.{stays_good}
use Rattle.tallies.specs.Tally.{none_yet, counted, total}
use Rattle.tallies.specs.declared.Tally.{Tally}
use Rattle.offer_log.specs.Log.{Log, done, stopped, unless_stopped, run_of}
use Rattle.offer_log.specs.Pairs.{pair_of}
use Rattle.offer_log.specs.Inner.{tells, stopped_at, left_by, Steps}
use Rattle.offer_log.specs.declared.inner.Progress.{Progress}
use Rattle.offer_log.specs.declared.inner.Stop.{Stop}

-- what stands past a list's end
abbrev pub no_record : TrackedSeq
no_record = pair_of 0 (pos 0)

abbrev pub Leaving : Type 0
Leaving = Left (Told Log)

-- what a log leaves that told this, and goes on with the records from i on
abbrev pub resumed : Told Log → Table → ℕ → List TrackedSeq → Leaving
resumed (gave (done t n)) w i rs = run_of w n i rs
resumed (gave (stopped what t n)) w i rs = leaving (gave (stopped what t n)) w
resumed (refused what) w i rs = leaving (refused what) w

abbrev pub onward : Leaving → ℕ → List TrackedSeq → Leaving
onward l i rs = resumed l.answer l.table i rs

-- a log goes on after one record
pub from_one : (w : Table) (n : Tally) (i : ℕ) (r : TrackedSeq) (rs : List TrackedSeq) → run_of w n i (r ∷ rs) ≡ onward (run_of w n i (r ∷ [])) (i + 1) rs
unfolding run_of
from_one w n i r rs = go (tells w r)
  where
    go : (o : Told Outcome) → let w' = offered_to w r.seq r.ts o in unless_stopped o (stopped_at w' n i) (run_of w' (counted o n) (i + 1) rs) ≡ onward (unless_stopped o (stopped_at w' n i) (run_of w' (counted o n) (i + 1) [])) (i + 1) rs
    go (gave (recorded t)) = refl
    go (gave (went_back t)) = refl
    go (gave (too_soon t)) = refl
    go (gave (pair_refused what t)) = refl
    go (refused what) = refl

-- where the log goes on after an offer, it was not refused, and counts once
pub one_more_lem : {B : Type 0} (P : B → Type 0) (o : Told Outcome) (n : Tally) (stop : List ℕ → B) (next : B) → ((what : List ℕ) → P (stop what) → ⊥) → P (unless_stopped o stop next)
    → P next × (total (counted o n) ≡ total n + 1)
one_more_lem P (gave (recorded t)) n stop next never h = (h, omega arith)
one_more_lem P (gave (went_back t)) n stop next never h = (h, omega arith)
one_more_lem P (gave (too_soon t)) n stop next never h = (h, omega arith)
one_more_lem P (gave (pair_refused what t)) n stop next never h = absurd (never what h)
one_more_lem P (refused what) n stop next never h = absurd (never what h)

-- `all` is what the log leaves that has gone on to the record i, with these arrays: its table is good, and each record before i was counted
pub record Upto (all : Leaving) (rs : List TrackedSeq) (p : Progress) (seqs : List ℕ) (secs : List ℤ) (i : ℕ) : Type 0 where
  pub so_far : all ≡ run_of (whole p.table seqs secs) p.tally i (drop i rs)
  pub good : check_of p.table seqs secs ≡ gave tt
  pub total_is : total p.tally ≡ i

-- the table, the tally and the arrays of a log that goes on
module _ (t : Progress) (seqs : List ℕ) (secs : List ℤ) (w : Table) (n : Tally) where
  pub record Stands : Type 0 where
    pub table : t.table ≡ w.state
    pub tally : t.tally ≡ n
    pub seqs_are : seqs ≡ w.seqs
    pub secs_are : secs ≡ w.secs

  stands : leaving (gave (done t.table t.tally)) (whole t.table seqs secs) ≡ leaving (gave (done w.state n)) w → Stands
  stands e =
      let a = ap (λ (l : Leaving). l.answer) e in
      record { table = cc a; tally = cc a; seqs_are = ap (λ (l : Leaving). l.table.seqs) e; secs_are = ap (λ (l : Leaving). l.table.secs) e }

-- one that goes on has not stopped
not_stopped : {A : Type 0} (t : SequenceTracker) (n : Tally) (what : List ℕ) (t' : SequenceTracker) (n' : Tally) → ◌≡◌ {A = Told Log} (gave (done t n)) (gave (stopped what t' n')) → A
not_stopped t n what t' n' e = absurd (let z : ◌≡◌ {A = ℕ} 0 1 = cc e in omega arith)

-- at the start
pub started : (table : SequenceTracker) (seqs : List ℕ) (secs : List ℤ) (rs : List TrackedSeq) → check_of table seqs secs ≡ gave tt
    → Upto (run_of (whole table seqs secs) none_yet 0 rs) rs (record { table = table; tally = none_yet }) seqs secs 0
started table seqs secs rs good = record { so_far = refl; good = good; total_is = refl }

module _ {all : Leaving} {rs : List TrackedSeq} {p : Progress} {seqs : List ℕ} {secs : List ℤ} {i : ℕ} (u : Upto all rs p seqs secs i) where
  -- one record on, by what `step` answers
  module _ (below : i < length rs) (r : TrackedSeq) (is : r ≡ get_or rs i no_record) (s : Result Progress Stop) (seqs' : List ℕ) (secs' : List ℤ) (e : Steps p seqs secs r s seqs' secs') where
    at_i : left_by s seqs' secs' ≡ run_of (whole p.table seqs secs) p.tally i (r ∷ [])
    at_i = e ∙ ap (λ (k : ℕ). run_of (whole p.table seqs secs) p.tally k (r ∷ [])) u.total_is

    cut : drop i rs ≡ r ∷ drop (i + 1) rs
    cut = rw (is, add-one) (drop-cons rs i no_record below)

    gone_on : all ≡ onward (left_by s seqs' secs') (i + 1) (drop (i + 1) rs)
    gone_on =
        u.so_far ∙ ap (run_of (whole p.table seqs secs) p.tally i) cut ∙ from_one (whole p.table seqs secs) p.tally i r (drop (i + 1) rs)
        ∙ ap (λ (l : Leaving). onward l (i + 1) (drop (i + 1) rs)) (sym at_i)

  -- it goes on
  pub next : i < length rs → (r : TrackedSeq) → r ≡ get_or rs i no_record → (t : Progress) (seqs' : List ℕ) (secs' : List ℤ) → Steps p seqs secs r (Ok t) seqs' secs' → Upto all rs t seqs' secs' (i + 1)
  unfolding run_of
  next below r is t seqs' secs' e =
      let a = stepped (tells (whole p.table seqs secs) r) refl (at_i below r is (Ok t) seqs' secs' e) in
      record { so_far = gone_on below r is (Ok t) seqs' secs' e; good = a.0; total_is = a.1 }
    where
      stepped : (o : Told Outcome) → tells (whole p.table seqs secs) r ≡ o
          → leaving (gave (done t.table t.tally)) (whole t.table seqs' secs')
          ≡ (let w = offered_to (whole p.table seqs secs) r.seq r.ts o in unless_stopped o (stopped_at w p.tally i) (leaving (gave (done w.state (counted o p.tally))) w))
          → (check_of t.table seqs' secs' ≡ gave tt) × (total t.tally ≡ i + 1)
      stepped o f e =
          let w = offered_to (whole p.table seqs secs) r.seq r.ts o in
          let on = one_more_lem (λ (l : Leaving). leaving (gave (done t.table t.tally)) (whole t.table seqs' secs') ≡ l) o p.tally (stopped_at w p.tally i) (leaving (gave (done w.state (counted o p.tally))) w)
          (λ what h. not_stopped _ _ _ _ _ (ap (λ (l : Leaving). l.answer) h)) e in
          let s = stands t seqs' secs' w (counted o p.tally) on.0 in
          (rw (s.table, s.seqs_are, s.secs_are) (stays_good p.table seqs secs r.seq r.ts o f u.good), ap total s.tally ∙ on.1 ∙ ap (λ (k : ℕ). k + 1) u.total_is)

  -- it is stopped there
  pub stops : i < length rs → (r : TrackedSeq) → r ≡ get_or rs i no_record → (s : Stop) (seqs' : List ℕ) (secs' : List ℤ) → Steps p seqs secs r (Err s) seqs' secs' → left_by (Err s) seqs' secs' ≡ all
  stops below r is s seqs' secs' e = sym (gone_on below r is (Err s) seqs' secs' e)

  -- at the end nothing is left
  pub ended : length rs ≤ i → left_by (Ok p) seqs secs ≡ all
  unfolding run_of
  ended h = sym (u.so_far ∙ rw (drop_of_length-le rs {i = i} h))
