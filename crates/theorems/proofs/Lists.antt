-- A list of offers leaves what the records that it offered leave when they are offered one by one, and counts what these are told.
use mathlib.Core.Path.{◌≡◌, refl, sym, ap, subst, ◌∙◌}
use mathlib.Core.Bool.{Bool, true, false, cond}
use mathlib.Core.List.{List, [], ◌∷◌, ◌++◌, append-nil}
use Prim.Native.Nat.{ℕ, zero, suc, ◌+◌}
use native.Mathlib.Omega.{arith}
use lib.Dec.{eqb}
use lib.IntN.{ℤ}
use lib.ListN.{length, take}
use lib.Seq.{take_all}
use Rattle.told.specs.Told.{Told, gave, refused}
use Rattle.tracker.specs.declared.TrackedSeq.{TrackedSeq}
use Rattle.offers.specs.Whole.{Table, check_in, Left, leaving}
use Rattle.offers.specs.Offer.{Outcome, recorded, went_back, too_soon, pair_refused, offered_to}
use Rattle.tallies.specs.declared.Tally.{Tally}
use Rattle.tallies.specs.Tally.{none_yet, counted, total}
use Rattle.offer_log.specs.Log.{Log, done, stopped, unless, unless_stopped, run_of, log_of}
use Rattle.offer_log.specs.Pairs.{records_of, pairs_log_of, extend_of}
use Rattle.offer_log.specs.Inner.{tells, after_record, stopped_at}
use Rattle.theorems.specs.Alike.{kept_in}
use Rattle.theorems.specs.Run.{Event, ran_to, step, answers}
use Rattle.theorems.specs.Lists.{offers_of, tally_in, tallied, tried_of, TellsState, refusal_in, refusals_in, TellsRefusal, OneByOne, ListsAreOffers}

-- two tallies together
abbrev plus : Tally → Tally → Tally
plus n m = record { recorded = n.recorded + m.recorded; went_back = n.went_back + m.went_back; too_soon = n.too_soon + m.too_soon }

same_tally : {a b c a' b' c' : ℕ} → a ≡ a' → b ≡ b' → c ≡ c' → ◌≡◌ {A = Tally} (record { recorded = a; went_back = b; too_soon = c }) (record { recorded = a'; went_back = b'; too_soon = c' })
same_tally e f g = λ i. record { recorded = e i; went_back = f i; too_soon = g i }

plus_none : (n : Tally) → n ≡ plus n none_yet
plus_none n = same_tally (omega arith) (omega arith) (omega arith)

none_plus : (m : Tally) → plus none_yet m ≡ m
none_plus m = same_tally (omega arith) (omega arith) (omega arith)

-- an offer may be counted on either side
plus_counted : (o : Told Outcome) (n m : Tally) → plus (counted o n) m ≡ plus n (counted o m)
plus_counted (gave (recorded t)) n m = same_tally (omega arith) refl refl
plus_counted (gave (went_back t)) n m = same_tally refl (omega arith) refl
plus_counted (gave (too_soon t)) n m = same_tally refl refl (omega arith)
plus_counted (gave (pair_refused what t)) n m = refl
plus_counted (refused what) n m = refl

-- k records were offered after n were counted: all, or those up to the refused one and that one
abbrev UpTo : ℕ → Tally → List TrackedSeq → Told Log → Type 0
UpTo k n rs (gave (done t m)) = length rs ≡ k
UpTo k n rs (gave (stopped what t m)) = total m + 1 ≡ total n + k
UpTo k n rs (refused what) = ⊥

-- what a log leaves is what these leave, and what it counts is what they are told
record More (w : Table) (n : Tally) (rs : List TrackedSeq) (l : Left (Told Log)) : Type 0 where
  k : ℕ
  upto : UpTo k n rs l.answer
  leaves : l.table ≡ ran_to w (offers_of (take k rs))
  tells-state : TellsState l.table.state l.answer
  tallies : tally_in l.answer ≡ plus n (tallied (answers w (offers_of (take k rs))))
  tells-refusal : TellsRefusal (refusals_in (answers w (offers_of (take k rs)))) l.answer

-- one record before them, which was counted
up_one : (k : ℕ) (n m : Tally) (r : TrackedSeq) (rs : List TrackedSeq) (a : Told Log) → total m ≡ total n + 1 → UpTo k m rs a → UpTo (suc k) n (r ∷ rs) a
up_one k n m r rs (gave (done t x)) c u = ap suc u
up_one k n m r rs (gave (stopped what t x)) c u = omega (arith, c, u)
up_one k n m r rs (refused what) c u = u

run_more : (w : Table) (n : Tally) (i : ℕ) (rs : List TrackedSeq) → total n ≡ i → More w n rs (run_of w n i rs)
unfolding run_of ran_to step answers tallied refusals_in
run_more w n i [] h = record { tells-refusal = refl; k = 0; upto = refl; leaves = refl; tells-state = refl; tallies = plus_none n }
run_more w n i (r ∷ rs) h = go (tells w r) refl (λ (c : total (counted (tells w r) n) ≡ total n + 1). run_more (after_record w r) (counted (tells w r) n) (i + 1) rs (omega (arith, c, h)))
  where
    after : Told Outcome → Table
    after o = offered_to w r.seq r.ts o

    rest : Told Outcome → Left (Told Log)
    rest o = run_of (after o) (counted o n) (i + 1) rs

    -- the rest, if r was counted
    Rest : Told Outcome → Type 0
    Rest o = total (counted o n) ≡ total n + 1 → More (after o) (counted o n) rs (rest o)

    on : (o : Told Outcome) → tells w r ≡ o → total (counted o n) ≡ total n + 1 → refusal_in o ≡ [] → More (after o) (counted o n) rs (rest o) → More w n (r ∷ rs) (rest o)
    on o e c z m = record {
      tells-refusal =
          subst (λ (x : Told Outcome). TellsRefusal (refusal_in x ++ refusals_in (answers (after x) (offers_of (take m.k rs)))) (rest o).answer) (sym e)
          (subst (λ (l : List ℕ). TellsRefusal (l ++ refusals_in (answers (after o) (offers_of (take m.k rs)))) (rest o).answer) (sym z) m.tells-refusal);
      k = suc m.k;
      upto = up_one m.k n (counted o n) r rs (rest o).answer c m.upto;
      tells-state = m.tells-state;
      leaves = m.leaves ∙ ap (λ (o : Told Outcome). ran_to (after o) (offers_of (take m.k rs))) (sym e);
      tallies =
          m.tallies ∙ plus_counted o n _
          ∙ ap (λ (o : Told Outcome). plus n (counted o (tallied (answers (after o) (offers_of (take m.k rs)))))) (sym e);
    }

    ends : (o : Told Outcome) (what : List ℕ) → tells w r ≡ o → refusal_in o ≡ what → ((x : Tally) → counted o x ≡ x) → More w n (r ∷ rs) (stopped_at (after o) n i what)
    ends o what e z none = record {
      tells-refusal = ap (λ (j : ℕ). what ++ (j ∷ [])) (sym h) ∙ ap (λ (l : List ℕ). l ++ (total n ∷ [])) (sym (append-nil what)) ∙ ap (λ (l : List ℕ). (l ++ []) ++ (total n ∷ [])) (sym z ∙ ap refusal_in (sym e));
      k = suc zero;
      upto = refl;
      tells-state = refl;
      leaves = ap after (sym e);
      tallies = plus_none n ∙ ap (plus n) (sym (none none_yet)) ∙ ap (λ (o : Told Outcome). plus n (counted o none_yet)) (sym e);
    }

    go : (o : Told Outcome) → tells w r ≡ o → Rest o → More w n (r ∷ rs) (unless_stopped o (stopped_at (after o) n i) (rest o))
    go (gave (recorded t)) e m = on (gave (recorded t)) e (omega arith) refl (m (omega arith))
    go (gave (went_back t)) e m = on (gave (went_back t)) e (omega arith) refl (m (omega arith))
    go (gave (too_soon t)) e m = on (gave (too_soon t)) e (omega arith) refl (m (omega arith))
    go (gave (pair_refused what t)) e m = ends (gave (pair_refused what t)) what e refl (λ x. refl)
    go (refused what) e m = ends (refused what) what e refl (λ x. refl)

-- from the first record on
run_one-by-one : (w : Table) (rs : List TrackedSeq) → OneByOne w rs (run_of w none_yet 0 rs)
run_one-by-one w rs =
    let m = run_more w none_yet 0 rs refl in
    let e = tried m.k (run_of w none_yet 0 rs).answer m.upto in (
      m.leaves ∙ ap (ran_to w) e,
      m.tells-state,
      m.tallies ∙ none_plus (tallied (answers w (offers_of (take m.k rs)))) ∙ ap (λ (es : List Event). tallied (answers w es)) e,
      subst (λ (es : List Event). TellsRefusal (refusals_in (answers w es)) (run_of w none_yet 0 rs).answer) e m.tells-refusal,
    )
  where
    tried : (k : ℕ) (a : Told Log) → UpTo k none_yet rs a → offers_of (take k rs) ≡ tried_of rs a
    tried k (gave (done t x)) u = ap offers_of (take_all k rs (omega (arith, u)))
    tried k (gave (stopped what t x)) u = let e : k ≡ total x + 1 = omega (arith, u) in ap (λ (j : ℕ). offers_of (take j rs)) e
    tried k (refused what) u = absurd u

module _ (w : Table) where
  list-one-by-one : (rs : List TrackedSeq) → OneByOne w rs (log_of w rs)
  unfolding ran_to answers tallied
  list-one-by-one rs = go (check_in w)
    where
      go : (o : Told (Unit {0})) → OneByOne w rs (unless o (λ what. leaving (refused what) w) (run_of w none_yet 0 rs))
      go (gave x) = run_one-by-one w rs
      go (refused what) = (refl, tt, refl, tt)

  pairs-one-by-one : (qs : List ℕ) (ss : List ℤ) → OneByOne w (records_of qs ss) (pairs_log_of w qs ss)
  unfolding ran_to answers tallied
  pairs-one-by-one qs ss = go (eqb (length qs) (length ss))
    where
      go : (b : Bool) → OneByOne w (records_of qs ss) (cond b (log_of w (records_of qs ss)) (leaving (refused (18 ∷ [])) w))
      go true = list-one-by-one (records_of qs ss)
      go false = (refl, tt, refl, tt)

  extend-one-by-one : (other : Table) → OneByOne w (records_of (kept_in other).seqs (kept_in other).secs) (extend_of w other)
  unfolding ran_to answers tallied
  extend-one-by-one other = go (check_in w) (check_in other)
    where
      rs : List TrackedSeq
      rs = records_of (kept_in other).seqs (kept_in other).secs

      go : (o p : Told (Unit {0}))
          → OneByOne w rs (unless o (λ what. leaving (refused (what ++ (0 ∷ []))) w) (unless p (λ what. leaving (refused (what ++ (1 ∷ []))) w) (run_of w none_yet 0 rs)))
      go (refused what) p = (refl, tt, refl, tt)
      go (gave x) (refused what) = (refl, tt, refl, tt)
      go (gave x) (gave y) = run_one-by-one w rs

pub lists_are_offers : ListsAreOffers
lists_are_offers w = (list-one-by-one w, pairs-one-by-one w, extend-one-by-one w)
