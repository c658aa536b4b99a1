-- The tallies of the three lists of offers add up, and a good table is good after them.
use mathlib.Core.Path.{◌≡◌, refl, sym, subst, ◌∙◌}
use mathlib.Core.Logic.{inl, inr}
use mathlib.Core.Bool.{Bool, true, false, cond}
use mathlib.Core.List.{List, [], ◌∷◌, ◌++◌}
use Prim.Native.Nat.{ℕ, zero, suc}
use native.Mathlib.Nat.{zero-add}
use native.Mathlib.Omega.{arith}
use borrow.Author.Tests.{eq-eqb}
use lib.Dec.{eqb}
use lib.IntN.{ℤ}
use lib.ListN.{length, take}
use Rattle.told.specs.Told.{Told, gave, refused}
use Rattle.tracker.specs.Table.{kept}
use Rattle.tracker.specs.declared.TrackedSeq.{TrackedSeq}
use Rattle.order.specs.Order.{sec_outside}
use Rattle.order.specs.Inner.{NoneBelow}
use Rattle.order.proofs.Bools.{true_false}
use Rattle.tracker.proofs.Good.{fine, count-seqs, count-secs}
use Rattle.totals.specs.Totals.{sum_of}
use Rattle.offers.specs.Whole.{Table, check_in, leaving}
use Rattle.tallies.specs.Tally.{none_yet}
use Rattle.offer_log.specs.Log.{unless, run_of, log_of}
use Rattle.offer_log.specs.Pairs.{records_of, pairs_log_of, extend_of}
use Rattle.offer_log.specs.Laws.{ByAny, ByDrop, AddsUp, TalliesAddUp, GoodAfter}
use Rattle.offer_log.proofs.Preserved.{Stops, At, run_good, run_adds_up}
use Rattle.offer_log.proofs.Records.{records-length, front_length}

-- any record may be out of domain
any : (rs : List TrackedSeq) → Stops ByAny rs
unfolding Stops
any [] = tt
any (r ∷ rs) = (λ out. inl refl, any rs)

-- the first n pairs of two lists whose first n seconds are in the domain are not
inside : (n : ℕ) (qs : List ℕ) (ss : List ℤ) → NoneBelow (sec_outside ss) n → Stops ByDrop (records_of (take n qs) (take n ss))
unfolding Stops records_of
inside zero qs ss h = tt
inside (suc n) [] ss h = tt
inside (suc n) (q ∷ qs) [] h = tt
inside (suc n) (q ∷ qs) (s ∷ ss) h = (λ out. absurd (true_false _ out (h 0 (omega arith))), inside n qs ss (λ j l. h (suc j) (omega (arith, l))))

-- of rs, of which there are m
from_the_first : (By : ℕ → Type 0) (w : Table) (rs : List TrackedSeq) (m : ℕ) → length rs ≡ m → By 17 → Stops By rs → check_in w ≡ gave tt → AddsUp (At (sum_of w.state.totals) By) m (run_of w none_yet 0 rs).answer
from_the_first By w rs m e low s g =
    subst (λ (k : ℕ). AddsUp (At (sum_of w.state.totals) By) k (run_of w none_yet 0 rs).answer) (zero-add (length rs) ∙ e) (run_adds_up (sum_of w.state.totals) By w none_yet 0 rs low s g refl (omega arith))

pub tallies_add-up : TalliesAddUp
tallies_add-up w g = (
  λ rs. rw g (from_the_first ByAny w rs (length rs) refl (inr refl) (any rs) g),
  λ qs ss e.
      let rs = records_of qs ss in
      let m = length qs in
      rw (eq-eqb (length qs) (length ss) e, g) (from_the_first ByAny w rs m (records-length m qs ss refl (sym e)) (inr refl) (any rs) g),
  λ other h.
      let ok = fine other.state other.seqs other.secs h in
      let n = other.state.count in
      let rs = records_of (kept other.state other.seqs) (kept other.state other.secs) in
      let l = front_length n other.seqs other.secs (count-seqs _ _ _ ok.state) (count-secs _ _ _ ok.state) in
      rw (g, h) (from_the_first ByDrop w rs n l refl (inside n other.seqs other.secs ok.pairs.inside) g),
)

pub good-after : GoodAfter
good-after w g = (after_list, after-pairs, after-other)
  where
    after_list : (rs : List TrackedSeq) → check_in (log_of w rs).table ≡ gave tt
    after_list rs = rw g (run_good w none_yet 0 rs g)

    after-pairs : (qs : List ℕ) (ss : List ℤ) → check_in (pairs_log_of w qs ss).table ≡ gave tt
    after-pairs qs ss = go (eqb (length qs) (length ss))
      where
        go : (b : Bool) → check_in (cond b (log_of w (records_of qs ss)) (leaving (refused (18 ∷ [])) w)).table ≡ gave tt
        go true = after_list (records_of qs ss)
        go false = g

    after-other : (other : Table) → check_in (extend_of w other).table ≡ gave tt
    after-other other = rw g (go (check_in other))
      where
        rs : List TrackedSeq
        rs = records_of (kept other.state other.seqs) (kept other.state other.secs)

        go : (o : Told (Unit {0})) → check_in (unless o (λ what. leaving (refused (what ++ (1 ∷ []))) w) (run_of w none_yet 0 rs)).table ≡ gave tt
        go (gave x) = run_good w none_yet 0 rs g
        go (refused what) = g
