-- Two tables that are alike are told the same of an offer and of a list of offers but for the totals, and are alike afterwards.
use mathlib.Core.Path.{◌≡◌, refl, sym, ap, subst, ◌∙◌}
use mathlib.Core.Bool.{Bool, true, false, cond}
use mathlib.Core.List.{List, [], ◌∷◌, ◌++◌}
use Prim.Native.Nat.{ℕ, ◌+◌, ◌≤◌}
use native.Mathlib.Omega.{arith}
use borrow.Author.Tests.{eqb-true}
use lib.Dec.{eqb}
use lib.IntN.{ℤ}
use lib.ListN.{length}
use Rattle.told.specs.Told.{Told, gave, refused}
use Rattle.tracker.specs.declared.Seq.{Seq}
use Rattle.tracker.specs.declared.Second.{Second}
use Rattle.tracker.specs.declared.TrackedSeq.{TrackedSeq}
use Rattle.tracker.specs.declared.SequenceTracker.{SequenceTracker}
use Rattle.offers.specs.Whole.{Table, check_in, Left, leaving}
use Rattle.totals.specs.Totals.{sum_of, most}
use Rattle.totals.specs.declared.Totals.{Totals}
use Rattle.tracker.proofs.Good.{fine, count-seqs, count-secs}
use Rattle.offers.specs.Offer.{Outcome, recorded, went_back, too_soon, pair_refused, offer_to, offered_to, offering}
use Rattle.offers.specs.Rest.{offer_with, offer_rest}
use Rattle.offers.proofs.Alike.{Alike, alike-told}
use Rattle.offers.proofs.Counted.{at_most_one}
use Rattle.tallies.specs.declared.Tally.{Tally}
use Rattle.tallies.specs.Tally.{none_yet, counted}
use Rattle.offer_log.specs.Log.{Log, done, stopped, unless, unless_stopped, run_of, log_of}
use Rattle.offer_log.specs.Rest.{log_rest}
use Rattle.offer_log.proofs.Records.{records-length, front_length}
use Rattle.offer_log.specs.Pairs.{records_of, pairs_log_of, extend_of}
use Rattle.offer_log.specs.Inner.{tells, after_record, stopped_at}
use Rattle.theorems.specs.Alike.{kept_in, ToldAlike}
use Rattle.theorems.proofs.Sound.{offered-told, offered-alike}

pub kept_same : (w v : Table) → Alike w v → kept_in w ≡ kept_in v
kept_same w v a = λ i. record { seqs = a.same_seqs i; secs = a.same_secs i }

-- they are counted the same
counted-with : (m : Totals) (o : Told Outcome) (n : Tally) → counted (offer_with m o) n ≡ counted o n
counted-with m (gave (recorded t)) n = refl
counted-with m (gave (went_back t)) n = refl
counted-with m (gave (too_soon t)) n = refl
counted-with m (gave (pair_refused what t)) n = refl
counted-with m (refused what) n = refl

-- what holds of two alike tables beside that, as `Still`, and is kept up by what an offer tells them
abbrev pub KeptUp : (Table → Table → Type 0) → Type 0
KeptUp Still = (w v : Table) → Alike w v → Still w v → (seq : Seq) (ts : Second) (o : Told Outcome) (m : Totals) → Still (offered_to w seq ts o) (offered_to v seq ts (offer_with m o))

module _ (Still So : Table → Table → Type 0) (keeps : KeptUp Still) (so : (w v : Table) → Alike w v → Still w v → So w v) where
  -- what is told is the same but for the totals, the tables are alike, and it still holds
  abbrev LeftAlike : Left (Told Log) → Left (Told Log) → Type 0
  LeftAlike l m = (log_rest l.answer ≡ log_rest m.answer) × Alike l.table m.table × Still l.table m.table

  -- a log that stops, or goes on, after two offers that are told the same but for the totals
  both_ways : (m : Totals) (o : Told Outcome) (w v : Table) (n : Tally) (i : ℕ) (l k : Left (Told Log)) → Alike w v → Still w v → LeftAlike l k
      → LeftAlike (unless_stopped o (stopped_at w n i) l) (unless_stopped (offer_with m o) (stopped_at v n i) k)
  both_ways m (gave (recorded t)) w v n i l k a b h = h
  both_ways m (gave (went_back t)) w v n i l k a b h = h
  both_ways m (gave (too_soon t)) w v n i l k a b h = h
  both_ways m (gave (pair_refused what t)) w v n i l k a b h = (ap (λ (s : SequenceTracker). gave (stopped (what ++ (i ∷ [])) s n)) a.same_rest, a, b)
  both_ways m (refused what) w v n i l k a b h = (ap (λ (s : SequenceTracker). gave (stopped (what ++ (i ∷ [])) s n)) a.same_rest, a, b)

  -- an offer
  module _ (w v : Table) (a : Alike w v) (b : Still w v) (seq : Seq) (ts : Second) (one : sum_of w.state.totals + 1 ≤ most) (one' : sum_of v.state.totals + 1 ≤ most) where
    still_after : Still (offered_to w seq ts (offer_to w seq ts)) (offered_to v seq ts (offer_to v seq ts))
    still_after = let t = alike-told seq ts w v a one one' in rw t.1 (keeps w v a b seq ts (offer_to w seq ts) t.0)

    pub offer-alike : ToldAlike So offer_rest (offering w seq ts) (offering v seq ts)
    offer-alike = (offered-told w v a seq ts one one', so _ _ (offered-alike w v a seq ts one one') still_after)

  run_alike : (w v : Table) (n : Tally) (i : ℕ) (rs : List TrackedSeq) → Alike w v → Still w v → sum_of w.state.totals + length rs ≤ most → sum_of v.state.totals + length rs ≤ most → LeftAlike (run_of w n i rs) (run_of v n i rs)
  unfolding run_of
  run_alike w v n i [] a b room room' = (ap (λ (s : SequenceTracker). gave (done s n)) a.same_rest, a, b)
  run_alike w v n i (r ∷ rs) a b room room' =
      let one : sum_of w.state.totals + 1 ≤ most = omega (arith, room) in
      let one' : sum_of v.state.totals + 1 ≤ most = omega (arith, room') in
      let t = alike-told r.seq r.ts w v a one one' in
      let after = offered-alike w v a r.seq r.ts one one' in
      let still = still_after w v a b r.seq r.ts one one' in
      let more = run_alike (after_record w r) (after_record v r) (counted (tells w r) n) (i + 1) rs after still (omega (arith, room, at_most_one w r.seq r.ts)) (omega (arith, room', at_most_one v r.seq r.ts)) in
      let e : counted (tells v r) n ≡ counted (tells w r) n = ap (λ (o : Told Outcome). counted o n) t.1 ∙ counted-with t.0 (tells w r) n in
      rw e
      (subst (λ (o : Told Outcome). LeftAlike (unless_stopped (tells w r) (stopped_at (after_record w r) n i) (run_of (after_record w r) (counted (tells w r) n) (i + 1) rs)) (unless_stopped o (stopped_at (after_record v r) n i) (run_of (after_record v r) (counted (tells w r) n) (i + 1) rs))) (sym t.1)
      (both_ways t.0 (tells w r) (after_record w r) (after_record v r) n i _ _ after still more))

  module _ (w v : Table) (g : check_in w ≡ gave tt) (g' : check_in v ≡ gave tt) (a : Alike w v) (b : Still w v) where
    run_told : (rs : List TrackedSeq) → sum_of w.state.totals + length rs ≤ most → sum_of v.state.totals + length rs ≤ most → ToldAlike So log_rest (run_of w none_yet 0 rs) (run_of v none_yet 0 rs)
    run_told rs room room' = let h = run_alike w v none_yet 0 rs a b room room' in (h.0, so _ _ h.1 h.2)

    module _ (m : ℕ) (room : sum_of w.state.totals + m ≤ most) (room' : sum_of v.state.totals + m ≤ most) where
      pub log_alike : (rs : List TrackedSeq) → length rs ≤ m → ToldAlike So log_rest (log_of w rs) (log_of v rs)
      log_alike rs few = rw (g, g') (run_told rs (omega (arith, room, few)) (omega (arith, room', few)))

      pub pairs-alike : (qs : List ℕ) (ss : List ℤ) → (length qs ≡ length ss → length qs ≤ m) → ToldAlike So log_rest (pairs_log_of w qs ss) (pairs_log_of v qs ss)
      pairs-alike qs ss few = go (eqb (length qs) (length ss)) refl
        where
          go : (x : Bool) → eqb (length qs) (length ss) ≡ x → ToldAlike So log_rest (cond x (log_of w (records_of qs ss)) (leaving (refused (18 ∷ [])) w)) (cond x (log_of v (records_of qs ss)) (leaving (refused (18 ∷ [])) v))
          go true e = let same = eqb-true (length qs) (length ss) e in log_alike (records_of qs ss) (omega (arith, few same, records-length (length qs) qs ss refl (sym same)))
          go false e = (refl, so w v a b)

      pub extend-alike : (other : Table) → (check_in other ≡ gave tt → other.state.count ≤ m) → ToldAlike So log_rest (extend_of w other) (extend_of v other)
      extend-alike other few = rw (g, g') (go (check_in other) refl)
        where
          rs : List TrackedSeq
          rs = records_of (kept_in other).seqs (kept_in other).secs

          bad : Table → List ℕ → Left (Told Log)
          bad w what = leaving (refused (what ++ (1 ∷ []))) w

          long : check_in other ≡ gave tt → length rs ≡ other.state.count
          long h = let ok = (fine other.state other.seqs other.secs h).state in front_length other.state.count other.seqs other.secs (count-seqs _ _ _ ok) (count-secs _ _ _ ok)

          go : (o : Told (Unit {0})) → check_in other ≡ o → ToldAlike So log_rest (unless o (bad w) (run_of w none_yet 0 rs)) (unless o (bad v) (run_of v none_yet 0 rs))
          go (gave tt) h = run_told rs (omega (arith, room, few h, long h)) (omega (arith, room', few h, long h))
          go (refused what) h = (refl, so w v a b)

pub extend-by-alike : (w v : Table) → check_in w ≡ gave tt → check_in v ≡ gave tt → Alike w v → (other : Table) → extend_of other w ≡ extend_of other v
extend-by-alike w v g g' a other = rw (g, g', a.same_seqs, a.same_secs)
