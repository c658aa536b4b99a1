-- What holds of a table and of the pairs recorded so far, from offer to offer.
use mathlib.Core.Path.{◌≡◌, refl, sym, ap, subst, ◌∙◌}
use mathlib.Core.Logic.{⊎_elim}
use mathlib.Core.Bool.{Bool, true, false, cond, ◌&&◌}
use mathlib.Core.List.{List, [], ◌∷◌, ◌++◌, append-nil, append_assoc}
use Prim.Native.Nat.{ℕ, suc, ◌+◌, ◌-◌, ◌*◌, ◌≤◌, ◌<◌}
use native.Mathlib.Nat.{eq-or-lt_of_le, add-mul, one-mul, add-zero}
use native.Mathlib.Omega.{arith}
use borrow.Author.Tests.{le-ltb, lt-ltb}
use lib.Dec.{ltb}
use lib.ListN.{length, length-append, get_or-append}
use lib.Seq.{get_or-append_seam}
use lib.Signed.{lt_z}
use Rattle.told.specs.Told.{Told, gave, refused}
use Rattle.totals.specs.declared.Fate.{Fate}
use Rattle.totals.specs.declared.Fate.TheVariants as fate
use Rattle.order.proofs.Bools.{below_or}
use Rattle.order.proofs.Order.{Order, nat_order, int_order, itself, further}
use Rattle.tracker.specs.declared.TrackedSeq.{TrackedSeq}
use Rattle.tracker.specs.declared.SequenceTracker.{SequenceTracker}
use Rattle.keeping.specs.Keep.{evens}
use Rattle.keeping.proofs.Thinned.{length-evens}
use Rattle.offers.specs.Whole.{Table, whole, check_in}
use Rattle.offers.specs.Offer.{Outcome, recorded, went_back, too_soon, pair_refused, counting, offer_to, offered_to}
use Rattle.offers.proofs.Counted.{counts_so}
use Rattle.offers.proofs.Preserved.{taken, stays_good}
use Rattle.offer_log.proofs.Run.{no_record}
use Rattle.theorems.specs.Run.{step, ran_to}
use Rattle.theorems.specs.Totals.{was_recorded}
use Rattle.halving.specs.History.{kept_pairs, after, records, halves, now, recorded_of, halvings_of}
use Rattle.halving.specs.Coarse.{pair_at, Places, InOrder}
use Rattle.halving.proofs.Level.{level, level_mono, level_count, bound, bound_some, bound_falls, bound_twice}
use Rattle.halving.proofs.Spread.{Spread, spread_all, all-at, spread_more, more_old, more_new, spread_halved, halved-at}
use Rattle.halving.proofs.Kept.{kept-count, few, seqs_in_order, secs_in_order, kept-recorded, seq_on, sec_on}
use Rattle.halving.proofs.Exact.{Exact, exact_same, exact-all, exact_more, exact-halved}

-- ---- one pair more

-- in order by a key, where it is not below the newest
order_more : {K : Type 0} (lt : K → K → Bool) (O : Order lt) (key : TrackedSeq → K) (rec : List TrackedSeq) (r : TrackedSeq)
    → InOrder lt key rec → (0 < length rec → lt (key r) (key (pair_at rec (length rec - 1))) ≡ false) → InOrder lt key (rec ++ (r ∷ []))
order_more lt O key rec r sorted on x y h l =
    ⊎_elim
    (λ (b : y < length rec). rw (get_or-append rec (r ∷ []) no_record y b, get_or-append rec (r ∷ []) no_record x (omega arith)) (sorted x y h b))
    (λ (b : length rec ≤ y).
    let e : y ≡ length rec = omega (arith, length-append rec (r ∷ [])) in
    rw (e, get_or-append_seam rec r [] no_record) (⊎_elim (λ (s : x ≡ length rec). rw (s, get_or-append_seam rec r [] no_record) (itself lt O (key r)))
    (λ (s : x < length rec).
    rw (get_or-append rec (r ∷ []) no_record x s)
    (further lt O (key (pair_at rec x)) (key (pair_at rec (length rec - 1))) (key r) (sorted x (length rec - 1) (omega arith) (omega arith)) (on (omega arith))))
    (eq-or-lt_of_le (omega arith))))
    (below_or y (length rec))

-- the newest recorded pair is the last kept one
newest-kept : {rec kept : List TrackedSeq} → Places rec kept → 0 < length rec → (0 < length kept) × (pair_at rec (length rec - 1) ≡ pair_at kept (length kept - 1))
newest-kept {rec} {kept} P h =
    let s = (P.first h).0 in
    (s, ap (pair_at rec) (sym (P.newest h)) ∙ sym (P.each (length kept - 1) (omega arith)).1)

module _ (half : ℕ) (some : 0 < half) where
  -- the kept pairs among the recorded ones, after k halvings
  pub record Stands (k : ℕ) (rec kept : List TrackedSeq) : Type 0 where
    pub spread : Spread (bound half some k) rec kept
    pub counted : length rec ≡ length kept + k * half
    pub full : 0 < k → half < length kept
    pub exact : Exact half some k rec kept spread.places.at

  stands_all : (l : List TrackedSeq) → length l ≤ half + half → Stands 0 l l
  stands_all l few = record {
    spread = spread_all (bound half some 0) l (bound_some half some 0);
    counted = omega arith;
    full = λ h. absurd (omega arith);
    exact = exact_same half some 0 l l (λ i. i) _ (all-at (bound half some 0) l (bound_some half some 0)) (exact-all half some l few);
  }

  pub levelled : (k : ℕ) (rec kept : List TrackedSeq) → Stands k rec kept → length kept ≤ half + half → level half some (length rec) ≡ k
  levelled k rec kept S fits = level_count half some (length rec) (length kept) k S.counted fits S.full

  module _ (k : ℕ) (rec kept : List TrackedSeq) (S : Stands k rec kept) (r : TrackedSeq) where
    long : (l : List TrackedSeq) → length (l ++ (r ∷ [])) ≡ length l + 1
    long l = length-append l (r ∷ [])

    spread_with : Spread (bound half some k) (rec ++ (r ∷ [])) (kept ++ (r ∷ []))
    spread_with = spread_more (bound half some k) rec kept S.spread r (bound_some half some k)

    with_old : (i : ℕ) → i < length kept → spread_with.places.at i ≡ S.spread.places.at i
    unfolding spread_with
    with_old = more_old (bound half some k) rec kept S.spread r (bound_some half some k)

    with-new : spread_with.places.at (length kept) ≡ length rec
    unfolding spread_with
    with-new = more_new (bound half some k) rec kept S.spread r (bound_some half some k)

    stands_more : length kept < half + half → Stands k (rec ++ (r ∷ [])) (kept ++ (r ∷ []))
    stands_more fits = record {
      spread = spread_with;
      counted = omega (arith, long rec, long kept, S.counted);
      full = λ h. omega (arith, long kept, S.full h);
      exact =
          exact_more half some k rec kept S.spread.places.at S.exact S.counted r spread_with.places.at with_old with-new
          (level_count half some (length rec + 1) (length kept + 1) k (omega (arith, S.counted)) (omega arith) (λ h. omega (arith, S.full h)));
    }

    stands_halved : length kept ≡ half + half → Stands (suc k) (rec ++ (r ∷ [])) (evens (kept ++ (r ∷ [])))
    stands_halved e =
        let l = kept ++ (r ∷ []) in
        let odd : length l ≡ half + half + 1 = omega (arith, long kept) in
        let less : length (evens l) ≡ half + 1 = length-evens l ∙ omega arith in
        let low = levelled k rec kept S (omega arith) in
        let top : level half some (length rec + 1) ≡ k + 1 = level_count half some (length rec + 1) (half + 1) (k + 1) (omega (arith, S.counted, add-mul k 1 half, one-mul half)) (omega arith) (λ h. omega arith) in
        let s : k + 1 ≡ suc k = omega arith in
        rw (← s) (record {
          spread = spread_halved (bound half some k) (rec ++ (r ∷ [])) l spread_with half odd (bound half some (k + 1)) (bound_falls half some k) (bound_some half some (k + 1)) (twice low);
          counted = omega (arith, long rec, less, S.counted, add-mul k 1 half, one-mul half);
          full = λ h. omega (arith, less);
          exact =
              exact_same half some (k + 1) (rec ++ (r ∷ [])) (evens l) (λ i. spread_with.places.at (i + i)) _
              (halved-at (bound half some k) (rec ++ (r ∷ [])) l spread_with half odd (bound half some (k + 1)) (bound_falls half some k) (bound_some half some (k + 1)) (twice low))
              (exact-halved half some k rec kept S.spread.places.at S.exact S.counted r spread_with.places.at with_old with-new (λ i h. (S.spread.places.each i h).0) e low top);
        })
      where
        twice : level half some (length rec) ≡ k → (x : ℕ) → x + 1 < length (rec ++ (r ∷ [])) → bound half some k x + bound half some k x ≤ bound half some (k + 1) x
        twice low x h = bound_twice half some k x (omega (arith, low, level_mono half some (x + 1) (length rec) (omega (arith, long rec))))

    -- in a table of this capacity that keeps n
    stands_thinned : (cap n : ℕ) → cap ≡ half + half → length kept ≡ n → n ≤ half + half
        → Stands (cond (ltb cap (n + 1)) (suc k) k) (rec ++ (r ∷ [])) (cond (ltb cap (n + 1)) (evens (kept ++ (r ∷ []))) (kept ++ (r ∷ [])))
    stands_thinned cap n even e fits =
        ⊎_elim (λ (l : n < cap). rw (le-ltb cap (n + 1) (omega arith)) (stands_more (omega arith))) (λ (l : cap ≤ n). rw (lt-ltb cap (n + 1) (omega arith)) (stands_halved (omega arith))) (below_or n cap)

  -- ---- one offer more

  pub record Holds (w : Table) (rec : List TrackedSeq) (k : ℕ) : Type 0 where
    pub good : check_in w ≡ gave tt
    pub even : w.state.capacity ≡ half + half
    pub stands : Stands k rec (kept_pairs w)
    pub by-seqs : InOrder ltb (λ r. r.seq.0) rec
    pub by-secs : InOrder lt_z (λ r. r.ts.0) rec

  -- from any good table, its pairs taken as recorded
  pub holds_first : (w : Table) → check_in w ≡ gave tt → w.state.capacity ≡ half + half → Holds w (kept_pairs w) 0
  holds_first w good even = record { good = good; even = even; stands = stands_all (kept_pairs w) (omega (arith, kept-count w good, few w good half some even)); by-seqs = seqs_in_order w good; by-secs = secs_in_order w good }

  module _ (w : Table) (rec : List TrackedSeq) (k : ℕ) (H : Holds w rec k) (r : TrackedSeq) where
    places : Places rec (kept_pairs w)
    places = H.stands.spread.places

    holds_recorded : (t : SequenceTracker) → offer_to w r.seq r.ts ≡ gave (recorded t)
        → Holds (offered_to w r.seq r.ts (gave (recorded t))) (rec ++ (r ∷ [])) (cond (ltb w.state.capacity (w.state.count + 1)) (suc k) k)
    holds_recorded t e = record {
      good = stays_good w.state w.seqs w.secs r.seq r.ts (gave (recorded t)) e H.good;
      even = sym (ap (λ (s : SequenceTracker). s.capacity) (taken w.state w.seqs w.secs r.seq r.ts t e).state) ∙ H.even;
      stands =
          rw (kept-recorded w H.good r t e)
          (stands_thinned k rec (kept_pairs w) H.stands r w.state.capacity w.state.count H.even (kept-count w H.good) (few w H.good half some H.even));
      by-seqs = order_more ltb nat_order (λ r. r.seq.0) rec r H.by-seqs (λ h. let n = newest-kept places h in rw n.1 (seq_on w H.good r t e n.0));
      by-secs = order_more lt_z int_order (λ r. r.ts.0) rec r H.by-secs (λ h. let n = newest-kept places h in rw n.1 (sec_on w H.good r t e n.0));
    }

    -- nothing is changed but a total
    holds_counted : (f : Fate) (t : SequenceTracker) → check_in (whole t w.seqs w.secs) ≡ gave tt → t ≡ counting f w.state → Holds (whole t w.seqs w.secs) rec k
    holds_counted f t good e = record {
      good = good;
      even = ap (λ (s : SequenceTracker). s.capacity) e ∙ H.even;
      stands = rw e H.stands;
      by-seqs = H.by-seqs;
      by-secs = H.by-secs;
    }

    holds_after : Holds (after w r) (cond (records w r) (rec ++ (r ∷ [])) rec) (cond (halves w r) (suc k) k)
    unfolding step
    holds_after = go (offer_to w r.seq r.ts) refl
      where
        kept-good : (o : Told Outcome) → offer_to w r.seq r.ts ≡ o → check_in (offered_to w r.seq r.ts o) ≡ gave tt
        kept-good o e = stays_good w.state w.seqs w.secs r.seq r.ts o e H.good

        go : (o : Told Outcome) → offer_to w r.seq r.ts ≡ o
            → Holds (offered_to w r.seq r.ts o) (cond (was_recorded o) (rec ++ (r ∷ [])) rec) (cond (was_recorded o && ltb w.state.capacity (w.state.count + 1)) (suc k) k)
        go (gave (recorded t)) e = holds_recorded t e
        go (gave (went_back t)) e = holds_counted fate.WentBack t (kept-good _ e) (counts_so w r.seq r.ts _ e)
        go (gave (too_soon t)) e = holds_counted fate.TooSoon t (kept-good _ e) (counts_so w r.seq r.ts _ e)
        go (gave (pair_refused what t)) e = holds_counted fate.Refused t (kept-good _ e) (counts_so w r.seq r.ts _ e).0
        go (refused what) e = H

  -- ---- any offers

  -- one more in front, if it is
  front : (b : Bool) (rec : List TrackedSeq) (r : TrackedSeq) (l : List TrackedSeq) → cond b (rec ++ (r ∷ [])) rec ++ l ≡ rec ++ cond b (r ∷ l) l
  front true rec r l = append_assoc rec (r ∷ []) l
  front false rec r l = refl

  one_more_lem : (b : Bool) (k m : ℕ) → cond b (suc k) k + m ≡ k + cond b (suc m) m
  one_more_lem true k m = omega arith
  one_more_lem false k m = refl

  pub holds_now : (w : Table) (rec : List TrackedSeq) (k : ℕ) (rs : List TrackedSeq) → Holds w rec k → Holds (now w rs) (rec ++ recorded_of w rs) (k + halvings_of w rs)
  unfolding ran_to recorded_of halvings_of
  holds_now w rec k [] H = rw (append-nil rec, add-zero k) H
  holds_now w rec k (r ∷ rs) H =
      let next = holds_now (after w r) (cond (records w r) (rec ++ (r ∷ [])) rec) (cond (halves w r) (suc k) k) rs (holds_after w rec k H r) in
      subst (λ l. Holds (now (after w r) rs) l (k + cond (halves w r) (suc (halvings_of (after w r) rs)) (halvings_of (after w r) rs))) (front (records w r) rec r (recorded_of (after w r) rs))
      (subst (λ m. Holds (now (after w r) rs) (cond (records w r) (rec ++ (r ∷ [])) rec ++ recorded_of (after w r) rs) m) (one_more_lem (halves w r) k (halvings_of (after w r) rs)) next)
