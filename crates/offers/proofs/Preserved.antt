-- An offer leaves a good table good: with a pair recorded, and with any other outcome, which changes nothing of it but a total.
use mathlib.Core.Path.{◌≡◌, refl, sym, ap, ◌∙◌}
use mathlib.Core.Logic.{⊎_elim}
use mathlib.Core.Bool.{Bool, true, false, cond}
use mathlib.Core.List.{List, [], ◌∷◌}
use Prim.Native.Nat.{ℕ, ◌-◌, ◌≤◌, ◌<◌}
use native.Mathlib.Nat.{eq-or-lt_of_le, le_refl}
use native.Mathlib.Omega.{arith}
use borrow.Author.Tests.{lt-ltb, le-ltb, ne_eqb, eqb-true, not-false}
use lib.Dec.{eqb, ltb}
use lib.IntN.{ℤ, pos}
use lib.ListN.{length, get_or}
use lib.Seq.{take_at}
use lib.Signed.{lt_z}
use Rattle.told.specs.Told.{Told, gave, refused}
use Rattle.told.specs.Over.{over}
use Rattle.limits.specs.Domain.{outside}
use Rattle.limits.specs.Settings.{room_of}
use Rattle.totals.specs.Totals.{full, one_more}
use Rattle.totals.specs.declared.Fate.{Fate}
use Rattle.totals.specs.declared.Fate.TheVariants as fate
use Rattle.totals.proofs.Sum.{still_fit}
use Rattle.tracker.specs.Table.{kept, check_of}
use Rattle.tracker.specs.Inner.{last_misplaced, last_below}
use Rattle.order.specs.Order.{sec_outside}
use Rattle.tracker.specs.declared.Seq.{Seq}
use Rattle.tracker.specs.declared.Second.{Second}
use Rattle.tracker.specs.declared.SequenceTracker.{SequenceTracker}
use Rattle.tracker.specs.declared.Second.{Second}
use Rattle.std.specs.Prelude.{None, Some, Option}
use Rattle.order.proofs.Bools.{below_or}
use Rattle.tracker.proofs.Good.{Fine, fine, fine_again, room_is, count-seqs, count-secs}
use Rattle.tracker.proofs.Rest.{good_totals}
use Rattle.order.proofs.Order.{nat_order, int_order, further}
use Rattle.offers.specs.Whole.{whole, check_in}
use Rattle.skipping.specs.Reasons.{goes_back, comes_too_soon}
use Rattle.keeping.specs.Keep.{kept_with}
use Rattle.keeping.specs.Inner.{count_with}
use Rattle.offers.specs.Offer.{Outcome, recorded, went_back, too_soon, pair_refused, low_seq, counting, state_with, offer_to, offered_to}
use Rattle.keeping.proofs.Thinned.{appended_old, appended-new, thinned-length}
use Rattle.offers.proofs.Counted.{reached, counts_so}
use Rattle.offers.proofs.Rise.{over-length, selected, kept_sorted, kept-below}

-- the room takes what is kept, and something is kept
count_fits : (cap n m : ℕ) → cap ≤ m → n ≤ m → 0 < m → (count_with cap n ≤ m) × (0 < count_with cap n)
count_fits cap n m c h p =
    ⊎_elim (λ (l : n < cap). rw (lt-ltb n cap l) (omega arith, omega arith))
    (λ (l : cap ≤ n). rw (le-ltb n cap l) (omega arith, omega arith))
    (below_or n cap)

-- the last kept second is not above the one offered
pub after_last : (last : Option Second) (secs : List ℤ) (n : ℕ) (s : ℤ) → last_misplaced last n ≡ false → last_below last secs n ≡ false → goes_back last s ≡ false → 0 < n → lt_z s (get_or secs (n - 1) (pos 0)) ≡ false
after_last None secs n s m b t p = absurd (omega (arith, eqb-true n 0 (not-false (eqb n 0) m)))
after_last (Some l) secs n s m b t p = further lt_z int_order (get_or secs (n - 1) (pos 0)) l.0 s b t

-- the last kept sequence is not above the one offered
pub after-low : (seqs : List ℕ) (n q : ℕ) → low_seq seqs n q ≡ false → 0 < n → ltb q (get_or seqs (n - 1) 0) ≡ false
after-low seqs n q h p = rw (ne_eqb n 0 (λ e. omega arith)) at h

module _ (table : SequenceTracker) (seqs : List ℕ) (secs : List ℤ) (seq : Seq) (ts : Second) where
  -- what an offer that is recorded has passed
  pub record Taken (t : SequenceTracker) : Type 0 where
    pub good : check_of table seqs secs ≡ gave tt
    pub unfilled : full table.totals ≡ false
    pub inside : outside ts.0 ≡ false
    pub onward : goes_back table.last_recorded_ts ts.0 ≡ false
    pub rising : low_seq seqs table.count seq.0 ≡ false
    pub state : state_with table (length (kept_with table seqs seq.0)) ts ≡ t

  pub taken : (t : SequenceTracker) → offer_to (whole table seqs secs) seq ts ≡ gave (recorded t) → Taken t
  taken t h =
      let r = reached (whole table seqs secs) seq ts (recorded t) h in
      let h16 = past (outside ts.0) (pair_refused (16 ∷ []) (counting fate.Refused table)) _ (λ e. let z : ◌≡◌ {A = ℕ} 0 1 = cc e in omega arith) r.outcome in
      let back = past (goes_back table.last_recorded_ts ts.0) (went_back (counting fate.WentBack table)) _ (λ e. let z : ◌≡◌ {A = ℕ} 0 1 = cc e in omega arith) h16.1 in
      let soon = past (comes_too_soon table.last_recorded_ts table.interval_secs ts.0) (too_soon (counting fate.TooSoon table)) _ (λ e. let z : ◌≡◌ {A = ℕ} 0 1 = cc e in omega arith) back.1 in
      let h17 = past (low_seq seqs table.count seq.0) (pair_refused (17 ∷ []) (counting fate.Refused table)) _ (λ e. let z : ◌≡◌ {A = ℕ} 0 1 = cc e in omega arith) soon.1 in
      record { good = r.good; unfilled = r.room; inside = h16.0; onward = back.0; rising = h17.0; state = cc h17.1 }
    where
      past : (b : Bool) (o next : Outcome) → (o ≡ recorded t → ⊥) → cond b o next ≡ recorded t → (b ≡ false) × (next ≡ recorded t)
      past true o next differ e = absurd (differ e)
      past false o next differ e = (refl, e)

  -- what each array holds of the pair, and how many
  module _ (t : SequenceTracker) (k : Taken t) where
    f : Fine table seqs secs
    f = fine table seqs secs k.good

    m : ℕ
    m = count_with table.capacity table.count

    fit_seqs : table.count ≤ length seqs
    fit_seqs = count-seqs table seqs secs f.state

    fit_secs : table.count ≤ length secs
    fit_secs = count-secs table seqs secs f.state

    room : (m ≤ room_of table.capacity) × (0 < m)
    unfolding m
    room =
        let r = room_is table.capacity (room_of table.capacity) (le_refl (room_of table.capacity)) in
        count_fits table.capacity table.count (room_of table.capacity) r.0 f.state.count_room r.1

    seqs-kept : length (kept_with table seqs seq.0) ≡ count_with table.capacity table.count
    seqs-kept = thinned-length table.count seqs seq.0 fit_seqs table.capacity

    secs-kept : length (kept_with table secs ts.0) ≡ count_with table.capacity table.count
    secs-kept = thinned-length table.count secs ts.0 fit_secs table.capacity

    seqs-length : length (over (kept_with table seqs seq.0) seqs) ≡ length seqs
    unfolding m
    seqs-length = over-length (kept_with table seqs seq.0) seqs (omega (arith, seqs-kept, room.0, f.state.fit_seqs))

    secs-length : length (over (kept_with table secs ts.0) secs) ≡ length secs
    unfolding m
    secs-length = over-length (kept_with table secs ts.0) secs (omega (arith, secs-kept, room.0, f.state.fit_secs))

    not_above : 0 < table.count → lt_z ts.0 (get_or secs (table.count - 1) (pos 0)) ≡ false
    not_above = after_last table.last_recorded_ts secs table.count ts.0 f.state.last_placed f.state.last_above k.onward

    all-inside : (j : ℕ) → j < m → sec_outside (over (kept_with table secs ts.0) secs) j ≡ false
    unfolding m
    all-inside j h =
        let s = selected (pos 0) table.count secs ts.0 table.capacity fit_secs in
        let w : s.from j ≤ table.count = omega (arith, s.within j h) in
        rw (s.at j h)
        (⊎_elim (λ (e : s.from j ≡ table.count). rw (e, appended-new table.count secs ts.0 fit_secs (pos 0)) k.inside)
        (λ (l : s.from j < table.count). rw (appended_old table.count secs ts.0 fit_secs (pos 0) (s.from j) l) (f.pairs.inside (s.from j) l))
        (eq-or-lt_of_le w))

    still_fine : Fine (state_with table m ts) (over (kept_with table seqs seq.0) seqs) (over (kept_with table secs ts.0) secs)
    unfolding m
    still_fine = record {
      state = record {
        capacity_ok = f.state.capacity_ok;
        interval_ok = f.state.interval_ok;
        fit_seqs = rw seqs-length f.state.fit_seqs;
        fit_secs = rw secs-length f.state.fit_secs;
        count_room = room.0;
        last_placed = ne_eqb m 0 (λ e. omega (arith, room.1));
        last-inside = k.inside;
        last_above = kept-below lt_z int_order (pos 0) table.count secs ts.0 table.capacity fit_secs f.pairs.secs_rise not_above (m - 1) (omega (arith, room.1));
        totals_fit = still_fit fate.Recorded table.totals k.unfilled;
      };
      pairs = record {
        seqs_rise = kept_sorted ltb nat_order 0 table.count seqs seq.0 table.capacity fit_seqs f.pairs.seqs_rise (after-low seqs table.count seq.0 k.rising);
        secs_rise = kept_sorted lt_z int_order (pos 0) table.count secs ts.0 table.capacity fit_secs f.pairs.secs_rise not_above;
        inside = all-inside;
      };
    }

    taken_good : check_of t (over (kept_with table seqs seq.0) seqs) (over (kept_with table secs ts.0) secs) ≡ gave tt
    unfolding m
    taken_good =
        let e : state_with table m ts ≡ t = ap (λ (c : ℕ). state_with table c ts) (sym seqs-kept) ∙ k.state in
        rw (← e) (fine_again (state_with table m ts) (over (kept_with table seqs seq.0) seqs) (over (kept_with table secs ts.0) secs) still_fine)

  -- the law: with a pair recorded the table is good
  pub recorded-good : (t : SequenceTracker) → offer_to (whole table seqs secs) seq ts ≡ gave (recorded t)
      → check_in (offered_to (whole table seqs secs) seq ts (gave (recorded t))) ≡ gave tt
  recorded-good t h = taken_good t (taken t h)

  count_is : (t : SequenceTracker) → Taken t → length (kept_with table seqs seq.0) ≡ t.count
  count_is t k = ap (λ (s : SequenceTracker). s.count) k.state

  -- it keeps of both arrays what the rule says
  pub recorded-seqs : (t : SequenceTracker) → offer_to (whole table seqs secs) seq ts ≡ gave (recorded t) → kept t (offered_to (whole table seqs secs) seq ts (gave (recorded t))).seqs ≡ kept_with table seqs seq.0
  recorded-seqs t h = take_at (kept_with table seqs seq.0) _ t.count (count_is t (taken t h))

  pub recorded-secs : (t : SequenceTracker) → offer_to (whole table seqs secs) seq ts ≡ gave (recorded t) → kept t (offered_to (whole table seqs secs) seq ts (gave (recorded t))).secs ≡ kept_with table secs ts.0
  recorded-secs t h = let k = taken t h in take_at (kept_with table secs ts.0) _ t.count (secs-kept t k ∙ sym (seqs-kept t k) ∙ count_is t k)

  -- and its count is this
  pub recorded-count : (t : SequenceTracker) → offer_to (whole table seqs secs) seq ts ≡ gave (recorded t) → t.count ≡ count_with table.capacity table.count
  recorded-count t h = let k = taken t h in sym (count_is t k) ∙ seqs-kept t k

  -- an offer that changes nothing but a total leaves a good table good
  counted-good : (o : Outcome) (fate : Fate) (t : SequenceTracker) → offer_to (whole table seqs secs) seq ts ≡ gave o → t ≡ counting fate table → check_of t seqs secs ≡ gave tt
  counted-good o fate t h e =
      let r = reached (whole table seqs secs) seq ts o h in
      rw e (good_totals table (one_more fate table.totals) seqs secs (still_fit fate table.totals r.room) r.good)

  -- whatever an offer to a good table tells, the table is good afterwards
  pub stays_good : (o : Told Outcome) → offer_to (whole table seqs secs) seq ts ≡ o → check_of table seqs secs ≡ gave tt
      → check_in (offered_to (whole table seqs secs) seq ts o) ≡ gave tt
  stays_good (gave (recorded t)) h g = recorded-good t h
  stays_good (gave (went_back t)) h g = counted-good (went_back t) fate.WentBack t h (counts_so (whole table seqs secs) seq ts _ h)
  stays_good (gave (too_soon t)) h g = counted-good (too_soon t) fate.TooSoon t h (counts_so (whole table seqs secs) seq ts _ h)
  stays_good (gave (pair_refused what t)) h g = counted-good (pair_refused what t) fate.Refused t h (counts_so (whole table seqs secs) seq ts _ h).0
  stays_good (refused what) h g = g

  -- and the arrays have kept their lengths
  pub same_lengths : (o : Told Outcome) → offer_to (whole table seqs secs) seq ts ≡ o
      → (length (offered_to (whole table seqs secs) seq ts o).seqs ≡ length seqs) × (length (offered_to (whole table seqs secs) seq ts o).secs ≡ length secs)
  same_lengths (gave (recorded t)) h = (seqs-length t (taken t h), secs-length t (taken t h))
  same_lengths (gave (went_back t)) h = (refl, refl)
  same_lengths (gave (too_soon t)) h = (refl, refl)
  same_lengths (gave (pair_refused what t)) h = (refl, refl)
  same_lengths (refused what) h = (refl, refl)
