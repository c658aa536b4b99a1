-- An offer depends on the rest of the state, but for its totals, and on the kept pairs alone: not on what stands past the count, nor on what was counted before.
use mathlib.Core.Path.{◌≡◌, refl, sym, ap, ◌∙◌}
use mathlib.Core.Bool.{Bool, true, false, cond}
use mathlib.Core.List.{List, [], ◌∷◌}
use Prim.Native.Nat.{ℕ, zero, suc, ◌+◌, ◌-◌, ◌≤◌}
use native.Mathlib.Omega.{arith}
use borrow.Author.Tests.{le-ltb}
use lib.Dec.{ltb}
use lib.ListN.{length, take}
use Rattle.told.specs.Told.{Told, gave, refused, if_good}
use Rattle.limits.specs.Domain.{outside}
use Rattle.limits.specs.Settings.{room_of}
use Rattle.totals.specs.Totals.{sum_of, most, no_totals, one_more}
use Rattle.totals.specs.declared.Totals.{Totals}
use Rattle.totals.specs.declared.Fate.{Fate}
use Rattle.totals.specs.declared.Fate.TheVariants as fate
use Rattle.totals.proofs.Sum.{not_full}
use Rattle.tracker.specs.Rest.{with_totals, rest_of}
use Rattle.tracker.specs.Table.{kept, check_of}
use Rattle.tracker.specs.declared.Seq.{Seq}
use Rattle.tracker.specs.declared.Second.{Second}
use Rattle.tracker.specs.declared.SequenceTracker.{SequenceTracker}
use Rattle.tracker.proofs.Good.{fine}
use Rattle.tracker.proofs.Kept.{kept_at, check-kept}
use Rattle.tracker.proofs.Rest.{by-rest, fit_check}
use Rattle.skipping.specs.Reasons.{goes_back, comes_too_soon}
use Rattle.keeping.specs.Keep.{kept_with}
use Rattle.offers.specs.Whole.{Table, whole, check_in}
use Rattle.offers.specs.Offer.{Outcome, recorded, went_back, too_soon, pair_refused, low_seq, counting, state_with, offer_to, offered_to}
use Rattle.offers.specs.Rest.{offer_with, offer_rest}
use Rattle.offers.proofs.Counted.{counts_so}
use Rattle.offers.proofs.Preserved.{taken, recorded-seqs, recorded-secs, same_lengths}

-- two tables whose states have the same rest, that keep the same pairs, and have the room that they need
pub record Alike (w v : Table) : Type 0 where
  pub same_rest : rest_of w.state ≡ rest_of v.state
  pub same_seqs : kept w.state w.seqs ≡ kept v.state v.seqs
  pub same_secs : kept w.state w.secs ≡ kept v.state v.secs
  pub room_seqs : room_of w.state.capacity ≤ length w.seqs
  pub room_seqs' : room_of v.state.capacity ≤ length v.seqs
  pub room_secs : room_of w.state.capacity ≤ length w.secs
  pub room_secs' : room_of v.state.capacity ≤ length v.secs

-- a good table is like itself
pub good-alike : (w : Table) → check_in w ≡ gave tt → Alike w w
good-alike w g =
    let ok = (fine w.state w.seqs w.secs g).state in
    record { same_rest = refl; same_seqs = refl; same_secs = refl; room_seqs = ok.fit_seqs; room_seqs' = ok.fit_seqs; room_secs = ok.fit_secs; room_secs' = ok.fit_secs }

-- what is the same of their states
pub same_count : {w v : Table} → Alike w v → w.state.count ≡ v.state.count
same_count a = ap (λ (s : SequenceTracker). s.count) a.same_rest

pub same-capacity : {w v : Table} → Alike w v → w.state.capacity ≡ v.state.capacity
same-capacity a = ap (λ (s : SequenceTracker). s.capacity) a.same_rest

-- what the first keeps, in the arrays of both
pub kept-seqs : {w v : Table} → Alike w v → kept w.state w.seqs ≡ kept w.state v.seqs
kept-seqs {w} {v} a = a.same_seqs ∙ ap (λ (n : ℕ). take n v.seqs) (sym (same_count a))

pub kept-secs : {w v : Table} → Alike w v → kept w.state w.secs ≡ kept w.state v.secs
kept-secs {w} {v} a = a.same_secs ∙ ap (λ (n : ℕ). take n v.secs) (sym (same_count a))

-- the tests for its room agree, as both have it
pub same_rooms : {w v : Table} → Alike w v → let room = room_of w.state.capacity in
    (ltb (length w.seqs) room ≡ ltb (length v.seqs) room) × (ltb (length w.secs) room ≡ ltb (length v.secs) room)
same_rooms {w} {v} a =
    let room = room_of w.state.capacity in (
      le-ltb (length w.seqs) room a.room_seqs ∙ sym (le-ltb (length v.seqs) room (rw (same-capacity a) a.room_seqs')),
      le-ltb (length w.secs) room a.room_secs ∙ sym (le-ltb (length v.secs) room (rw (same-capacity a) a.room_secs')),
    )

low-kept : (seqs seqs' : List ℕ) (n q : ℕ) → take n seqs ≡ take n seqs' → low_seq seqs n q ≡ low_seq seqs' n q
low-kept seqs seqs' zero q e = refl
low-kept seqs seqs' (suc n) q e = rw (kept_at (suc n) seqs seqs' (suc n - 1) 0 e (omega arith))

kept_with-same : {A : Type 0} (t u : SequenceTracker) (xs ys : List A) (x : A) → t.capacity ≡ u.capacity → kept t xs ≡ kept u ys → kept_with t xs x ≡ kept_with u ys x
kept_with-same t u xs ys x c e = rw (c, e)

-- the same check
module _ (w v : Table) (a : Alike w v) (fits : sum_of w.state.totals ≤ most) (fits' : sum_of v.state.totals ≤ most) where
  pub alike-check : check_in w ≡ check_in v
  alike-check =
      by-rest (λ (u : SequenceTracker). check_in w ≡ check_of u v.seqs v.secs) w.state v.state a.same_rest
      (check-kept w.state w.seqs v.seqs w.secs v.secs (kept-seqs a) (kept-secs a) (same_rooms a).0 (same_rooms a).1
      ∙ fit_check w.state v.state.totals v.seqs v.secs fits fits')

module _ (seq : Seq) (ts : Second) where
  -- of a state with other totals the same comes, with totals of its own
  by_tests : (table : SequenceTracker) (n : Totals) (count : ℕ) (checked : Told (Unit {0})) (out back soon low : Bool)
      → (m : Totals)
      × (if_good checked
      (gave
      (cond out (pair_refused (16 ∷ []) (counting fate.Refused (with_totals n table)))
      (cond back (went_back (counting fate.WentBack (with_totals n table)))
      (cond soon (too_soon (counting fate.TooSoon (with_totals n table)))
      (cond low (pair_refused (17 ∷ []) (counting fate.Refused (with_totals n table))) (recorded (state_with (with_totals n table) count ts)))))))
      ≡ offer_with m
      (if_good checked
      (gave
      (cond out (pair_refused (16 ∷ []) (counting fate.Refused table))
      (cond back (went_back (counting fate.WentBack table))
      (cond soon (too_soon (counting fate.TooSoon table)) (cond low (pair_refused (17 ∷ []) (counting fate.Refused table)) (recorded (state_with table count ts)))))))))
  by_tests table n count (refused what) out back soon low = (no_totals, refl)
  by_tests table n count (gave x) true back soon low = (one_more fate.Refused n, refl)
  by_tests table n count (gave x) false true soon low = (one_more fate.WentBack n, refl)
  by_tests table n count (gave x) false false true low = (one_more fate.TooSoon n, refl)
  by_tests table n count (gave x) false false false true = (one_more fate.Refused n, refl)
  by_tests table n count (gave x) false false false false = (one_more fate.Recorded n, refl)

  module _ (w v : Table) (a : Alike w v) where
    -- the same is told, but for the totals, where each has room for one more offer
    pub alike-told : sum_of w.state.totals + 1 ≤ most → sum_of v.state.totals + 1 ≤ most → (m : Totals) × (offer_to v seq ts ≡ offer_with m (offer_to w seq ts))
    alike-told room room' =
        let checked = alike-check w v a (omega (arith, room)) (omega (arith, room')) in
        by-rest (λ (u : SequenceTracker). check_in w ≡ check_of u v.seqs v.secs → (m : Totals) × (offer_to (whole u v.seqs v.secs) seq ts ≡ offer_with m (offer_to w seq ts))) w.state v.state a.same_rest
        (λ e.
        rw (e, not_full _ room, not_full _ room', low-kept w.seqs v.seqs w.state.count seq.0 (kept-seqs a), kept_with-same w.state w.state w.seqs v.seqs seq.0 refl (kept-seqs a))
        (by_tests w.state v.state.totals (length (kept_with w.state v.seqs seq.0)) (check_of (with_totals v.state.totals w.state) v.seqs v.secs) (outside ts.0) (goes_back w.state.last_recorded_ts ts.0) (comes_too_soon w.state.last_recorded_ts w.state.interval_secs ts.0) (low_seq v.seqs w.state.count seq.0)))
        checked

    -- a state that differs from theirs in the totals alone
    counted-alike : (f : Fate) (t : SequenceTracker) (m : Totals) → t ≡ counting f w.state → Alike (whole t w.seqs w.secs) (whole (with_totals m t) v.seqs v.secs)
    counted-alike f t m e = rw e (record {
      same_rest = refl;
      same_seqs = kept-seqs a;
      same_secs = kept-secs a;
      room_seqs = a.room_seqs;
      room_seqs' = rw (same-capacity a) a.room_seqs';
      room_secs = a.room_secs;
      room_secs' = rw (same-capacity a) a.room_secs';
    })

    -- and they are alike afterwards
    pub alike-after : (o : Told Outcome) (m : Totals) → offer_to w seq ts ≡ o → offer_to v seq ts ≡ offer_with m o → Alike (offered_to w seq ts o) (offered_to v seq ts (offer_with m o))
    alike-after (gave (went_back t)) m h h' = counted-alike fate.WentBack t m (counts_so w seq ts _ h)
    alike-after (gave (too_soon t)) m h h' = counted-alike fate.TooSoon t m (counts_so w seq ts _ h)
    alike-after (gave (pair_refused what t)) m h h' = counted-alike fate.Refused t m (counts_so w seq ts _ h).0
    alike-after (refused what) m h h' = a
    alike-after (gave (recorded t)) m h h' =
        let k = taken w.state w.seqs w.secs seq ts t h in
        let k' = taken v.state v.seqs v.secs seq ts (with_totals m t) h' in
        let capacity-is : w.state.capacity ≡ t.capacity = ap (λ (s : SequenceTracker). s.capacity) k.state in
        let capacity-is' : v.state.capacity ≡ t.capacity = ap (λ (s : SequenceTracker). s.capacity) k'.state in
        let l = same_lengths w.state w.seqs w.secs seq ts (gave (recorded t)) h in
        let l' = same_lengths v.state v.seqs v.secs seq ts (gave (recorded (with_totals m t))) h' in
        record {
          same_rest = refl;
          same_seqs =
              recorded-seqs w.state w.seqs w.secs seq ts t h ∙ kept_with-same w.state v.state w.seqs v.seqs seq.0 (same-capacity a) a.same_seqs
              ∙ sym (recorded-seqs v.state v.seqs v.secs seq ts (with_totals m t) h');
          same_secs =
              recorded-secs w.state w.seqs w.secs seq ts t h ∙ kept_with-same w.state v.state w.secs v.secs ts.0 (same-capacity a) a.same_secs
              ∙ sym (recorded-secs v.state v.seqs v.secs seq ts (with_totals m t) h');
          room_seqs = rw (← capacity-is, l.0) a.room_seqs;
          room_seqs' = rw (← capacity-is', l'.0) a.room_seqs';
          room_secs = rw (← capacity-is, l.1) a.room_secs;
          room_secs' = rw (← capacity-is', l'.1) a.room_secs';
        }

-- the totals that an answer is given do not matter to its rest
pub rest-with : (m : Totals) (o : Told Outcome) → offer_rest (offer_with m o) ≡ offer_rest o
rest-with m (gave (recorded t)) = refl
rest-with m (gave (went_back t)) = refl
rest-with m (gave (too_soon t)) = refl
rest-with m (gave (pair_refused what t)) = refl
rest-with m (refused what) = refl
