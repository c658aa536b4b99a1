-- What the totals count.
use mathlib.Core.Path.{◌≡◌, refl, sym, ap, ◌∙◌}
use mathlib.Core.Bool.{Bool, true, false, cond}
use mathlib.Core.Logic.{⊎_elim}
use mathlib.Core.List.{List, [], ◌∷◌}
use Prim.Native.Nat.{ℕ}
use native.Mathlib.Omega.{arith}
use lib.Dec.{ltb}
use lib.Signed.{lt_z}
use lib.IntN.{ℤ, pos}
use lib.ListN.{length}
use Rattle.told.specs.Told.{Told, gave, refused, if_good}
use Rattle.told.proofs.Unique.{same_gift, same-list, given_not_refused}
use Rattle.gorilla.specs.Parser.{Read, read}
use Rattle.gorilla.specs.Parser as parser
use Rattle.gorilla.specs.Reading.{Pairs}
use Rattle.limits.specs.Settings.{bad_settings}
use Rattle.order.specs.First.{first}
use Rattle.order.specs.Order.{drops, sec_outside}
use Rattle.order.proofs.Bools.{passed}
use Rattle.totals.specs.Totals.{no_totals, sum_of, most}
use Rattle.totals.specs.declared.Totals.{Totals}
use Rattle.tracker.specs.Table.{pairs_of, disagrees}
use Rattle.tracker.specs.declared.TrackedSeq.{TrackedSeq}
use Rattle.tracker.specs.declared.SequenceTracker.{SequenceTracker}
use Rattle.fresh.specs.Fresh.{default_capacity, empty_table, fresh_table, config_of}
use Rattle.settling.specs.Settle.{last_of}
use Rattle.offers.specs.Whole.{Table, check_in}
use Rattle.offers.specs.Offer.{Outcome, recorded, went_back, too_soon, pair_refused, offer_to}
use Rattle.offers.specs.Counted.{ByPair, Counts}
use Rattle.offers.proofs.Counted.{totals_with, counts_so, totals_after}
use Rattle.restoring.specs.Restore.{read_table, judged, too_short, read_into, restore_at}
use Rattle.theorems.specs.Run.{offered, step, ran_to, answers}
use Rattle.theorems.specs.Lists.{offers_of}
use Rattle.theorems.specs.Totals.{was_refused, was_counted, how_many, CountedBy, TotalsCount}

-- a check refuses with 14, 11, 12 or 13
check-numbers : (w : Table) (what : List ℕ) → check_in w ≡ refused what → (was_refused (refused what) ≡ false) × (was_counted (refused what) ≡ false)
check-numbers w what e =
    let n = w.state.count in
    let i = first (drops ltb 0 w.seqs) n in
    let j = first (drops lt_z (pos 0) w.secs) n in
    let k = first (sec_outside w.secs) n in
    go i j k (disagrees w.state w.seqs w.secs) (ltb i n) (ltb j n) (ltb k n) e
  where
    go : (i j k : ℕ) (a b c d : Bool)
        → ◌≡◌ {A = Told (Unit {0})} (cond a (refused (14 ∷ [])) (cond b (refused (11 ∷ i ∷ [])) (cond c (refused (12 ∷ j ∷ [])) (cond d (refused (13 ∷ k ∷ [])) (gave tt))))) (refused what)
        → (was_refused (refused what) ≡ false) × (was_counted (refused what) ≡ false)
    go i j k true b c d h = rw (← same-list h) (refl, refl)
    go i j k false true c d h = rw (← same-list h) (refl, refl)
    go i j k false false true d h = rw (← same-list h) (refl, refl)
    go i j k false false false true h = rw (← same-list h) (refl, refl)
    go i j k false false false false h = given_not_refused h

-- an offer that is not counted is told one of these, or 31; one that is refused for its pair 16 or 17
uncounted : (w : Table) (what : List ℕ) → Counts w (refused what) → (was_refused (refused what) ≡ false) × (was_counted (refused what) ≡ false)
uncounted w what = ⊎_elim (check-numbers w what) (λ (e : (check_in w ≡ gave tt) × (sum_of w.state.totals ≡ most) × (what ≡ 31 ∷ [])). rw e.2 (refl, refl))

by-pair : (what : List ℕ) (t : SequenceTracker) → ByPair what → (was_refused (gave (pair_refused what t)) ≡ true) × (was_counted (gave (pair_refused what t)) ≡ true)
by-pair what t = ⊎_elim (λ (e : what ≡ 16 ∷ []). rw e (refl, refl)) (λ (e : what ≡ 17 ∷ []). rw e (refl, refl))

-- one answer more, before the others
count_on : (w : Table) (o : Told Outcome) (n : Totals) (os : List (Told Outcome)) → Counts w o → CountedBy (totals_with o w.state.totals) n os → CountedBy w.state.totals n (o ∷ os)
unfolding how_many
count_on w (gave (recorded t)) n os k c = record { recorded_are = omega (arith, c.recorded_are); back_are = c.back_are; soon_are = c.soon_are; refused_are = c.refused_are; sum_is = omega (arith, c.sum_is) }
count_on w (gave (went_back t)) n os k c = record { recorded_are = c.recorded_are; back_are = omega (arith, c.back_are); soon_are = c.soon_are; refused_are = c.refused_are; sum_is = omega (arith, c.sum_is) }
count_on w (gave (too_soon t)) n os k c = record { recorded_are = c.recorded_are; back_are = c.back_are; soon_are = omega (arith, c.soon_are); refused_are = c.refused_are; sum_is = omega (arith, c.sum_is) }
count_on w (gave (pair_refused what t)) n os k c =
    let h = by-pair what t k.1 in
    record { recorded_are = c.recorded_are; back_are = c.back_are; soon_are = c.soon_are; refused_are = rw h.0 (omega (arith, c.refused_are)); sum_is = rw h.1 (omega (arith, c.sum_is)) }
count_on w (refused what) n os k c =
    let h = uncounted w what k in
    record { recorded_are = c.recorded_are; back_are = c.back_are; soon_are = c.soon_are; refused_are = rw h.0 c.refused_are; sum_is = rw h.1 c.sum_is }

over_offers : (w : Table) (rs : List TrackedSeq) → CountedBy w.state.totals (ran_to w (offers_of rs)).state.totals (answers w (offers_of rs))
unfolding how_many ran_to step answers
over_offers w [] = record { recorded_are = omega arith; back_are = omega arith; soon_are = omega arith; refused_are = omega arith; sum_is = omega arith }
over_offers w (r ∷ rs) =
    let o = offer_to w r.seq r.ts in
    let rest = over_offers (step w (offered r.seq r.ts)) rs in
    count_on w o _ _ (counts_so w r.seq r.ts o refl) (rw (totals_after w r.seq r.ts o refl) at rest)

pub made_zero : (capacity interval : ℕ) (t : SequenceTracker) → config_of capacity interval ≡ gave t → t.totals ≡ no_totals
made_zero capacity interval t e =
    let p = passed (bad_settings capacity interval) (15 ∷ []) (gave (empty_table capacity interval)) t e in
    ap (λ (s : SequenceTracker). s.totals) (sym (same_gift p.1))

pub restored_zero : (interval : ℕ) (bytes seqs : List ℕ) (secs : List ℤ) (t : SequenceTracker) → restore_at interval bytes seqs secs ≡ gave t → t.totals ≡ no_totals
restored_zero interval bytes seqs secs t e =
    let named = passed (bad_settings default_capacity interval) (15 ∷ []) (read_into interval bytes seqs secs) t e in
    let short = passed (too_short (length seqs) (length secs)) (14 ∷ []) (judged interval (read_table bytes)) t named.1 in
    go (read_table bytes) short.1
  where
    settled : (checked : Told (Unit {0})) (s : SequenceTracker) → s.totals ≡ no_totals → if_good checked (gave s) ≡ gave t → t.totals ≡ no_totals
    settled (gave x) s z h = ap (λ (u : SequenceTracker). u.totals) (sym (same_gift h)) ∙ z
    settled (refused what) s z h = given_not_refused (sym h)

    go : (r : Read Pairs) → judged interval r ≡ gave t → t.totals ≡ no_totals
    go (read p left) h = settled (pairs_of p.seqs p.secs (length p.seqs)) (fresh_table default_capacity interval (length p.seqs) (last_of p.secs (length p.seqs))) refl h
    go (parser.refused what) h = given_not_refused (sym h)

pub totals_count : TotalsCount
totals_count = record { over_offers = over_offers; at_new = refl; at_creation = made_zero; at_restore = restored_zero }
