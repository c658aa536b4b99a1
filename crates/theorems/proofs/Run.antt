-- The third demand, proved: at any valid interval, and so at the default one; and that restores at another interval than the table's own break it.
use mathlib.Core.Path.{◌≡◌, refl, sym, ap, ap₂, ◌∙◌}
use mathlib.Core.Bool.{false}
use mathlib.Core.List.{List, [], ◌∷◌, map}
use Prim.Native.Nat.{ℕ, ◌+◌, ◌≤◌}
use native.Mathlib.Omega.{arith}
use lib.IntN.{ℤ}
use lib.ListN.{length, replicate}
use Rattle.told.specs.Told.{Told, gave}
use Rattle.told.proofs.Unique.{same_gift}
use Rattle.bit_lists.specs.BitList.{nat_bits, nat_from, bytes_of, packed}
use Rattle.gorilla.specs.Format.{values_bits, array_bits, le_bytes, image_bytes}
use Rattle.gorilla.specs.Wide.{wide_in, wide_of}
use Rattle.limits.specs.Settings.{bad_settings}
use Rattle.fresh.specs.Fresh.{default_capacity, default_interval_secs, empty_table, new_table, config_of}
use Rattle.order.proofs.Bools.{passed}
use Rattle.totals.specs.Totals.{no_totals, sum_of, most}
use Rattle.tracker.specs.Rest.{rest_of}
use Rattle.tracker.specs.declared.SequenceTracker.{SequenceTracker}
use Rattle.told.specs.Room.{room_rule}
use Rattle.offers.specs.Offer.{Outcome}
use Rattle.offers.specs.Rest.{offer_rest}
use Rattle.offers.specs.Whole.{Table, whole}
use Rattle.offers.proofs.Alike.{Alike}
use Rattle.offers.proofs.Counted.{at_most_one}
use Rattle.theorems.specs.Alike.{strict_to}
use Rattle.theorems.specs.Run.{Lent, naming, Reload, restore_to, reloaded_to, Event, offered, reloaded, step, ran_to, answers, offers_in, Proper, Unharmed, GoesOn, Demand, DemandByDefault, OwnIntervalNeeded}
use Rattle.theorems.proofs.Sound.{Sound, offered_sound, offered-told, offered-alike, empty_sound, alike_self, alike_trans}
use Rattle.theorems.proofs.Restored.{restored_sound}
use Rattle.theorems.proofs.Reload.{save_is, restores, reload_sound, reload_alike, reload_counts}
use Rattle.theorems.proofs.Exact.{refuses, with_20, writes}
use Rattle.theorems.proofs.Logged.{kept_same}
use Rattle.theorems.proofs.Alike.{kept-alike}
use Rattle.theorems.proofs.Totals.{made_zero, restored_zero}

-- what a run at this interval keeps up, of the table w that it has led to and the table v of the offers alone, with room for k more offers
record Kept (interval k : ℕ) (w v : Table) : Type 0 where
  sound : Sound interval w
  sound' : Sound interval v
  alike : Alike w v
  room : sum_of w.state.totals + k ≤ most
  room' : sum_of v.state.totals + k ≤ most

run_kept : (interval m : ℕ) (w v : Table) (es : List Event) → Proper interval es → Kept interval (length (offers_in es) + m) w v
    → (map offer_rest (answers w es) ≡ map offer_rest (answers v (offers_in es))) × Kept interval m (ran_to w es) (ran_to v (offers_in es))
unfolding step ran_to answers offers_in Proper
run_kept interval m w v [] p K = (refl, record { sound = K.sound; sound' = K.sound'; alike = K.alike; room = omega (arith, K.room); room' = omega (arith, K.room') })
run_kept interval m w v (offered seq ts ∷ es) (h, p) K =
    let one : sum_of w.state.totals + 1 ≤ most = omega (arith, K.room) in
    let one' : sum_of v.state.totals + 1 ≤ most = omega (arith, K.room') in
    let r = run_kept interval m (step w (offered seq ts)) (step v (offered seq ts)) es p (record {
      sound = offered_sound interval w K.sound seq ts h;
      sound' = offered_sound interval v K.sound' seq ts h;
      alike = offered-alike w v K.alike seq ts one one';
      room = omega (arith, K.room, at_most_one w seq ts);
      room' = omega (arith, K.room', at_most_one v seq ts);
    }) in
    (ap₂ (λ (o : Told Outcome) (l : List (Told Outcome)). o ∷ l) (offered-told w v K.alike seq ts one one') r.0, r.1)
run_kept interval m w v (reloaded l ∷ es) (own, h, p) K =
    run_kept interval m (step w (reloaded l)) v es p (record {
      sound = reload_sound interval w K.sound l own h;
      sound' = K.sound';
      alike = alike_trans (reload_alike interval w K.sound l own h) K.alike;
      room = omega (arith, K.room, reload_counts interval w K.sound l own h);
      room' = K.room';
    })

unharmed : (interval m : ℕ) (w v : Table) → Kept interval m w v → Unharmed m w v
unharmed interval m w v K = record {
  good = K.sound.good;
  pairs = kept_same w v K.alike;
  state = K.alike.same_rest;
  alike = kept-alike m w v K.sound.good K.sound'.good K.alike K.room K.room';
  restores = λ l n v h e. restores interval w K.sound l n e v h;
  exact = λ l room lent. (refuses interval w K.sound l lent room, with_20 interval w K.sound l lent room, writes interval w K.sound l lent room);
}

goes_on : (interval : ℕ) (w : Table) → Sound interval w → w.state.totals ≡ no_totals → GoesOn interval w
goes_on interval w S zero es m p few =
    let room : sum_of w.state.totals + (length (offers_in es) + m) ≤ most = rw zero (omega (arith, few)) in
    let r = run_kept interval m w w es p (record { sound = S; sound' = S; alike = alike_self interval w S; room = room; room' = room }) in
    (r.0, unharmed interval m (ran_to w es) (ran_to w (offers_in es)) r.1)

-- what `with_config` makes at capacity 8,192
made : (interval : ℕ) (t : SequenceTracker) → config_of default_capacity interval ≡ gave t → (bad_settings default_capacity interval ≡ false) × (empty_table default_capacity interval ≡ t)
made interval t e =
    let p = passed (bad_settings default_capacity interval) (15 ∷ []) (gave (empty_table default_capacity interval)) t e in
    (p.0, same_gift p.1)

made_sound : (interval : ℕ) (seqs : List ℕ) (secs : List ℤ) (t : SequenceTracker) → config_of default_capacity interval ≡ gave t → Lent seqs secs → Sound interval (whole t seqs secs)
made_sound interval seqs secs t e lent = let m = made interval t e in rw (← m.1) (empty_sound interval seqs secs m.0 lent)

pub demand : Demand
demand interval = (
  λ seqs secs t e lent. goes_on interval (whole t seqs secs) (made_sound interval seqs secs t e lent) (made_zero default_capacity interval t e),
  λ bytes seqs seqs' secs secs' t h. goes_on interval (whole t seqs' secs') (restored_sound interval bytes seqs seqs' secs secs' t h) (restored_zero interval bytes seqs secs t (sym h.0)),
)

pub demand_by_default : DemandByDefault
demand_by_default = (λ seqs secs lent. (demand default_interval_secs).0 seqs secs new_table refl lent, (demand default_interval_secs).1)

-- an empty table, saved in 13 bytes and restored at another interval, has that interval
module _ (interval other : ℕ) (seqs : List ℕ) (secs : List ℤ) (valid : bad_settings default_capacity interval ≡ false) (lent : Lent seqs secs) where
  empty : Table
  empty = whole (empty_table default_capacity interval) seqs secs

  again : Reload
  again = record { by = naming other; out = replicate 13 0; following = []; seqs = seqs; secs = secs }

  saved : strict_to empty again.out ≡ gave 13
  unfolding empty again wide_of wide_in room_rule image_bytes le_bytes array_bits values_bits nat_bits packed bytes_of nat_from
  saved = save_is interval empty (empty_sound interval seqs secs valid lent) again.out

  comes_back-other : bad_settings default_capacity other ≡ false → (step empty (reloaded again)).state ≡ empty_table default_capacity other
  unfolding step empty again
  comes_back-other v =
      ap (λ (told : Told ℕ). (reloaded_to empty again told (restore_to empty again)).state) saved
      ∙ rw (restores interval empty (empty_sound interval seqs secs valid lent) again 13 saved v lent).0

  not_unharmed : bad_settings default_capacity other ≡ false → (other ≡ interval → ⊥) → GoesOn other empty → ⊥
  unfolding ran_to offers_in Proper empty again
  not_unharmed v apart goes =
      let u = (goes (reloaded again ∷ []) 0 (refl, lent, tt) (omega arith)).1 in
      apart (ap (λ (s : SequenceTracker). s.interval_secs) (sym (ap rest_of (comes_back-other v)) ∙ u.state))

pub own_interval_needed : OwnIntervalNeeded
unfolding empty
own_interval_needed interval other seqs secs t e lent v apart goes =
    let m = made interval t e in
    not_unharmed interval other seqs secs m.0 lent v apart (rw m.1 goes)
