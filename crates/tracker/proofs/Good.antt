-- What a table has for which the rules 14, 11, 12 and 13 are passed, and the other way round.
use mathlib.Core.Path.{◌≡◌, refl, sym, ◌∙◌}
use mathlib.Core.Bool.{Bool, true, false, cond, ◌||◌}
use mathlib.Core.List.{List, [], ◌∷◌}
use Prim.Native.Nat.{ℕ, ◌≤◌, ◌<◌}
use native.Mathlib.Nat.{le_trans, le_refl}
use native.Mathlib.Omega.{arith}
use borrow.Author.Tests.{le-ltb, ltb-false, eqb-true, eqb-false}
use lib.Dec.{ltb, eqb}
use lib.IntN.{ℤ, pos}
use lib.ListN.{length}
use lib.Seq.{length-take-le}
use lib.Signed.{lt_z}
use Rattle.told.specs.Told.{gave}
use Rattle.limits.specs.Domain.{outside}
use Rattle.limits.specs.Settings.{room_of}
use Rattle.totals.specs.Totals.{sum_of, most, too_many}
use Rattle.order.specs.First.{first}
use Rattle.order.specs.Order.{drops, sec_outside}
use Rattle.order.specs.Inner.{NoneBelow}
use Rattle.order.proofs.Bools.{neither, passed}
use Rattle.order.proofs.First.{first_out, first-none}
use Rattle.tracker.specs.Table.{last_wrong, disagrees, pairs_of, check_of}
use Rattle.tracker.specs.Inner.{last_misplaced, last_outside, last_below}
use Rattle.tracker.specs.Laws.{KeepsPairs}
use Rattle.tracker.specs.declared.SequenceTracker.{SequenceTracker}
use Rattle.tracker.specs.declared.Second.{Second}
use Rattle.std.specs.Prelude.{None, Some, Option}

-- the room is at least the capacity, and at least 1
pub room_is : (c m : ℕ) → room_of c ≤ m → (c ≤ m) × (0 < m)
room_is c m = go (eqb c 0) refl
  where
    go : (b : Bool) → eqb c 0 ≡ b → cond b 1 c ≤ m → (c ≤ m) × (0 < m)
    go true e h = (omega (arith, eqb-true c 0 e), omega arith)
    go false e h = (h, let f = eqb-false c 0 e in omega arith)

pub room_small : (c : ℕ) → c ≤ 8192 → room_of c ≤ 8192
room_small c h = go (eqb c 0)
  where
    go : (b : Bool) → cond b 1 c ≤ 8192
    go true = omega arith
    go false = h

-- state and arrays agree
pub record Agreed (table : SequenceTracker) (seqs : List ℕ) (secs : List ℤ) : Type 0 where
  pub capacity_ok : table.capacity ≤ 8192
  pub interval_ok : table.interval_secs ≤ 9223372036854775807
  pub fit_seqs : room_of table.capacity ≤ length seqs
  pub fit_secs : room_of table.capacity ≤ length secs
  pub count_room : table.count ≤ room_of table.capacity
  pub last_placed : last_misplaced table.last_recorded_ts table.count ≡ false
  pub last-inside : last_outside table.last_recorded_ts ≡ false
  pub last_above : last_below table.last_recorded_ts secs table.count ≡ false
  pub totals_fit : sum_of table.totals ≤ most

-- the last recorded second is not wrong: each part of the rule
last-parts : (l : Option Second) (secs : List ℤ) (n : ℕ) → last_wrong l secs n ≡ false → (last_misplaced l n ≡ false) × (last_outside l ≡ false) × (last_below l secs n ≡ false)
last-parts None secs n h = (h, refl, refl)
last-parts (Some s) secs n h =
    let below = neither (eqb n 0 || outside s.0) _ h in
    let placed = neither (eqb n 0) (outside s.0) below.0 in
    (placed.0, placed.1, below.1)

last_right : (l : Option Second) (secs : List ℤ) (n : ℕ) → last_misplaced l n ≡ false → last_outside l ≡ false → last_below l secs n ≡ false → last_wrong l secs n ≡ false
last_right None secs n placed inside above = placed
last_right (Some s) secs n placed inside above = rw (placed, inside) above

module _ (table : SequenceTracker) (seqs : List ℕ) (secs : List ℤ) where
  pub agreed : disagrees table seqs secs ≡ false → Agreed table seqs secs
  agreed h =
      let room = room_of table.capacity in
      let last = table.last_recorded_ts in
      let a0 = ltb 8192 table.capacity in
      let a1 = ltb 9223372036854775807 table.interval_secs in
      let b = ltb (length seqs) room in
      let c = ltb (length secs) room in
      let d = ltb room table.count in
      let e = last_wrong last secs table.count in
      let hf = neither (a0 || a1 || b || c || d || e) (too_many table.totals) h in
      let he = neither (a0 || a1 || b || c || d) e hf.0 in
      let parts = last-parts last secs table.count he.1 in
      let hd = neither (a0 || a1 || b || c) d he.0 in
      let hc = neither (a0 || a1 || b) c hd.0 in
      let hb = neither (a0 || a1) b hc.0 in
      let ha = neither a0 a1 hb.0 in
      record {
        capacity_ok = ltb-false 8192 table.capacity ha.0;
        interval_ok = ltb-false 9223372036854775807 table.interval_secs ha.1;
        fit_seqs = ltb-false (length seqs) room hb.1;
        fit_secs = ltb-false (length secs) room hc.1;
        count_room = ltb-false room table.count hd.1;
        last_placed = parts.0;
        last-inside = parts.1;
        last_above = parts.2;
        totals_fit = ltb-false most (sum_of table.totals) hf.1;
      }

  pub agreed_again : Agreed table seqs secs → disagrees table seqs secs ≡ false
  agreed_again a =
      let room = room_of table.capacity in
      rw (le-ltb 8192 table.capacity a.capacity_ok, le-ltb 9223372036854775807 table.interval_secs a.interval_ok, le-ltb (length seqs) room a.fit_seqs, le-ltb (length secs) room a.fit_secs, le-ltb room table.count a.count_room, last_right table.last_recorded_ts secs table.count a.last_placed a.last-inside a.last_above) (le-ltb most (sum_of table.totals) a.totals_fit)

  module _ (a : Agreed table seqs secs) where
    pub few : table.count ≤ 8192
    few = le_trans a.count_room (room_small table.capacity a.capacity_ok)

    pub count-seqs : table.count ≤ length seqs
    count-seqs = le_trans a.count_room a.fit_seqs

    pub count-secs : table.count ≤ length secs
    count-secs = le_trans a.count_room a.fit_secs

    pub capacity-seqs : (table.capacity ≤ length seqs) × (0 < length seqs)
    capacity-seqs = room_is table.capacity (length seqs) a.fit_seqs

    pub capacity-secs : (table.capacity ≤ length secs) × (0 < length secs)
    capacity-secs = room_is table.capacity (length secs) a.fit_secs

-- the first n pairs are in order and in the domain
pub record Sorted (seqs : List ℕ) (secs : List ℤ) (n : ℕ) : Type 0 where
  pub seqs_rise : NoneBelow (drops ltb 0 seqs) n
  pub secs_rise : NoneBelow (drops lt_z (pos 0) secs) n
  pub inside : NoneBelow (sec_outside secs) n

module _ (seqs : List ℕ) (secs : List ℤ) (n : ℕ) where
  pub sorted : pairs_of seqs secs n ≡ gave tt → Sorted seqs secs n
  sorted h =
      let a = first (drops ltb 0 seqs) n in
      let b = first (drops lt_z (pos 0) secs) n in
      let d = first (sec_outside secs) n in
      let h11 = passed (ltb a n) (11 ∷ a ∷ []) _ tt h in
      let h12 = passed (ltb b n) (12 ∷ b ∷ []) _ tt h11.1 in
      let h13 = passed (ltb d n) (13 ∷ d ∷ []) _ tt h12.1 in
      record {
        seqs_rise = first_out (drops ltb 0 seqs) n (ltb-false a n h11.0);
        secs_rise = first_out (drops lt_z (pos 0) secs) n (ltb-false b n h12.0);
        inside = first_out (sec_outside secs) n (ltb-false d n h13.0);
      }

  pub sorted_again : Sorted seqs secs n → pairs_of seqs secs n ≡ gave tt
  sorted_again s =
      let none = le-ltb n n (le_refl n) in
      rw (first-none (drops ltb 0 seqs) n n (le_refl n) s.seqs_rise, none, first-none (drops lt_z (pos 0) secs) n n (le_refl n) s.secs_rise, none, first-none (sec_outside secs) n n (le_refl n) s.inside, none)

-- a good table
pub record Fine (table : SequenceTracker) (seqs : List ℕ) (secs : List ℤ) : Type 0 where
  pub state : Agreed table seqs secs
  pub pairs : Sorted seqs secs table.count

module _ (table : SequenceTracker) (seqs : List ℕ) (secs : List ℤ) where
  pub fine : check_of table seqs secs ≡ gave tt → Fine table seqs secs
  fine h =
      let h14 = passed (disagrees table seqs secs) (14 ∷ []) (pairs_of seqs secs table.count) tt h in
      record { state = agreed table seqs secs h14.0; pairs = sorted seqs secs table.count h14.1 }

  pub fine_again : Fine table seqs secs → check_of table seqs secs ≡ gave tt
  fine_again f = rw (agreed_again table seqs secs f.state) (sorted_again seqs secs table.count f.pairs)

-- a good table keeps as many seconds as sequences, at most 8,192
pub keeps_pairs : KeepsPairs
keeps_pairs table seqs secs h =
    let ok = (fine table seqs secs h).state in
    let p = length-take-le table.count seqs (count-seqs table seqs secs ok) in
    (p ∙ sym (length-take-le table.count secs (count-secs table seqs secs ok)), rw p (few table seqs secs ok))
