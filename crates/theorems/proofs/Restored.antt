-- A table that a restore leaves is sound, whatever bytes it read, and keeps the pairs that they hold.
use mathlib.Core.Path.{◌≡◌, refl, sym, ◌∙◌}
use mathlib.Core.Bool.{Bool, true, false, cond}
use mathlib.Core.List.{List, [], ◌∷◌}
use Prim.Native.Nat.{ℕ, ◌-◌, ◌≤◌, ◌<◌, ◌^◌}
use native.Mathlib.Omega.{arith}
use borrow.Author.Tests.{ltb-false, leb-true, eqb-false}
use lib.Dec.{leb, eqb}
use lib.IntN.{ℤ, pos}
use lib.ListN.{length, get_or, take, drop}
use lib.Seq.{take_at, take_all}
use lib.Signed.{lt_z}
use Rattle.told.specs.Told.{Told, gave, refused, if_good}
use Rattle.told.specs.Over.{over}
use Rattle.told.proofs.Unique.{same_gift}
use Rattle.gorilla.specs.Parser.{Read, read}
use Rattle.gorilla.specs.Parser as parser
use Rattle.gorilla.specs.Reading.{Pairs, pairs_read}
use Rattle.gorilla.proofs.Counts.{image_counts}
use Rattle.order.proofs.Bools.{not_given, passed}
use Rattle.order.proofs.Order.{itself, int_order}
use Rattle.limits.specs.Settings.{bad_settings}
use Rattle.fresh.specs.Fresh.{fresh_table, default_capacity}
use Rattle.tracker.specs.Table.{pairs_of}
use Rattle.tracker.specs.Inner.{last_misplaced, last_outside, last_below}
use Rattle.tracker.specs.declared.Second.{Second}
use Rattle.tracker.specs.declared.SequenceTracker.{SequenceTracker}
use Rattle.std.specs.Prelude.{None, Some, Ok, Option}
use Rattle.tracker.proofs.Good.{Sorted, sorted, fine_again}
use Rattle.tracker.proofs.Kept.{kept_at, pairs-kept}
use Rattle.offers.proofs.Rise.{over-length}
use Rattle.offers.specs.Whole.{Table, whole}
use Rattle.settling.specs.Settle.{last_of}
use Rattle.restoring.specs.Restore.{read_table, judged, too_short, read_into, RestoresAt}
use Rattle.restoring.proofs.Loading.{places}
use Rattle.theorems.specs.Restored.{RestoredGood}
use Rattle.theorems.specs.Alike.{kept_in}
use Rattle.theorems.specs.Run.{Lent}
use Rattle.theorems.proofs.Small.{seqs_small}
use Rattle.theorems.proofs.Sound.{Sound}

-- the last of n seconds as the last recorded one: rule 14 finds nothing wrong with it
last_agrees : (seqs : List ℕ) (xs ys : List ℤ) (n : ℕ) → Sorted seqs xs n → take n xs ≡ take n ys
    → (last_misplaced (last_of xs n) n ≡ false) × (last_outside (last_of xs n) ≡ false) × (last_below (last_of xs n) ys n ≡ false)
last_agrees seqs xs ys n s e = go (eqb n 0) refl
  where
    go : (t : Bool) → eqb n 0 ≡ t → let l : Option Second = cond t None (Some (record { 0 = get_or xs (n - 1) (pos 0) })) in (last_misplaced l n ≡ false) × (last_outside l ≡ false) × (last_below l ys n ≡ false)
    go true f = (rw f, refl, refl)
    go false f =
        let z = eqb-false n 0 f in
        let l : n - 1 < n = omega arith in
        (f, s.inside (n - 1) l, rw (kept_at n xs ys (n - 1) (pos 0) e l) (itself lt_z int_order (get_or ys (n - 1) (pos 0))))

-- n pairs that are in order, stored over two lent arrays
module _ (interval : ℕ) (valid : bad_settings default_capacity interval ≡ false) (p : Pairs) (seqs : List ℕ) (secs : List ℤ) (lent : Lent seqs secs) (n : ℕ) (a : length p.seqs ≡ n) (b : length p.secs ≡ n) (few : n ≤ 8192) where
  settled_sound : ((j : ℕ) → get_or p.seqs j 0 < 2 ^ 64) → pairs_of p.seqs p.secs n ≡ gave tt
      → Sound interval (whole (fresh_table default_capacity interval n (last_of p.secs n)) (over p.seqs seqs) (over p.secs secs))
  settled_sound small h =
      let s : take n (over p.seqs seqs) ≡ take n p.seqs = take_at p.seqs _ n a ∙ sym (take_all n p.seqs (omega arith)) in
      let t : take n (over p.secs secs) ≡ take n p.secs = take_at p.secs _ n b ∙ sym (take_all n p.secs (omega arith)) in
      let last = last_agrees p.seqs p.secs (over p.secs secs) n (sorted p.seqs p.secs n h) (sym t) in
      record {
        good = fine_again (fresh_table default_capacity interval n (last_of p.secs n)) (over p.seqs seqs) (over p.secs secs) (record {
          state = record {
            capacity_ok = omega arith;
            interval_ok = omega (arith, ltb-false 9223372036854775807 interval valid);
            fit_seqs = omega (arith, over-length p.seqs seqs (omega (arith, a, few, lent.0)), lent.0);
            fit_secs = omega (arith, over-length p.secs secs (omega (arith, b, few, lent.1)), lent.1);
            count_room = few;
            last_placed = last.0;
            last-inside = last.1;
            last_above = last.2;
            totals_fit = omega arith;
          };
          pairs = sorted (over p.seqs seqs) (over p.secs secs) n (pairs-kept n (over p.seqs seqs) p.seqs (over p.secs secs) p.secs s t ∙ h);
        });
        capacity = refl;
        own_interval = refl;
        last = rw (take_at p.secs (drop (length p.secs) secs) n b);
        seqs64 = λ j l. rw (kept_at n (over p.seqs seqs) p.seqs j 0 s l) (small j);
      }

settled : (x : Told (Unit {0})) (s t : SequenceTracker) → if_good x (gave s) ≡ gave t → (x ≡ gave tt) × (s ≡ t)
settled (gave tt) s t h = (refl, same_gift h)
settled (refused l) s t h = absurd (not_given l t h)

module _ (interval : ℕ) (bytes seqs seqs' : List ℕ) (secs secs' : List ℤ) (t : SequenceTracker) (h : RestoresAt interval bytes seqs secs (Ok t) seqs' secs') where
  -- what holds of the pairs that are read, and of the table that is made of them, holds of the table that it leaves
  by_reading : (C : Pairs → Table → Type 0)
      → (bad_settings default_capacity interval ≡ false → Lent seqs secs → (p : Pairs) (left : List ℕ) → read_table bytes ≡ read p left → pairs_of p.seqs p.secs (length p.seqs) ≡ gave tt
      → C p (whole (fresh_table default_capacity interval (length p.seqs) (last_of p.secs (length p.seqs))) (over p.seqs seqs) (over p.secs secs)))
      → C (pairs_read (read_table bytes)) (whole t seqs' secs')
  by_reading C made =
      let named = passed (bad_settings default_capacity interval) (15 ∷ []) (read_into interval bytes seqs secs) t (sym h.0) in
      let short = passed (too_short (length seqs) (length secs)) (14 ∷ []) (judged interval (read_table bytes)) t named.1 in
      rw (h.1, h.2) (go named.0 (read_table bytes) refl (places (length seqs) (length secs) short.0) short.1)
    where
      go : bad_settings default_capacity interval ≡ false → (r : Read Pairs) → read_table bytes ≡ r → Lent seqs secs → judged interval r ≡ gave t → C (pairs_read r) (whole t (over (pairs_read r).seqs seqs) (over (pairs_read r).secs secs))
      go valid (read p left) e lent j =
          let n = length p.seqs in
          let x = settled (pairs_of p.seqs p.secs n) (fresh_table default_capacity interval n (last_of p.secs n)) t j in
          rw (← x.1) (made valid lent p left e x.0)
      go valid (parser.refused l) e lent j = absurd (not_given l t j)

  pub restored_sound : Sound interval (whole t seqs' secs')
  restored_sound =
      by_reading (λ p w. Sound interval w) (λ valid lent p left e right.
      let counts = image_counts (λ m. leb m 8192) bytes e in
      settled_sound interval valid p seqs secs lent (length p.seqs) refl (sym counts.0) (omega (arith, counts.0, leb-true (length p.secs) 8192 counts.1)) (seqs_small (λ m. leb m 8192) bytes left p e) right)

  -- it keeps the pairs that were read
  pub restored_kept : kept_in (whole t seqs' secs') ≡ pairs_read (read_table bytes)
  restored_kept =
      by_reading (λ p w. kept_in w ≡ p) (λ valid lent p left e right.
      let n = length p.seqs in
      let one : take n (over p.seqs seqs) ≡ p.seqs = take_at p.seqs _ n refl in
      let two : take n (over p.secs secs) ≡ p.secs = take_at p.secs _ n (sym (image_counts (λ m. leb m 8192) bytes e).0) in
      λ i. record { seqs = one i; secs = two i })

pub restored_good : RestoredGood
restored_good interval bytes seqs seqs' secs secs' t h = (restored_sound interval bytes seqs seqs' secs secs' t h).good
