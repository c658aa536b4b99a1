-- What a strict save wrote comes back: the same kept pairs, the same state but for the interval, which is that of the restore, and the totals, a good table.
use mathlib.Core.Path.{◌≡◌, refl, sym, ap, ◌∙◌}
use mathlib.Core.Bool.{Bool, true, false, cond}
use mathlib.Core.List.{List, [], ◌∷◌, ◌++◌}
use Prim.Native.Nat.{ℕ, ◌≤◌, ◌<◌}
use native.Mathlib.Nat.{le_refl}
use native.Mathlib.Omega.{arith}
use borrow.Author.Tests.{le-leb, le-ltb}
use lib.Dec.{leb, ltb}
use lib.IntN.{ℤ, pos}
use lib.ListN.{length, get_or, drop}
use lib.Seq.{take_at, take-take, get_or-take, length-take-le}
use Rattle.told.specs.Told.{Told, gave, refused, if_good}
use Rattle.told.specs.Over.{over}
use Rattle.bit_lists.specs.BitList.{bits_of}
use Rattle.gorilla.specs.Parser.{read}
use Rattle.gorilla.specs.RoundTrip.{Fit}
use Rattle.gorilla.specs.Wide.{wide_of}
use Rattle.gorilla.proofs.RoundTrip.{strict_reads_back}
use Rattle.limits.specs.Settings.{bad_settings}
use Rattle.totals.specs.Totals.{no_totals, sum_of}
use Rattle.fresh.specs.Fresh.{fresh_table, default_capacity}
use Rattle.tracker.specs.Rest.{rest_of}
use Rattle.tracker.specs.Table.{pairs_of}
use Rattle.order.proofs.Bools.{not_given}
use Rattle.tracker.proofs.Good.{fine, sorted_again, few, count-seqs, count-secs}
use Rattle.tracker.proofs.Kept.{kept_at, pairs-kept}
use Rattle.offers.proofs.Alike.{Alike, alike-check}
use Rattle.offers.proofs.Rise.{over-length}
use Rattle.told.specs.Room.{room_rule}
use Rattle.settling.specs.Settle.{last_of}
use Rattle.restoring.specs.Restore.{read_table, judged, restore_at}
use Rattle.restoring.specs.Interval.{with_interval}
use Rattle.offers.specs.Whole.{Table}
use Rattle.theorems.specs.Alike.{kept_in, image_for, strict_to}
use Rattle.theorems.specs.Run.{Restoring, plain, naming, restore_by, interval_by, Reload, Lent, stored, restore_to, reloaded_to, reloaded, step}
use Rattle.theorems.proofs.Kept.{inside-fits}
use Rattle.theorems.proofs.Sound.{Sound, agreed_in, alike_self}
use Rattle.theorems.proofs.Logged.{kept_same}

-- `restore` is a restore that names the default interval
by_interval : (r : Restoring) (bytes seqs : List ℕ) (secs : List ℤ) → restore_by r bytes seqs secs ≡ restore_at (interval_by r) bytes seqs secs
by_interval plain bytes seqs secs = refl
by_interval (naming named) bytes seqs secs = refl

module _ (interval : ℕ) (w : Table) (S : Sound interval w) where
  pub seqs_long : length (kept_in w).seqs ≡ w.state.count
  seqs_long = length-take-le w.state.count w.seqs (count-seqs w.state w.seqs w.secs (agreed_in interval w S))

  secs_long : length (kept_in w).secs ≡ w.state.count
  secs_long = length-take-le w.state.count w.secs (count-secs w.state w.seqs w.secs (agreed_in interval w S))

  pub at_most : w.state.count ≤ 8192
  at_most = few w.state w.seqs w.secs (agreed_in interval w S)

  -- the kept pairs are such as an image holds
  pub kept_fit : Fit (kept_in w)
  kept_fit = record {
    same = seqs_long ∙ sym secs_long;
    few = omega (arith, seqs_long, at_most);
    seqs64 = λ i h. let l : i < w.state.count = omega (arith, seqs_long) in rw (get_or-take w.state.count w.seqs i 0 l) (S.seqs64 i l);
    secs64 = λ i h. let l : i < w.state.count = omega (arith, secs_long) in
        rw (get_or-take w.state.count w.secs i (pos 0) l) (inside-fits (get_or w.secs i (pos 0)) ((fine w.state w.seqs w.secs S.good).pairs.inside i l));
  }

  -- ---- restore of the kept pairs

  state-back : (named : ℕ) → fresh_table default_capacity named (length (kept_in w).seqs) (last_of (kept_in w).secs (length (kept_in w).seqs)) ≡ with_interval named w.state
  state-back named = λ i. record {
    count = seqs_long i;
    capacity = sym S.capacity i;
    interval_secs = named;
    last_recorded_ts = (ap (last_of (kept_in w).secs) seqs_long ∙ sym S.last) i;
    totals = no_totals;
  }

  pairs-back : pairs_of (kept_in w).seqs (kept_in w).secs (length (kept_in w).seqs) ≡ gave tt
  pairs-back =
      let n = w.state.count in
      rw seqs_long
      (pairs-kept n (kept_in w).seqs w.seqs (kept_in w).secs w.secs (take-take n n w.seqs (le_refl n)) (take-take n n w.secs (le_refl n))
      ∙ sorted_again w.seqs w.secs n (fine w.state w.seqs w.secs S.good).pairs)

  own-state : (named : ℕ) → named ≡ interval → with_interval named w.state ≡ rest_of w.state
  own-state named e = λ i. record {
    count = w.state.count;
    capacity = w.state.capacity;
    interval_secs = (e ∙ sym S.own_interval) i;
    last_recorded_ts = w.state.last_recorded_ts;
    totals = no_totals;
  }

  own_valid : bad_settings default_capacity interval ≡ false
  own_valid = rw (← S.own_interval) (le-ltb 9223372036854775807 w.state.interval_secs (agreed_in interval w S).interval_ok)

  judged-back : (named : ℕ) (left : List ℕ) → judged named (read (kept_in w) left) ≡ gave (with_interval named w.state)
  judged-back named left = rw pairs-back (ap gave (state-back named))

  -- ---- the table in other arrays

  moved : List ℕ → List ℤ → Table
  moved seqs secs = record { state = rest_of w.state; seqs = over (kept_in w).seqs seqs; secs = over (kept_in w).secs secs }

  module _ (seqs : List ℕ) (secs : List ℤ) (lent : Lent seqs secs) where
    moved-alike : Alike (moved seqs secs) w
    unfolding moved
    moved-alike = record {
      same_rest = refl;
      same_seqs = take_at (kept_in w).seqs _ w.state.count seqs_long;
      same_secs = take_at (kept_in w).secs _ w.state.count secs_long;
      room_seqs = rw (S.capacity, over-length (kept_in w).seqs seqs (omega (arith, seqs_long, at_most, lent.0))) lent.0;
      room_seqs' = (agreed_in interval w S).fit_seqs;
      room_secs = rw (S.capacity, over-length (kept_in w).secs secs (omega (arith, secs_long, at_most, lent.1))) lent.1;
      room_secs' = (agreed_in interval w S).fit_secs;
    }

    moved-kept : kept_in (moved seqs secs) ≡ kept_in w
    unfolding moved
    moved-kept = kept_same (moved seqs secs) w moved-alike

    moved_sound : Sound interval (moved seqs secs)
    unfolding moved
    moved_sound =
        let a = moved-alike in
        record {
          good = alike-check (moved seqs secs) w a (omega arith) (agreed_in interval w S).totals_fit ∙ S.good;
          capacity = S.capacity;
          own_interval = S.own_interval;
          last = rw a.same_secs S.last;
          seqs64 = λ j h. rw (kept_at w.state.count (over (kept_in w).seqs seqs) w.seqs j 0 a.same_seqs h) (S.seqs64 j h);
        }

  -- ---- a strict save

  pub save_is : (out : List ℕ) → strict_to w out ≡ if_good (wide_of (kept_in w).seqs (kept_in w).secs) (room_rule (length (image_for w)) (length out))
  save_is out = rw S.good

  -- a save that wrote found no wide difference, and wrote the image
  pub wrote : (out : List ℕ) (n : ℕ) → strict_to w out ≡ gave n → (wide_of (kept_in w).seqs (kept_in w).secs ≡ gave tt) × (length (image_for w) ≡ n)
  unfolding room_rule
  wrote out n e = go (wide_of (kept_in w).seqs (kept_in w).secs) (ltb (length out) (length (image_for w))) (sym (save_is out) ∙ e)
    where
      go : (x : Told (Unit {0})) (b : Bool) → if_good x (cond b (refused (21 ∷ length (image_for w) ∷ [])) (gave (length (image_for w)))) ≡ gave n → (x ≡ gave tt) × (length (image_for w) ≡ n)
      go (gave tt) true h = absurd (not_given (21 ∷ length (image_for w) ∷ []) n h)
      go (gave tt) false h = (refl, cc)
      go (refused l) b h = absurd (not_given l n h)

  module _ (l : Reload) where
    module _ (n : ℕ) (e : strict_to w l.out ≡ gave n) where
      stored_is : stored strict_to w l ≡ image_for w ++ l.following
      stored_is = rw (e, take_at (image_for w) (drop (length (image_for w)) l.out) n (wrote l.out n e).1)

      reads_back : read_table (stored strict_to w l) ≡ read (kept_in w) (bits_of l.following)
      reads_back =
          ap read_table stored_is
          ∙ strict_reads_back (kept_in w) (λ k. leb k 8192) l.following kept_fit (le-leb (length (kept_in w).seqs) 8192 (omega (arith, seqs_long, at_most))) (wrote l.out n e).0

      state_restored : bad_settings default_capacity (interval_by l.by) ≡ false → Lent l.seqs l.secs → restore_to w l ≡ gave (with_interval (interval_by l.by) w.state)
      state_restored v (a, b) =
          by_interval l.by (stored strict_to w l) l.seqs l.secs
          ∙ rw (v, le-ltb (length l.seqs) 8192 a, le-ltb (length l.secs) 8192 b, reads_back) (judged-back (interval_by l.by) (bits_of l.following))

      pub restores : bad_settings default_capacity (interval_by l.by) ≡ false → Lent l.seqs l.secs
          → (restore_to w l ≡ gave (with_interval (interval_by l.by) w.state)) × (kept_in (step w (reloaded l)) ≡ kept_in w)
      unfolding step moved
      restores v lent =
          let s = state_restored v lent in
          (s, ap (λ (told : Told ℕ). kept_in (reloaded_to w l told (restore_to w l))) e ∙ rw (s, reads_back) (moved-kept l.seqs l.secs lent))

      reload_is : interval_by l.by ≡ interval → Lent l.seqs l.secs → reloaded_to w l (gave n) (restore_to w l) ≡ moved l.seqs l.secs
      unfolding moved
      reload_is own lent =
          let s : restore_to w l ≡ gave (rest_of w.state) = state_restored (rw own own_valid) lent ∙ ap gave (own-state (interval_by l.by) own) in
          rw (s, reads_back)

    module _ (own : interval_by l.by ≡ interval) (lent : Lent l.seqs l.secs) where
      pub reload_sound : Sound interval (reloaded_to w l (strict_to w l.out) (restore_to w l))
      reload_sound = go (strict_to w l.out) refl
        where
          go : (told : Told ℕ) → strict_to w l.out ≡ told → Sound interval (reloaded_to w l told (restore_to w l))
          go (gave n) e = rw (reload_is n e own lent) (moved_sound l.seqs l.secs lent)
          go (refused what) e = S

      pub reload_alike : Alike (reloaded_to w l (strict_to w l.out) (restore_to w l)) w
      reload_alike = go (strict_to w l.out) refl
        where
          go : (told : Told ℕ) → strict_to w l.out ≡ told → Alike (reloaded_to w l told (restore_to w l)) w
          go (gave n) e = rw (reload_is n e own lent) (moved-alike l.seqs l.secs lent)
          go (refused what) e = alike_self interval w S

      -- and counts no offer more
      pub reload_counts : sum_of (reloaded_to w l (strict_to w l.out) (restore_to w l)).state.totals ≤ sum_of w.state.totals
      unfolding moved
      reload_counts = go (strict_to w l.out) refl
        where
          go : (told : Told ℕ) → strict_to w l.out ≡ told → sum_of (reloaded_to w l told (restore_to w l)).state.totals ≤ sum_of w.state.totals
          go (gave n) e = rw (reload_is n e own lent) (omega arith)
          go (refused what) e = le_refl (sum_of w.state.totals)
