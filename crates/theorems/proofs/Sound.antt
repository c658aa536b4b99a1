-- An offer leaves a sound table sound, and two tables that are alike are told alike and go on alike.
use mathlib.Core.Path.{◌≡◌, refl, sym, ap, ◌∙◌}
use mathlib.Core.Bool.{false}
use mathlib.Core.List.{List}
use Prim.Native.Nat.{ℕ, ◌+◌, ◌≤◌, ◌<◌, ◌^◌}
use native.Mathlib.Omega.{arith}
use borrow.Author.Tests.{le-ltb, ne_eqb}
use lib.IntN.{ℤ}
use lib.ListN.{length, get_or}
use Rattle.told.specs.Told.{Told, gave, refused}
use Rattle.order.specs.First.{first_from}
use Rattle.limits.specs.Settings.{bad_settings, room_of}
use Rattle.fresh.specs.Fresh.{default_capacity, empty_table}
use Rattle.totals.specs.Totals.{sum_of, most}
use Rattle.totals.specs.declared.Fate.{Fate}
use Rattle.totals.specs.declared.Fate.TheVariants as fate
use Rattle.tracker.specs.Table.{check_of}
use Rattle.tracker.specs.declared.Seq.{Seq}
use Rattle.tracker.specs.declared.Second.{Second}
use Rattle.tracker.specs.declared.SequenceTracker.{SequenceTracker}
use Rattle.tracker.proofs.Good.{Agreed, fine, count-seqs}
use Rattle.offers.specs.Offer.{Outcome, recorded, went_back, too_soon, pair_refused, counting, offer_to, offered_to}
use Rattle.offers.specs.Rest.{offer_rest}
use Rattle.offers.proofs.Counted.{counts_so}
use Rattle.offers.proofs.Preserved.{taken, stays_good, recorded-count}
use Rattle.offers.proofs.Alike.{Alike, good-alike, alike-told, alike-after, rest-with}
use Rattle.offers.proofs.Newest.{newest_sec}
use Rattle.settling.specs.Settle.{last_of}
use Rattle.offers.specs.Whole.{Table, whole, check_in}
use Rattle.theorems.specs.Alike.{kept_in}
use Rattle.theorems.specs.Run.{Lent}
use Rattle.theorems.proofs.Kept.{kept-all, some-kept}

-- a good table with the default capacity and this interval, whose last recorded second is the last that it keeps, and whose sequences are u64s
pub record Sound (interval : ℕ) (w : Table) : Type 0 where
  pub good : check_of w.state w.seqs w.secs ≡ gave tt
  pub capacity : w.state.capacity ≡ default_capacity
  pub own_interval : w.state.interval_secs ≡ interval
  pub last : w.state.last_recorded_ts ≡ last_of (kept_in w).secs w.state.count
  pub seqs64 : (j : ℕ) → j < w.state.count → get_or w.seqs j 0 < 2 ^ 64

module _ (interval : ℕ) (w : Table) (S : Sound interval w) where
  pub agreed_in : Agreed w.state w.seqs w.secs
  agreed_in = (fine w.state w.seqs w.secs S.good).state

  pub alike_self : Alike w w
  alike_self = good-alike w S.good

  module _ (seq : Seq) (ts : Second) (small : seq.0 < 2 ^ 64) where
    recorded_sound : (t : SequenceTracker) → offer_to w seq ts ≡ gave (recorded t) → Sound interval (offered_to w seq ts (gave (recorded t)))
    recorded_sound t e =
        let k = taken w.state w.seqs w.secs seq ts t e in
        let count_is = recorded-count w.state w.seqs w.secs seq ts t e in
        record {
          good = stays_good w.state w.seqs w.secs seq ts (gave (recorded t)) e S.good;
          capacity = sym (ap (λ (s : SequenceTracker). s.capacity) k.state) ∙ S.capacity;
          own_interval = sym (ap (λ (s : SequenceTracker). s.interval_secs) k.state) ∙ S.own_interval;
          last = sym (ap (λ (s : SequenceTracker). s.last_recorded_ts) k.state)
              ∙ rw (ne_eqb t.count 0 (λ z. omega (arith, count_is, some-kept w.state.capacity w.state.count)), newest_sec w.state w.seqs w.secs seq ts t e 4096 S.capacity (omega arith)) refl;
          seqs64 = λ j h. kept-all 0 (λ x. x < 2 ^ 64) w.state.count w.seqs seq.0 w.state.capacity (count-seqs w.state w.seqs w.secs agreed_in) S.seqs64 small j (rw count_is at h);
        }

    -- nothing is changed but a total
    counted_sound : (f : Fate) (t : SequenceTracker) → check_of t w.seqs w.secs ≡ gave tt → t ≡ counting f w.state → Sound interval (whole t w.seqs w.secs)
    counted_sound f t good e = record {
      good = good;
      capacity = ap (λ (s : SequenceTracker). s.capacity) e ∙ S.capacity;
      own_interval = ap (λ (s : SequenceTracker). s.interval_secs) e ∙ S.own_interval;
      last = rw e S.last;
      seqs64 = rw e S.seqs64;
    }

    pub offered_sound : Sound interval (offered_to w seq ts (offer_to w seq ts))
    offered_sound = go (offer_to w seq ts) refl
      where
        go : (told : Told Outcome) → offer_to w seq ts ≡ told → Sound interval (offered_to w seq ts told)
        go (gave (recorded t)) e = recorded_sound t e
        go (gave (went_back t)) e = counted_sound fate.WentBack t (stays_good w.state w.seqs w.secs seq ts (gave (went_back t)) e S.good) (counts_so w seq ts _ e)
        go (gave (too_soon t)) e = counted_sound fate.TooSoon t (stays_good w.state w.seqs w.secs seq ts (gave (too_soon t)) e S.good) (counts_so w seq ts _ e)
        go (gave (pair_refused what t)) e = counted_sound fate.Refused t (stays_good w.state w.seqs w.secs seq ts (gave (pair_refused what t)) e S.good) (counts_so w seq ts _ e).0
        go (refused what) e = S

-- two tables that are alike, with room for one more offer
module _ (w v : Table) (a : Alike w v) (seq : Seq) (ts : Second) (room : sum_of w.state.totals + 1 ≤ most) (room' : sum_of v.state.totals + 1 ≤ most) where
  -- are told the same but for the totals
  pub offered-told : offer_rest (offer_to w seq ts) ≡ offer_rest (offer_to v seq ts)
  offered-told = let t = alike-told seq ts w v a room room' in sym (rest-with t.0 (offer_to w seq ts)) ∙ ap offer_rest (sym t.1)

  -- and are alike afterwards
  pub offered-alike : Alike (offered_to w seq ts (offer_to w seq ts)) (offered_to v seq ts (offer_to v seq ts))
  offered-alike = let t = alike-told seq ts w v a room room' in rw t.1 (alike-after seq ts w v a (offer_to w seq ts) t.0 refl t.1)

-- an empty table, at any valid settings
pub empty-good : (capacity interval : ℕ) (seqs : List ℕ) (secs : List ℤ) → bad_settings capacity interval ≡ false → room_of capacity ≤ length seqs → room_of capacity ≤ length secs
    → check_in (whole (empty_table capacity interval) seqs secs) ≡ gave tt
unfolding first_from
empty-good capacity interval seqs secs v a b = rw (v, le-ltb (length seqs) (room_of capacity) a, le-ltb (length secs) (room_of capacity) b, le-ltb (room_of capacity) 0 (omega arith))

pub empty_sound : (interval : ℕ) (seqs : List ℕ) (secs : List ℤ) → bad_settings default_capacity interval ≡ false → Lent seqs secs → Sound interval (whole (empty_table default_capacity interval) seqs secs)
empty_sound interval seqs secs v (a, b) = record {
  good = empty-good default_capacity interval seqs secs v a b;
  capacity = refl;
  own_interval = refl;
  last = refl;
  seqs64 = λ j h. absurd (omega arith);
}

pub alike_trans : {w v u : Table} → Alike w v → Alike v u → Alike w u
alike_trans a b = record {
  same_rest = a.same_rest ∙ b.same_rest;
  same_seqs = a.same_seqs ∙ b.same_seqs;
  same_secs = a.same_secs ∙ b.same_secs;
  room_seqs = a.room_seqs;
  room_seqs' = b.room_seqs';
  room_secs = a.room_secs;
  room_secs' = b.room_secs';
}
