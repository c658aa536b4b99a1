-- The statement of specs/Halving.antt.
use mathlib.Core.Path.{◌≡◌, refl, sym, ap, ◌∙◌}
use mathlib.Core.Logic.{◌↔◌}
use mathlib.Core.Bool.{Bool, true, false, cond, ◌&&◌, false≢true, true≢false}
use mathlib.Core.List.{List, [], ◌∷◌, ◌++◌}
use Prim.Native.Nat.{ℕ, suc, ◌+◌, ◌-◌, ◌*◌, ◌/◌, ◌^◌, ◌≤◌, ◌<◌}
use native.Mathlib.Nat.{zero-add}
use native.Mathlib.Omega.{arith}
use borrow.Author.Tests.{ne_eqb}
use lib.Dec.{ltb}
use lib.IntN.{ℤ, pos}
use lib.ListN.{length, length-append}
use lib.Signed.{lt_z}
use Rattle.told.specs.Told.{Told, gave, refused}
use Rattle.told.proofs.Unique.{same_gift}
use Rattle.gorilla.specs.Reading.{pairs_read}
use Rattle.limits.specs.Settings.{bad_settings, room_of}
use Rattle.order.proofs.Bools.{passed}
use Rattle.order.proofs.Order.{nat_order, int_order}
use Rattle.totals.specs.declared.Fate.{Fate}
use Rattle.totals.specs.declared.Fate.TheVariants as fate
use Rattle.tracker.specs.declared.Seq.{Seq}
use Rattle.tracker.specs.declared.Second.{Second}
use Rattle.tracker.specs.declared.TrackedSeq.{TrackedSeq}
use Rattle.tracker.specs.declared.SequenceTracker.{SequenceTracker}
use Rattle.fresh.specs.Fresh.{empty_table, config_of}
use Rattle.keeping.specs.Keep.{evens}
use Rattle.offers.specs.Whole.{Table, whole, check_in}
use Rattle.offers.specs.Offer.{Outcome, recorded, went_back, too_soon, pair_refused, counting, offer_to, offered_to}
use Rattle.offers.proofs.Counted.{counts_so}
use Rattle.offers.proofs.Preserved.{taken}
use Rattle.offer_log.specs.Pairs.{records_of}
use Rattle.restoring.specs.Restore.{read_table}
use Rattle.theorems.specs.Run.{step, ran_to, answers}
use Rattle.theorems.specs.Lists.{offers_of}
use Rattle.theorems.specs.Totals.{was_recorded, how_many}
use Rattle.theorems.proofs.Sound.{empty-good}
use Rattle.theorems.proofs.Restored.{restored_sound, restored_kept}
use Rattle.theorems.proofs.Totals.{totals_count}
use Rattle.halving.specs.History.{kept_pairs, after, records, halves, now, recorded_of, halvings_of, history_of}
use Rattle.halving.specs.Coarse.{pair_at, halvings_at, made_by}
use Rattle.halving.specs.Asked.{Answers}
use Rattle.halving.specs.Halving.{find_ts_in, find_seq_in, Hides, EvenFrom2, FromEmpty, HalvingHides}
use Rattle.halving.proofs.Level.{level, level_is, level_mono, bound, bound_most}
use Rattle.halving.proofs.Exact.{slot, exact-reaches}
use Rattle.halving.proofs.Spread.{Spread}
use Rattle.halving.proofs.Kept.{kept-count, kept_fit, few, kept-recorded}
use Rattle.halving.proofs.Asked.{near-most, near-all, near_aged}
use Rattle.halving.proofs.Found.{by-seqs, by-secs, nat_same, int_same, answered, asked_recorded, seq_no, second}
use Rattle.halving.proofs.Run.{levelled, Holds, holds_first, holds_now}

-- ---- one recorded pair

one_pair : (w : Table) (r : TrackedSeq) → records w r ≡ true → kept_pairs (after w r) ≡ cond (halves w r) (evens (kept_pairs w ++ (r ∷ []))) (kept_pairs w ++ (r ∷ []))
unfolding step
one_pair w r = go (offer_to w r.seq r.ts) refl
  where
    go : (o : Told Outcome) → offer_to w r.seq r.ts ≡ o → was_recorded o ≡ true
        → kept_pairs (offered_to w r.seq r.ts o) ≡ cond (was_recorded o && ltb w.state.capacity (w.state.count + 1)) (evens (kept_pairs w ++ (r ∷ []))) (kept_pairs w ++ (r ∷ []))
    go (gave (recorded t)) e h = kept-recorded w (taken w.state w.seqs w.secs r.seq r.ts t e).good r t e
    go (gave (went_back t)) e h = absurd (false≢true h)
    go (gave (too_soon t)) e h = absurd (false≢true h)
    go (gave (pair_refused what t)) e h = absurd (false≢true h)
    go (refused what) e h = absurd (false≢true h)

-- an offer that is not recorded changes a total at most
no_pair : (w : Table) (r : TrackedSeq) → records w r ≡ false → kept_pairs (after w r) ≡ kept_pairs w
unfolding step
no_pair w r = go (offer_to w r.seq r.ts) refl
  where
    counted : (f : Fate) {t : SequenceTracker} → t ≡ counting f w.state → kept_pairs (whole t w.seqs w.secs) ≡ kept_pairs w
    counted f e = rw e

    go : (o : Told Outcome) → offer_to w r.seq r.ts ≡ o → was_recorded o ≡ false → kept_pairs (offered_to w r.seq r.ts o) ≡ kept_pairs w
    go (gave (recorded t)) e h = absurd (true≢false h)
    go (gave (went_back t)) e h = counted fate.WentBack (counts_so w r.seq r.ts _ e)
    go (gave (too_soon t)) e h = counted fate.TooSoon (counts_so w r.seq r.ts _ e)
    go (gave (pair_refused what t)) e h = counted fate.Refused (counts_so w r.seq r.ts _ e).0
    go (refused what) e h = refl

-- ---- offers in two parts

in_parts : (w : Table) (before later : List TrackedSeq)
    → (recorded_of w (before ++ later) ≡ recorded_of w before ++ recorded_of (now w before) later) × (halvings_of w (before ++ later) ≡ halvings_of w before + halvings_of (now w before) later)
unfolding recorded_of halvings_of ran_to
in_parts w [] later = (refl, sym (zero-add (halvings_of w later)))
in_parts w (r ∷ rs) later =
    let (a, b) = in_parts (after w r) rs later in
    (pairs (records w r) (recorded_of (after w r) rs) (recorded_of (now (after w r) rs) later) a, halved (halves w r) (halvings_of (after w r) rs) (halvings_of (now (after w r) rs) later) b)
  where
    pairs : (t : Bool) (m n : List TrackedSeq) {l : List TrackedSeq} → l ≡ m ++ n → cond t (r ∷ l) l ≡ cond t (r ∷ m) m ++ n
    pairs true m n e = ap (λ (l : List TrackedSeq). r ∷ l) e
    pairs false m n e = e

    halved : (t : Bool) (m n : ℕ) {k : ℕ} → k ≡ m + n → cond t (suc k) k ≡ cond t (suc m) m + n
    halved true m n e = omega arith
    halved false m n e = e

-- ---- how many are recorded

recorded-number : (w : Table) (rs : List TrackedSeq) → length (recorded_of w rs) ≡ how_many was_recorded (answers w (offers_of rs))
unfolding recorded_of how_many answers
recorded-number w [] = refl
recorded-number w (r ∷ rs) = go (records w r) (recorded_of (after w r) rs) (recorded-number (after w r) rs)
  where
    go : (b : Bool) (l : List TrackedSeq) {n : ℕ} → length l ≡ n → length (cond b (r ∷ l) l) ≡ cond b (suc n) n
    go true l e = ap suc e
    go false l e = e

counted-recorded : (w : Table) → check_in w ≡ gave tt → (rs : List TrackedSeq) → length (kept_pairs w ++ recorded_of w rs) + w.state.totals.recorded ≡ w.state.count + (now w rs).state.totals.recorded
counted-recorded w good rs = omega (arith, length-append (kept_pairs w) (recorded_of w rs), kept-count w good, recorded-number w rs, (totals_count.over_offers w rs).recorded_are)

-- ---- the theorem

module _ (w : Table) (good : check_in w ≡ gave tt) (half : ℕ) (some : 0 < half) (even : w.state.capacity ≡ half + half) where
  -- what holds after any offers
  held : (rs : List TrackedSeq) → Holds half some (now w rs) (kept_pairs w ++ recorded_of w rs) (halvings_of w rs)
  held rs = rw (zero-add (halvings_of w rs)) at (holds_now half some w (kept_pairs w) 0 rs (holds_first half some w good even))

  level_now : (rs : List TrackedSeq) → level half some (length (kept_pairs w ++ recorded_of w rs)) ≡ halvings_of w rs
  level_now rs =
      levelled half some (halvings_of w rs) (kept_pairs w ++ recorded_of w rs) (kept_pairs (now w rs)) (held rs).stands
      (omega (arith, kept-count (now w rs) (held rs).good, few (now w rs) (held rs).good half some (held rs).even))

  two : w.state.capacity / 2 ≡ half
  two = omega arith

  module _ (rs : List TrackedSeq) where
    abbrev spread : Spread (bound half some (halvings_of w rs)) (kept_pairs w ++ recorded_of w rs) (kept_pairs (now w rs))
    spread = (held rs).stands.spread

    asks_seq : (seq : Seq) → Answers ltb 0 (λ r. r.seq.0) (λ r. r.ts) (history_of w rs) spread.places seq.0 (find_ts_in (now w rs) seq)
    asks_seq seq =
        answered half some (halvings_of w rs) (kept_pairs w ++ recorded_of w rs) (kept_pairs (now w rs)) spread (level_now rs) (held rs).stands.exact w.state.capacity two
        ltb nat_order (λ r. r.seq.0) (λ r. r.ts) (held rs).by-seqs seq.0 _ (by-seqs (now w rs) (held rs).good seq)

    asks_second : (ts : Second) → Answers lt_z (pos 0) (λ r. r.ts.0) (λ r. r.seq) (history_of w rs) spread.places ts.0 (find_seq_in (now w rs) ts)
    asks_second ts =
        answered half some (halvings_of w rs) (kept_pairs w ++ recorded_of w rs) (kept_pairs (now w rs)) spread (level_now rs) (held rs).stands.exact w.state.capacity two
        lt_z int_order (λ r. r.ts.0) (λ r. r.seq) (held rs).by-secs ts.0 _ (by-secs (now w rs) (held rs).good ts)

    -- the halvings with each recorded pair, by the rule
    made : (x : ℕ) → level half some (x + 1) ≡ made_by (history_of w rs) x
    made x = sym (ap (λ (c : ℕ). halvings_at c (x + 1)) even ∙ level_is half some (x + 1))

    exactly : (i x : ℕ)
        → ((i < length (kept_pairs (now w rs))) × (spread.places.at i ≡ x))
        ↔ ((x < length (kept_pairs w ++ recorded_of w rs)) × (x ≡ made_by (history_of w rs) x * (w.state.capacity / 2) + i * 2 ^ (halvings_of w rs - made_by (history_of w rs) x)))
    exactly i x = (
      λ (h, e). (rw (← e) (spread.places.each i h).0, sym e ∙ (held rs).stands.exact.there i h ∙ ap (λ (y : ℕ). slot half some (halvings_of w rs) (level half some (y + 1)) i) e ∙ same),
      λ (h, e). (held rs).stands.exact.all i x h (e ∙ sym same),
    )
      where
        same : slot half some (halvings_of w rs) (level half some (x + 1)) i ≡ made_by (history_of w rs) x * (w.state.capacity / 2) + i * 2 ^ (halvings_of w rs - made_by (history_of w rs) x)
        same = ap (λ (m : ℕ). m * half + i * 2 ^ (halvings_of w rs - m)) (made x) ∙ ap (λ (c : ℕ). made_by (history_of w rs) x * c + i * 2 ^ (halvings_of w rs - made_by (history_of w rs) x)) (sym two)

    hides : Hides w rs
    hides =
        let k = halvings_of w rs in
        let h = history_of w rs in
        let l = level_now rs in
        let at = spread.places.at in
        let most : length h.recorded ≤ half + half + k * half = omega (arith, (held rs).stands.counted, kept-count (now w rs) (held rs).good, few (now w rs) (held rs).good half some (held rs).even) in
        record {
          halved = record {
            coarse = record { places = spread.places; near = λ i b. omega (arith, near-all half some k spread l i b) };
            exactly = exactly;
            how_many = sym (ap (λ c. halvings_at c (length h.recorded)) even ∙ level_is half some (length h.recorded) ∙ l);
            dropped = rw two (held rs).stands.counted;
            by_age = λ i j b a. omega (arith, near_aged half some k spread l i j b (rw two at a));
            reaches = λ i j p b wide.
                rw two (exact-reaches half some k h.recorded h.kept at (held rs).stands.exact most l i j p b (spread.places.each i b).0 (rw even at wide));
          };
          since = λ before later e i b a.
              omega (
                arith,
                near-most half some k spread l i b,
                bound_most half some k (at i) (k - halvings_of w before) (omega (arith, level_now before, level_mono half some (length (history_of w before).recorded) (at i + 1) a)),
              );
          seqs_in_order = (held rs).by-seqs;
          seconds_in_order = (held rs).by-secs;
          by_total = counted-recorded w good rs;
          by_seq = asks_seq;
          by_second = asks_second;
          recorded_seq = λ y opt b.
              let (i, z, c, d, e, f, m, n) = asked_recorded ltb nat_order (λ r. r.seq.0) (λ r. r.ts) nat_same h spread.places (held rs).by-seqs y _ b (asks_seq (pair_at h.recorded y).seq) opt in
              (i, z, c, d, e, ap seq_no f, m, n);
          recorded_second = λ y opt b.
              let (i, z, c, d, e, f, m, n) = asked_recorded lt_z int_order (λ r. r.ts.0) (λ r. r.seq) int_same h spread.places (held rs).by-secs y _ b (asks_second (pair_at h.recorded y).ts) opt in
              (i, z, c, d, e, ap second f, m, n);
        }

from_any : (w : Table) → check_in w ≡ gave tt → EvenFrom2 w.state.capacity → (rs : List TrackedSeq) → Hides w rs
from_any w good (half, even, some) rs = hides w good half some even rs

-- from totals of 0 the pairs at the start and the total of recorded offers are the recorded pairs
from_zero : (w : Table) (rs : List TrackedSeq) → w.state.totals.recorded ≡ 0 → Hides w rs → halvings_of w rs ≡ halvings_at w.state.capacity (w.state.count + (now w rs).state.totals.recorded)
from_zero w rs z H =
    let e : length (history_of w rs).recorded ≡ w.state.count + (now w rs).state.totals.recorded = omega (arith, H.by_total) in
    H.halved.how_many ∙ ap (halvings_at w.state.capacity) e

from_empty : (capacity interval : ℕ) (t : SequenceTracker) (seqs : List ℕ) (secs : List ℤ) → config_of capacity interval ≡ gave t → EvenFrom2 capacity
    → capacity ≤ length seqs → capacity ≤ length secs → (rs : List TrackedSeq) → FromEmpty capacity (whole t seqs secs) rs
unfolding records_of
from_empty capacity interval t seqs secs told (half, even, some) a b rs =
    let p = passed (bad_settings capacity interval) (15 ∷ []) (gave (empty_table capacity interval)) t told in
    let room : room_of capacity ≡ capacity = rw (ne_eqb capacity 0 (λ z. omega arith)) in
    let w = whole (empty_table capacity interval) seqs secs in
    let H = from_any w (empty-good capacity interval seqs secs p.0 (rw room a) (rw room b)) (half, even, some) rs in
    rw (← same_gift p.1) (record { hides = H; all_recorded = refl; halvings_by_total = from_zero w rs refl H ∙ ap (halvings_at capacity) (zero-add _) })

pub halving-hides : HalvingHides
halving-hides = record {
  one_pair = one_pair;
  no_pair = no_pair;
  in_parts = in_parts;
  from_any = from_any;
  from_empty = from_empty;
  from_restored = λ interval bytes seqs seqs' secs secs' t h rs.
      let w = whole t seqs' secs' in
      let S = restored_sound interval bytes seqs seqs' secs secs' t h in
      let H = from_any w S.good (4096, S.capacity, omega arith) rs in
      let kept = restored_kept interval bytes seqs seqs' secs secs' t h in
      let zero = ap (λ n. n.recorded) (totals_count.at_restore interval bytes seqs secs t (sym h.0)) in
      let count : t.count ≡ length (pairs_read (read_table bytes)).seqs = sym (kept_fit w S.good).0 ∙ ap (λ p. length p.seqs) kept in
      record {
        hides = H;
        all_recorded = ap (λ p. records_of p.seqs p.secs ++ recorded_of w rs) kept;
        halvings_by_total = from_zero w rs zero H ∙ ap (λ c. halvings_at c (t.count + (now w rs).state.totals.recorded)) S.capacity ∙ ap (λ n. halvings_at 8192 (n + (now w rs).state.totals.recorded)) count;
      };
}
