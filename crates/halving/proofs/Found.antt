-- What a lookup answers, by the kept pairs, and how near that is to what it would answer by all recorded ones.
use mathlib.Core.Path.{◌≡◌, refl, sym, ap, ◌∙◌}
use mathlib.Core.Bool.{Bool, false, false≢true}
use mathlib.Core.List.{List, map}
use Prim.Native.Nat.{ℕ, ◌+◌, ◌/◌, ◌^◌, ◌<◌}
use native.Mathlib.Nat.{one-le-pow}
use native.Mathlib.Omega.{arith}
use borrow.Author.Tests.{lt-ltb, ltb-false}
use lib.Dec.{ltb}
use lib.IntN.{ℤ, pos, negsuc}
use lib.ListN.{length, take}
use lib.Seq.{take-take}
use lib.Signed.{lt_z}
use Rattle.told.specs.Told.{Told, gave}
use Rattle.order.proofs.Order.{Order}
use Rattle.tracker.specs.declared.Seq.{Seq}
use Rattle.tracker.specs.declared.Second.{Second}
use Rattle.tracker.specs.declared.TrackedSeq.{TrackedSeq}
use Rattle.lookup.specs.Find.{Partner, partner, standing, place, second_at, seq_at, find_ts, find_seq}
use Rattle.lookup.specs.declared.FindOption.{FindOption}
use Rattle.lookup.specs.declared.FindOption.TheVariants.{RoundUp, RoundDown}
use Rattle.lookup.proofs.Laws.{place_same, standing-same}
use Rattle.offers.specs.Whole.{Table, check_in}
use Rattle.offer_log.proofs.Run.{no_record}
use Rattle.halving.specs.History.{kept_pairs, History}
use Rattle.halving.specs.Coarse.{pair_at, Places, InOrder}
use Rattle.halving.specs.Asked.{CloseBy, named, Answers}
use Rattle.halving.proofs.Level.{level, bound}
use Rattle.halving.proofs.Exact.{Exact}
use Rattle.halving.proofs.Spread.{Spread}
use Rattle.halving.proofs.Kept.{records-seqs, records-secs, kept-count, kept_same, kept_at}
use Rattle.halving.proofs.Asked.{down-close, down_dividing, down_aged, up-close, alike, found, found-down, found_up}

-- ---- by the kept pairs

-- the place that answers, and what stands there, of keys and partners that are the same up to n
module _ {K A : Type 0} (lt : K → K → Bool) (d : K) (n : ℕ) (keys keys' : List K) (e : take n keys ≡ take n keys') (x : K) (at at' : ℕ → A) (same : (p : ℕ) → p < n → at p ≡ at' p) where
  same_answer : (m : ℕ) → m ≡ n → (opt : FindOption) → standing at n (place lt d opt keys n x) ≡ standing at' m (place lt d opt keys' m x)
  same_answer m f opt = rw f (ap (standing at n) (place_same lt d n keys keys' e x opt) ∙ standing-same at at' n (place lt d opt keys' n x) (same (place lt d opt keys' n x)))

module _ (v : Table) (good : check_in v ≡ gave tt) where
  abbrev n : ℕ
  n = v.state.count

  pub by-seqs : (seq : Seq) (opt : FindOption) → find_ts v.state v.seqs v.secs seq opt ≡ gave (standing (λ i. (pair_at (kept_pairs v) i).ts) (length (kept_pairs v)) (named ltb 0 (λ r. r.seq.0) opt (kept_pairs v) seq.0))
  by-seqs seq opt =
      let keys : take n v.seqs ≡ take n (map (λ r. r.seq.0) (kept_pairs v)) = rw (records-seqs (take n v.seqs) (take n v.secs) (kept_same v good)) (sym (take-take n n v.seqs (omega arith))) in
      rw good (ap gave (same_answer ltb 0 n v.seqs (map (λ r. r.seq.0) (kept_pairs v)) keys seq.0 (second_at v.secs) (λ i. (pair_at (kept_pairs v) i).ts) (λ p h. sym (ap (λ r. r.ts) (kept_at v good p h))) (length (kept_pairs v)) (kept-count v good) opt))

  pub by-secs : (ts : Second) (opt : FindOption) → find_seq v.state v.seqs v.secs ts opt ≡ gave (standing (λ i. (pair_at (kept_pairs v) i).seq) (length (kept_pairs v)) (named lt_z (pos 0) (λ r. r.ts.0) opt (kept_pairs v) ts.0))
  by-secs ts opt =
      let keys : take n v.secs ≡ take n (map (λ r. r.ts.0) (kept_pairs v)) = rw (records-secs (take n v.seqs) (take n v.secs) (kept_same v good)) (sym (take-take n n v.secs (omega arith))) in
      rw good (ap gave (same_answer lt_z (pos 0) n v.secs (map (λ r. r.ts.0) (kept_pairs v)) keys ts.0 (seq_at v.seqs) (λ i. (pair_at (kept_pairs v) i).seq) (λ p h. sym (ap (λ r. r.seq) (kept_at v good p h))) (length (kept_pairs v)) (kept-count v good) opt))

-- two numbers of which neither is below the other are one
pub nat_same : (a b : ℕ) → ltb a b ≡ false → ltb b a ≡ false → a ≡ b
nat_same a b e f = omega (arith, ltb-false a b e, ltb-false b a f)

pub int_same : (a b : ℤ) → lt_z a b ≡ false → lt_z b a ≡ false → a ≡ b
int_same (pos a) (pos b) e f = ap pos (nat_same a b e f)
int_same (pos a) (negsuc b) e f = absurd (false≢true (sym f))
int_same (negsuc a) (pos b) e f = absurd (false≢true (sym e))
int_same (negsuc a) (negsuc b) e f = ap negsuc (nat_same a b f e)

module _ (half : ℕ) (some : 0 < half) (k : ℕ) (rec kept : List TrackedSeq) (S : Spread (bound half some k) rec kept) (l : level half some (length rec) ≡ k) (E : Exact half some k rec kept S.places.at) (capacity : ℕ) (two : capacity / 2 ≡ half) where
  pub answered : {K A : Type 0} (lt : K → K → Bool) (O : Order lt) (key : TrackedSeq → K) (value : TrackedSeq → A) → InOrder lt key rec
      → (x : K) (find : FindOption → Told (Partner A)) → ((opt : FindOption) → find opt ≡ gave (standing (λ i. value (pair_at kept i)) (length kept) (named lt (key no_record) key opt kept x)))
      → Answers lt (key no_record) key value (record { capacity = capacity; halvings = k; recorded = rec; kept = kept }) S.places x find
  answered lt O key value sorted x find finds = record {
    from_kept = finds;
    nothing_alike = alike lt O key S.places x sorted;
    close = close;
    close_down = λ j q h d b. let f = found-down lt O key S.places x sorted h in down_dividing half some k S l _ _ f.0 h f.1 f.2 E j q (sym two ∙ d) (rw two at b);
    close_down_any = λ j h b. let f = found-down lt O key S.places x sorted h in down_aged half some k S l _ _ f.0 h f.1 f.2 j (rw two at b);
  }
    where
      close : (opt : FindOption) → named lt (key no_record) key opt rec x < length rec
          → (named lt (key no_record) key opt kept x < length kept)
          × CloseBy opt (record { capacity = capacity; halvings = k; recorded = rec; kept = kept }) (S.places.at (named lt (key no_record) key opt kept x)) (named lt (key no_record) key opt rec x)
      close RoundDown h = let f = found-down lt O key S.places x sorted h in (f.0, down-close half some k S l _ _ f.0 h f.1 f.2 capacity two)
      close RoundUp h = let f = found_up lt O key S.places x sorted h in (f.0, up-close half some k S l _ _ h f.0 f.1 f.2 capacity two)

-- of a recorded key the pair that would answer among all recorded ones is one of that key, and the one that answers is near it
module _ {K A : Type 0} (lt : K → K → Bool) (O : Order lt) (key : TrackedSeq → K) (value : TrackedSeq → A) (same : (a b : K) → lt a b ≡ false → lt b a ≡ false → a ≡ b) where
  pub asked_recorded : (h : History) (P : Places h.recorded h.kept) → InOrder lt key h.recorded → (y : ℕ) (find : FindOption → Told (Partner A)) → y < length h.recorded
      → Answers lt (key no_record) key value h P (key (pair_at h.recorded y)) find → (opt : FindOption)
      → (i z : ℕ) × (i < length h.kept) × (find opt ≡ gave (partner (value (pair_at h.kept i)))) × (z < length h.recorded) × (key (pair_at h.recorded z) ≡ key (pair_at h.recorded y))
      × (z < P.at i + 2 ^ h.halvings) × (P.at i < z + 2 ^ h.halvings)
  asked_recorded h P sorted y find l N opt =
      let x = key (pair_at h.recorded y) in
      let i = named lt (key no_record) key opt h.kept x in
      let z = named lt (key no_record) key opt h.recorded x in
      let f = found lt O key P x sorted same opt y l refl in
      let c = N.close opt f.0 in
      let n = near opt c.1 in
      (i, z, c.0, N.from_kept opt ∙ rw (lt-ltb i (length h.kept) c.0), f.0, f.1, n.0, n.1)
    where
      near : (opt : FindOption) {i z : ℕ} → CloseBy opt h (P.at i) z → (z < P.at i + 2 ^ h.halvings) × (P.at i < z + 2 ^ h.halvings)
      near RoundDown c = (c.1, omega (arith, c.0, c.1, one-le-pow h.halvings 2 (omega arith)))
      near RoundUp c = (omega (arith, c.0, c.1, one-le-pow h.halvings 2 (omega arith)), c.1)

-- a number as a sequence, and as a second
abbrev pub seq_no : ℕ → Seq
seq_no q = record { 0 = q }

abbrev pub second : ℤ → Second
second s = record { 0 = s }
