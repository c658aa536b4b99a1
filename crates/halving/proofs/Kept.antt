-- What a recorded pair leaves of the kept pairs, and how it stands to those recorded before it.
use mathlib.Core.Path.{◌≡◌, refl, sym, ap, ap₂, ◌∙◌}
use mathlib.Core.Bool.{Bool, true, false, cond}
use mathlib.Core.List.{List, [], ◌∷◌, ◌++◌, map}
use Prim.Native.Nat.{ℕ, ◌+◌, ◌-◌, ◌≤◌, ◌<◌}
use native.Mathlib.Omega.{arith}
use borrow.Author.Tests.{ne_eqb}
use lib.Dec.{ltb}
use lib.IntN.{ℤ, pos}
use lib.ListN.{length, get_or, take}
use lib.Seq.{length-take-le}
use lib.Signed.{lt_z}
use Rattle.told.specs.Told.{gave}
use Rattle.limits.specs.Settings.{room_of}
use Rattle.order.proofs.Order.{nat_order, int_order, rises}
use Rattle.tracker.specs.declared.TrackedSeq.{TrackedSeq}
use Rattle.tracker.specs.declared.SequenceTracker.{SequenceTracker}
use Rattle.tracker.proofs.Good.{Fine, fine, count-seqs, count-secs}
use Rattle.keeping.specs.Keep.{evens}
use Rattle.keeping.proofs.Thinned.{appended-length}
use Rattle.offers.specs.Whole.{Table, check_in}
use Rattle.offers.specs.Offer.{recorded, offer_to, offered_to}
use Rattle.offers.proofs.Preserved.{taken, recorded-seqs, recorded-secs, after-low, after_last}
use Rattle.offer_log.specs.Pairs.{pair_of, records_of}
use Rattle.offer_log.proofs.Records.{front_length, front_at}
use Rattle.halving.specs.History.{kept_pairs}
use Rattle.halving.specs.Coarse.{pair_at}

-- ---- the records of two lists of one length

pub records-seqs : (a : List ℕ) (b : List ℤ) → length a ≡ length b → map (λ r. r.seq.0) (records_of a b) ≡ a
unfolding records_of
records-seqs [] b e = refl
records-seqs (q ∷ a) [] e = absurd (omega arith)
records-seqs (q ∷ a) (s ∷ b) e = let e' : length a ≡ length b = omega arith in ap (λ l. q ∷ l) (records-seqs a b e')

pub records-secs : (a : List ℕ) (b : List ℤ) → length a ≡ length b → map (λ r. r.ts.0) (records_of a b) ≡ b
unfolding records_of
records-secs [] [] e = refl
records-secs [] (s ∷ b) e = absurd (omega arith)
records-secs (q ∷ a) [] e = absurd (omega arith)
records-secs (q ∷ a) (s ∷ b) e = let e' : length a ≡ length b = omega arith in ap (λ l. s ∷ l) (records-secs a b e')

records_more : (a : List ℕ) (b : List ℤ) (q : ℕ) (s : ℤ) → length a ≡ length b → records_of (a ++ (q ∷ [])) (b ++ (s ∷ [])) ≡ records_of a b ++ (pair_of q s ∷ [])
unfolding records_of
records_more [] [] q s e = refl
records_more [] (y ∷ b) q s e = absurd (omega arith)
records_more (x ∷ a) [] q s e = absurd (omega arith)
records_more (x ∷ a) (y ∷ b) q s e = let e' : length a ≡ length b = omega arith in ap (λ l. pair_of x y ∷ l) (records_more a b q s e')

records-evens : (a : List ℕ) (b : List ℤ) → length a ≡ length b → records_of (evens a) (evens b) ≡ evens (records_of a b)
unfolding records_of evens
records-evens [] b e = refl
records-evens (x ∷ a) [] e = absurd (omega arith)
records-evens (x ∷ []) (y ∷ []) e = refl
records-evens (x ∷ []) (y ∷ y' ∷ b) e = absurd (omega arith)
records-evens (x ∷ x' ∷ a) (y ∷ []) e = absurd (omega arith)
records-evens (x ∷ x' ∷ a) (y ∷ y' ∷ b) e = let e' : length a ≡ length b = omega arith in ap (λ l. pair_of x y ∷ l) (records-evens a b e')

records-thinned : (full : Bool) (a : List ℕ) (b : List ℤ) → length a ≡ length b → records_of (cond full (evens a) a) (cond full (evens b) b) ≡ cond full (evens (records_of a b)) (records_of a b)
records-thinned true a b e = records-evens a b e
records-thinned false a b e = refl

-- ---- a good table

module _ (w : Table) (good : check_in w ≡ gave tt) where
  ok : Fine w.state w.seqs w.secs
  ok = fine w.state w.seqs w.secs good

  fit : w.state.count ≤ length w.seqs
  fit = count-seqs w.state w.seqs w.secs ok.state

  fit' : w.state.count ≤ length w.secs
  fit' = count-secs w.state w.seqs w.secs ok.state

  -- it keeps as many pairs as it counts
  pub kept-count : length (kept_pairs w) ≡ w.state.count
  kept-count = front_length w.state.count w.seqs w.secs fit fit'

  -- of both arrays as many
  pub kept_fit : (length (take w.state.count w.seqs) ≡ w.state.count) × (length (take w.state.count w.secs) ≡ w.state.count)
  kept_fit = (length-take-le w.state.count w.seqs fit, length-take-le w.state.count w.secs fit')

  pub kept_same : length (take w.state.count w.seqs) ≡ length (take w.state.count w.secs)
  kept_same = kept_fit.0 ∙ sym kept_fit.1

  pub few : (half : ℕ) → 0 < half → w.state.capacity ≡ half + half → w.state.count ≤ half + half
  few half some even = let e : room_of w.state.capacity ≡ w.state.capacity = rw (ne_eqb w.state.capacity 0 (λ z. omega arith)) in omega (arith, ok.state.count_room)

  -- kept pair i is what the arrays hold there
  pub kept_at : (i : ℕ) → i < w.state.count → pair_at (kept_pairs w) i ≡ pair_of (get_or w.seqs i 0) (get_or w.secs i (pos 0))
  kept_at i h = sym (front_at w.state.count w.seqs w.secs fit fit' i h)

  -- the kept pairs are in order, by both keys
  pub seqs_in_order : (x y : ℕ) → x ≤ y → y < length (kept_pairs w) → ltb (pair_at (kept_pairs w) y).seq.0 (pair_at (kept_pairs w) x).seq.0 ≡ false
  seqs_in_order x y h l =
      let b : y < w.state.count = omega (arith, kept-count) in
      rw (kept_at y b, kept_at x (omega arith)) (rises ltb nat_order 0 w.seqs w.state.count ok.pairs.seqs_rise x y h b)

  pub secs_in_order : (x y : ℕ) → x ≤ y → y < length (kept_pairs w) → lt_z (pair_at (kept_pairs w) y).ts.0 (pair_at (kept_pairs w) x).ts.0 ≡ false
  secs_in_order x y h l =
      let b : y < w.state.count = omega (arith, kept-count) in
      rw (kept_at y b, kept_at x (omega arith)) (rises lt_z int_order (pos 0) w.secs w.state.count ok.pairs.secs_rise x y h b)

  -- a recorded pair
  module _ (r : TrackedSeq) (t : SequenceTracker) (e : offer_to w r.seq r.ts ≡ gave (recorded t)) where
    -- leaves what the rule leaves of both arrays
    pub kept-recorded : kept_pairs (offered_to w r.seq r.ts (gave (recorded t))) ≡ cond (ltb w.state.capacity (w.state.count + 1)) (evens (kept_pairs w ++ (r ∷ []))) (kept_pairs w ++ (r ∷ []))
    kept-recorded =
        let n = w.state.count in
        let qs = take n w.seqs in
        let ss = take n w.secs in
        let q = r.seq.0 in
        let s = r.ts.0 in
        let long = appended-length n w.seqs q fit in
        let long' = appended-length n w.secs s fit' in
        ap₂ records_of
        (recorded-seqs w.state w.seqs w.secs r.seq r.ts t e ∙ ap (λ m. cond (ltb w.state.capacity m) (evens (qs ++ (q ∷ []))) (qs ++ (q ∷ []))) long)
        (recorded-secs w.state w.seqs w.secs r.seq r.ts t e ∙ ap (λ m. cond (ltb w.state.capacity m) (evens (ss ++ (s ∷ []))) (ss ++ (s ∷ []))) long')
        ∙ records-thinned (ltb w.state.capacity (n + 1)) (qs ++ (q ∷ [])) (ss ++ (s ∷ [])) (long ∙ sym long')
        ∙ ap (λ l. cond (ltb w.state.capacity (n + 1)) (evens l) l) (records_more qs ss q s kept_same)

    -- and is below the last kept one by neither key
    pub seq_on : 0 < length (kept_pairs w) → ltb r.seq.0 (pair_at (kept_pairs w) (length (kept_pairs w) - 1)).seq.0 ≡ false
    seq_on h =
        let k = taken w.state w.seqs w.secs r.seq r.ts t e in
        let n = w.state.count in
        rw (kept-count, kept_at (n - 1) (omega (arith, kept-count))) (after-low w.seqs n r.seq.0 k.rising (omega (arith, kept-count)))

    pub sec_on : 0 < length (kept_pairs w) → lt_z r.ts.0 (pair_at (kept_pairs w) (length (kept_pairs w) - 1)).ts.0 ≡ false
    sec_on h =
        let k = taken w.state w.seqs w.secs r.seq r.ts t e in
        let n = w.state.count in
        rw (kept-count, kept_at (n - 1) (omega (arith, kept-count)))
        (after_last w.state.last_recorded_ts w.secs n r.ts.0 ok.state.last_placed ok.state.last_above k.onward (omega (arith, kept-count)))
