-- What a log keeps: a good table is good afterwards, each record counts once, and one that is refused is refused by 16, 17 or 31 at the position after those counted.
use mathlib.Core.Path.{◌≡◌, refl, sym, ap, ◌∙◌}
use mathlib.Core.Logic.{◌⊎◌, inl, inr, ⊎_elim}
use mathlib.Core.Bool.{Bool, true, false, cond}
use mathlib.Core.List.{List, [], ◌∷◌}
use Prim.Native.Nat.{ℕ, suc, ◌+◌, ◌<◌}
use native.Mathlib.Omega.{arith}
use lib.ListN.{length}
use Rattle.told.specs.Told.{Told, gave, refused}
use Rattle.limits.specs.Domain.{outside}
use Rattle.totals.specs.Totals.{sum_of, most}
use Rattle.totals.proofs.Sum.{room_for_one}
use Rattle.tracker.specs.declared.TrackedSeq.{TrackedSeq}
use Rattle.tracker.specs.declared.SequenceTracker.{SequenceTracker}
use Rattle.order.proofs.Bools.{not_given}
use Rattle.skipping.specs.Reasons.{goes_back, comes_too_soon}
use Rattle.offers.specs.Whole.{Table, check_in, Left}
use Rattle.offers.specs.Offer.{Outcome, recorded, went_back, too_soon, pair_refused, low_seq, offered_to}
use Rattle.offers.proofs.Counted.{reached, counts_so, sum-after}
use Rattle.offers.proofs.Preserved.{stays_good}
use Rattle.tallies.specs.Tally.{counted, total}
use Rattle.tallies.specs.declared.Tally.{Tally}
use Rattle.offer_log.specs.Log.{Log, unless_stopped, run_of}
use Rattle.offer_log.specs.Inner.{tells, after_record, stopped_at}
use Rattle.offer_log.specs.Laws.{AddsUp}

-- what holds of both ways holds of the one that is taken
either_way : {B : Type 0} (P : B → Type 0) (o : Told Outcome) (stop : List ℕ → B) (next : B) → ((what : List ℕ) → P (stop what)) → P next → P (unless_stopped o stop next)
either_way P (gave (recorded t)) stop next h k = k
either_way P (gave (went_back t)) stop next h k = k
either_way P (gave (too_soon t)) stop next h k = k
either_way P (gave (pair_refused what t)) stop next h k = h what
either_way P (refused what) stop next h k = h what

pub run_good : (w : Table) (n : Tally) (i : ℕ) (rs : List TrackedSeq) → check_in w ≡ gave tt → check_in (run_of w n i rs).table ≡ gave tt
unfolding run_of
run_good w n i [] g = g
run_good w n i (r ∷ rs) g =
    let after = after_record w r in
    let still = stays_good w.state w.seqs w.secs r.seq r.ts (tells w r) refl g in
    either_way (λ (l : Left (Told Log)). check_in l.table ≡ gave tt) (tells w r) (stopped_at after n i) (run_of after (counted (tells w r) n) (i + 1) rs) (λ what. still) (run_good after (counted (tells w r) n) (i + 1) rs still)

-- a record whose pair is refused is refused by 16, where its second is out of domain, or by 17
pair_refuses : (w : Table) (r : TrackedSeq) (what : List ℕ) (t : SequenceTracker) → tells w r ≡ gave (pair_refused what t) → ((what ≡ 16 ∷ []) × (outside r.ts.0 ≡ true)) ⊎ (what ≡ 17 ∷ [])
pair_refuses w r what t h =
    go _ _ _ _ (outside r.ts.0) (goes_back w.state.last_recorded_ts r.ts.0) (comes_too_soon w.state.last_recorded_ts w.state.interval_secs r.ts.0) (low_seq w.seqs w.state.count r.seq.0)
    (reached w r.seq r.ts (pair_refused what t) h).outcome
  where
    go : (n x y z : SequenceTracker) (a b c d : Bool) → cond a (pair_refused (16 ∷ []) n) (cond b (went_back x) (cond c (too_soon y) (cond d (pair_refused (17 ∷ []) n) (recorded z)))) ≡ pair_refused what t → ((what ≡ 16 ∷ []) × (a ≡ true)) ⊎ (what ≡ 17 ∷ [])
    go n x y z true b c d e = inl (cc e, refl)
    go n x y z false true c d e = absurd (let z : ◌≡◌ {A = ℕ} 0 1 = cc e in omega arith)
    go n x y z false false true d e = absurd (let z : ◌≡◌ {A = ℕ} 0 1 = cc e in omega arith)
    go n x y z false false false true e = inr (cc e)
    go n x y z false false false false e = absurd (let z : ◌≡◌ {A = ℕ} 0 1 = cc e in omega arith)

-- one that is refused and not counted finds the totals full
uncounted : (w : Table) (r : TrackedSeq) (what : List ℕ) → check_in w ≡ gave tt → tells w r ≡ refused what → (sum_of w.state.totals ≡ most) × (what ≡ 31 ∷ [])
uncounted w r what g h =
    ⊎_elim (λ (e : check_in w ≡ refused what). absurd (not_given what tt (sym e ∙ g)))
    (λ (e : (check_in w ≡ gave tt) × (sum_of w.state.totals ≡ most) × (what ≡ 31 ∷ [])). (e.1, e.2))
    (counts_so w r.seq r.ts (refused what) h)

-- each record with a second out of domain may stop a log, by 16
unfoldable pub Stops : (ℕ → Type 0) → List TrackedSeq → Type 0
Stops By [] = Unit {0}
Stops By (r ∷ rs) = (outside r.ts.0 ≡ true → By 16) × Stops By rs

-- after i records of a log on a good table, each of which was counted, the rest add up too; `base` is the sum of the totals before the first
module _ (base : ℕ) (By : ℕ → Type 0) where
  abbrev pub At : ℕ → ℕ → Type 0
  At i number = (By number × (base + i < most)) ⊎ ((number ≡ 31) × (base + i ≡ most))

  pub run_adds_up : (w : Table) (n : Tally) (i : ℕ) (rs : List TrackedSeq) → By 17 → Stops By rs → check_in w ≡ gave tt → total n ≡ i → sum_of w.state.totals ≡ base + i
      → AddsUp At (i + length rs) (run_of w n i rs).answer
  unfolding run_of Stops
  run_adds_up w n i [] low s g h b = omega (arith, h)
  run_adds_up w n i (r ∷ rs) low s g h b =
      go (tells w r) refl (λ (o : Outcome) (e : tells w r ≡ gave o) (c : total (counted (gave o) n) ≡ total n + 1).
      run_adds_up (offered_to w r.seq r.ts (gave o)) (counted (gave o) n) (i + 1) rs low s.1
      (stays_good w.state w.seqs w.secs r.seq r.ts (gave o) e g) (c ∙ ap (λ (k : ℕ). k + 1) h) (omega (arith, b, sum-after w r.seq r.ts o e)))
    where
      one : i + suc (length rs) ≡ i + 1 + length rs
      one = omega arith

      roomy : (what : List ℕ) (t : SequenceTracker) → tells w r ≡ gave (pair_refused what t) → base + total n < most
      roomy what t f = let q = room_for_one w.state.totals (reached w r.seq r.ts (pair_refused what t) f).room in omega (arith, q, b, h)

      go : (o : Told Outcome) → tells w r ≡ o
          → ((x : Outcome) → tells w r ≡ gave x → total (counted (gave x) n) ≡ total n + 1 → AddsUp At (i + 1 + length rs) (run_of (offered_to w r.seq r.ts (gave x)) (counted (gave x) n) (i + 1) rs).answer)
          → AddsUp At (i + suc (length rs)) (unless_stopped o (stopped_at (offered_to w r.seq r.ts o) n i) (run_of (offered_to w r.seq r.ts o) (counted o n) (i + 1) rs)).answer
      go (gave (recorded t)) f k = rw one (k (recorded t) f (omega arith))
      go (gave (went_back t)) f k = rw one (k (went_back t) f (omega arith))
      go (gave (too_soon t)) f k = rw one (k (too_soon t) f (omega arith))
      go (gave (pair_refused what t)) f k =
          ⊎_elim (λ (e : (what ≡ 16 ∷ []) × (outside r.ts.0 ≡ true)). (omega (arith, h), 16, inl (s.0 e.1, roomy what t f), rw (e.0, h)))
          (λ (e : what ≡ 17 ∷ []). (omega (arith, h), 17, inl (low, roomy what t f), rw (e, h)))
          (pair_refuses w r what t f)
      go (refused what) f k = let e = uncounted w r what g f in (omega (arith, h), 31, inr (refl, omega (arith, e.0, b, h)), rw (e.1, h))
