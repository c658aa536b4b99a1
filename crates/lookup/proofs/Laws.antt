-- The laws of specs/Laws.antt.
use mathlib.Core.Path.{◌≡◌, refl, ap}
use mathlib.Core.Logic.{◌↔◌}
use mathlib.Core.Bool.{Bool, true, false, cond, not}
use mathlib.Core.List.{List}
use Prim.Native.Nat.{ℕ, ◌<◌}
use native.Mathlib.Nat.{le_refl}
use native.Mathlib.Omega.{arith}
use borrow.Author.Tests.{lt-ltb, le-ltb, ltb-true, ltb-false}
use lib.Dec.{ltb}
use lib.IntN.{pos}
use lib.ListN.{take}
use lib.Signed.{lt_z}
use Rattle.told.specs.Told.{Told, gave, refused, if_good}
use Rattle.order.specs.Order.{drops}
use Rattle.order.specs.Inner.{NoneBelow}
use Rattle.order.proofs.Bools.{not_given}
use Rattle.order.proofs.First.{first-same}
use Rattle.order.proofs.Last.{final-same}
use Rattle.order.proofs.Order.{Order, nat_order, int_order}
use Rattle.search.specs.Keys.{smaller, greater}
use Rattle.tracker.specs.Table.{check_of}
use Rattle.tracker.proofs.Good.{fine}
use Rattle.tracker.proofs.Kept.{kept_at, check-kept}
use Rattle.lookup.specs.Find.{Partner, partner, nothing, standing, place, second_at, seq_at}
use Rattle.lookup.specs.Laws.{in_words, NoKey, Nearest, Lookup, LookupTs, LookupSeq, KeptTs, KeptSeq}
use Rattle.lookup.specs.declared.FindOption.{FindOption}
use Rattle.lookup.specs.declared.FindOption.TheVariants.{RoundUp, RoundDown}
use Rattle.lookup.proofs.Place.{no_place, no_key, nearest, nearest_is, in_words_lem}

-- a table that is checked first tells p where it is good and p is q
after_check : {A : Type 0} (t : Told (Unit {0})) (p q : Partner A) → (if_good t (gave p) ≡ gave q) ↔ ((t ≡ gave tt) × (p ≡ q))
after_check (gave _) p q = (λ e. (refl, cc), λ h. ap gave h.1)
after_check (refused what) p q = (λ e. absurd (not_given what q e), λ h. absurd (not_given what tt h.0))

module _ {K A : Type 0} (lt : K → K → Bool) (O : Order lt) (d : K) (keys : List K) (n : ℕ) (x : K) (at : ℕ → A) where
  nothing-at : (opt : FindOption) → (standing at n (place lt d opt keys n x) ≡ nothing) ↔ NoKey lt d opt keys n x
  nothing-at opt = (
    λ e. no_key lt O d keys n x opt (ltb-false (place lt d opt keys n x) n (unfound (ltb (place lt d opt keys n x) n) e)),
    λ h. rw (no_place lt O d keys n x opt h, le-ltb n n (le_refl n)),
  )
    where
      unfound : (b : Bool) → cond b (partner (at (place lt d opt keys n x))) nothing ≡ nothing → b ≡ false
      unfound true e = absurd (let z : ◌≡◌ {A = ℕ} 0 1 = cc in omega arith)
      unfound false e = refl

  -- a nearest key is one of the n
  inside : (opt : FindOption) (p : ℕ) → Nearest lt d opt keys n x p → p < n
  inside RoundUp p N = N.within
  inside RoundDown p N = N.within

  module _ (sorted : NoneBelow (drops lt d keys) n) where
    nearest-at : (opt : FindOption) (p : ℕ) → Nearest lt d opt keys n x p ↔ ((p < n) × (place lt d opt keys n x ≡ p))
    nearest-at opt p = (λ N. (inside opt p N, nearest_is lt O d keys n x sorted opt p N), λ h. there h.0 h.1)
      where
        there : p < n → place lt d opt keys n x ≡ p → Nearest lt d opt keys n x p
        there l e = rw e at (nearest lt O d keys n x sorted opt (rw e l))

    partner-at : (opt : FindOption) (a : A) → (standing at n (place lt d opt keys n x) ≡ partner a) ↔ ((p : ℕ) × Nearest lt d opt keys n x p × (at p ≡ a))
    partner-at opt a = (λ e. found (ltb p n) refl e, λ h. back h.0 h.1 h.2)
      where
        p : ℕ
        p = place lt d opt keys n x

        found : (b : Bool) → ltb p n ≡ b → cond b (partner (at p)) nothing ≡ partner a → (q : ℕ) × Nearest lt d opt keys n x q × (at q ≡ a)
        found true l e = (p, nearest lt O d keys n x sorted opt (ltb-true p n l), cc)
        found false l e = absurd (let z : ◌≡◌ {A = ℕ} 0 1 = cc in omega arith)

        back : (q : ℕ) → Nearest lt d opt keys n x q → at q ≡ a → standing at n (place lt d opt keys n x) ≡ partner a
        back q N e = rw (nearest_is lt O d keys n x sorted opt q N, lt-ltb q n (inside opt q N), e)

  -- one place for another in a good table
  in_place : (t : Told (Unit {0})) (p q : ℕ) → (t ≡ gave tt → p ≡ q) → if_good t (gave (standing at n p)) ≡ if_good t (gave (standing at n q))
  in_place (gave _) p q e = ap (λ r. gave (standing at n r)) (e refl)
  in_place (refused what) p q e = refl

  lookup : (check : Told (Unit {0})) → (check ≡ gave tt → NoneBelow (drops lt d keys) n) → Lookup lt d keys n x at check (λ opt. if_good check (gave (standing at n (place lt d opt keys n x))))
  lookup check sorted = record {
    answers_exactly = λ opt a.
        let after = after_check check (standing at n (place lt d opt keys n x)) (partner a) in (
          λ e. let g = (after.0 e).0 in let f = (partner-at (sorted g) opt a).0 (after.0 e).1 in (g, f.0, f.1, f.2),
          λ h. after.1 (h.0, (partner-at (sorted h.0) opt a).1 (h.1, h.2, h.3)),
        );
    nearest_exactly = λ opt g. nearest-at (sorted g) opt;
    nothing_exactly = λ opt.
        let after = after_check check (standing at n (place lt d opt keys n x)) nothing in
        (λ e. ((after.0 e).0, (nothing-at opt).0 (after.0 e).1), λ h. after.1 (h.0, (nothing-at opt).1 h.1));
    as_in_words = λ opt. in_place check (place lt d opt keys n x) (in_words lt d opt keys n x) (λ g. in_words_lem lt O d keys n x (sorted g) opt);
  }

pub lookup_ts : LookupTs
lookup_ts table seqs secs seq = lookup ltb nat_order 0 seqs table.count seq.0 (second_at secs) (check_of table seqs secs) (λ g. (fine table seqs secs g).pairs.seqs_rise)

pub lookup_seq : LookupSeq
lookup_seq table seqs secs ts = lookup lt_z int_order (pos 0) secs table.count ts.0 (seq_at seqs) (check_of table seqs secs) (λ g. (fine table seqs secs g).pairs.secs_rise)

-- the place that answers is told by the first n keys
module _ {K : Type 0} (lt : K → K → Bool) (d : K) (n : ℕ) (keys keys' : List K) (e : take n keys ≡ take n keys') (x : K) where
  pub place_same : (opt : FindOption) → place lt d opt keys n x ≡ place lt d opt keys' n x
  place_same RoundUp = first-same (λ i. not (smaller lt d keys x i)) (λ i. not (smaller lt d keys' x i)) n (λ j l. rw (kept_at n keys keys' j d e l))
  place_same RoundDown = final-same (λ i. not (greater lt d keys x i)) n (λ i. not (greater lt d keys' x i)) (λ j l. rw (kept_at n keys keys' j d e l))

-- and so is what stands there
pub standing-same : {A : Type 0} (at at' : ℕ → A) (n p : ℕ) → (p < n → at p ≡ at' p) → standing at n p ≡ standing at' n p
standing-same at at' n p same = go (ltb p n) refl
  where
    go : (b : Bool) → ltb p n ≡ b → cond b (partner (at p)) nothing ≡ cond b (partner (at' p)) nothing
    go true l = ap partner (same (ltb-true p n l))
    go false l = refl

pub kept_ts : KeptTs
kept_ts table seqs seqs' secs secs' seq opt same =
    let n = table.count in
    let p = place ltb 0 opt seqs' n seq.0 in
    rw (check-kept table seqs seqs' secs secs' same.same_seqs same.same_secs same.room_seqs same.room_secs, place_same ltb 0 n seqs seqs' same.same_seqs seq.0 opt)
    (ap (λ a. if_good (check_of table seqs' secs') (gave a)) (standing-same (second_at secs) (second_at secs') n p (λ l. rw (kept_at n secs secs' p (pos 0) same.same_secs l))))

pub kept_seq : KeptSeq
kept_seq table seqs seqs' secs secs' ts opt same =
    let n = table.count in
    let p = place lt_z (pos 0) opt secs' n ts.0 in
    rw (check-kept table seqs seqs' secs secs' same.same_seqs same.same_secs same.room_seqs same.room_secs, place_same lt_z (pos 0) n secs secs' same.same_secs ts.0 opt)
    (ap (λ a. if_good (check_of table seqs' secs') (gave a)) (standing-same (seq_at seqs) (seq_at seqs') n p (λ l. rw (kept_at n seqs seqs' p 0 same.same_seqs l))))
