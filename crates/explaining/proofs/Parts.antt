-- Keys that part at a position, the smaller ones before it and the greater ones from it on; and keys of which one equals.
use mathlib.Core.Path.{◌≡◌, refl}
use mathlib.Core.Logic.{⊎_elim}
use mathlib.Core.Bool.{Bool, true, false, not, cond, ◌&&◌, and-false, false≢true}
use mathlib.Core.List.{List}
use Prim.Native.Nat.{ℕ, ◌-◌, ◌≤◌, ◌<◌}
use native.Mathlib.Nat.{le_refl, pos_of_ne-zero}
use native.Mathlib.Omega.{arith}
use borrow.Author.Tests.{lt-ltb, le-ltb, ltb-false, eqb-true, eqb-false, ne_eqb}
use lib.Arith.{lt_of_le-ne}
use lib.Dec.{eqb}
use lib.ListN.{get_or}
use Rattle.order.specs.First.{first}
use Rattle.order.specs.Order.{drops}
use Rattle.order.specs.Inner.{NoneBelow}
use Rattle.order.proofs.Bools.{below_or, true_false}
use Rattle.order.proofs.First.{first_is, first-none, first-within, first_holds, first_least, first_under, first_out}
use Rattle.order.proofs.Last.{final_is, final-none, final-out}
use Rattle.order.proofs.Order.{Order, rises}
use Rattle.search.specs.Inner.{among}
use Rattle.search.specs.Keys.{smaller, greater, first_not_below}
use Rattle.lookup.specs.Find.{place}
use Rattle.lookup.specs.Laws.{equal}
use Rattle.lookup.specs.declared.FindOption.{FindOption}
use Rattle.lookup.specs.declared.FindOption.TheVariants.{RoundUp, RoundDown}
use Rattle.lookup.proofs.Place.{un_not, is_smaller}
use Rattle.explaining.specs.Reason.{before, below, beside, some_equal, reason_of}
use Rattle.explaining.specs.Laws.{Between, BelowFirst, AboveLast, Parts}
use Rattle.explaining.specs.Inner.{answering}
use Rattle.explaining.specs.declared.Reason.TheVariants.{Exact, RoundedUp, RoundedDown, BeforeFirst, AfterLast}

-- what equals is on neither side
neither_side : (s g : Bool) → not s && not g ≡ true → (not s ≡ true) × (not g ≡ true)
neither_side true g e = absurd (false≢true e)
neither_side false true e = absurd (false≢true e)
neither_side false false e = (refl, refl)

pub some-keys : (n : ℕ) → 0 < n → eqb n 0 ≡ false
some-keys n l = ne_eqb n 0 (λ e. omega arith)

module _ {K : Type 0} (lt : K → K → Bool) (O : Order lt) (d : K) (keys : List K) (n : ℕ) (x : K) where
  -- one key equals
  pub equal-reason : (j : ℕ) → j < n → equal lt d keys x j ≡ true → (opt : FindOption) → reason_of lt d opt keys n x ≡ Exact (place lt d opt keys n x)
  equal-reason j l e opt =
      let f : first (equal lt d keys x) n < n = omega (arith, first_least (equal lt d keys x) n j l e) in
      rw (some-keys n (omega arith), lt-ltb (first (equal lt d keys x) n) n f)

  -- so a position answers
  pub equal-answers : (j : ℕ) → j < n → equal lt d keys x j ≡ true → (opt : FindOption) → place lt d opt keys n x < n
  equal-answers j l e RoundUp =
      omega (arith, first_least (λ i. not (smaller lt d keys x i)) n j l (neither_side (smaller lt d keys x j) (greater lt d keys x j) e).0)
  equal-answers j l e RoundDown =
      ⊎_elim (λ (h : place lt d RoundDown keys n x < n). h)
      (λ (h : n ≤ place lt d RoundDown keys n x). absurd (true_false _ (neither_side (smaller lt d keys x j) (greater lt d keys x j) e).1 (final-out (λ i. not (greater lt d keys x i)) n h j l)))
      (below_or (place lt d RoundDown keys n x) n)

  module _ (p : ℕ) (P : Parts lt d keys n x p) where
    none-equals : (j : ℕ) → j < n → equal lt d keys x j ≡ false
    none-equals j l =
        ⊎_elim (λ (h : j < p). rw (P.under j h))
        (λ (h : p ≤ j). rw (P.over j h l, and-false (not (smaller lt d keys x j))))
        (below_or j p)

    pub no_equal : some_equal lt d keys n x ≡ false
    no_equal = rw (first-none (equal lt d keys x) n n (le_refl n) none-equals, le-ltb n n (le_refl n))

    pub first-greater : first (greater lt d keys x) n ≡ p
    first-greater = first_is (greater lt d keys x) n p P.within (λ j h. O.asym (get_or keys j d) x (P.under j h)) (λ l. P.over p (le_refl p) l)

    pub parts-reason : 0 < n → (opt : FindOption) → reason_of lt d opt keys n x ≡ beside opt p n
    parts-reason some opt = rw (some-keys n some, no_equal, first-greater)

    -- the position that answers is the lookup's
    pub parts-place : (opt : FindOption) → answering (beside opt p n) ≡ among n (place lt d opt keys n x)
    parts-place RoundUp = rw here (go (eqb p n) refl)
      where
        here : place lt d RoundUp keys n x ≡ p
        here = first_is (λ i. not (smaller lt d keys x i)) n p P.within (λ j h. rw (P.under j h)) (λ l. rw (O.asym x (get_or keys p d) (P.over p (le_refl p) l)))

        go : (b : Bool) → eqb p n ≡ b → answering (cond b AfterLast (RoundedUp (before p) p)) ≡ among n p
        go true e = let f = eqb-true p n e in rw (le-ltb p n (omega arith))
        go false e = rw (lt-ltb p n (lt_of_le-ne P.within (eqb-false p n e)))
    parts-place RoundDown = go (eqb p 0) refl
      where
        go : (b : Bool) → eqb p 0 ≡ b → answering (cond b BeforeFirst (RoundedDown (p - 1) (below p n))) ≡ among n (place lt d RoundDown keys n x)
        go true e = rw (final-none (λ i. not (greater lt d keys x i)) n (λ j l. rw (P.over j (omega (arith, eqb-true p 0 e)) l)), le-ltb n n (le_refl n))
        go false e =
            let some : 0 < p = pos_of_ne-zero (eqb-false p 0 e) in
            let within : p - 1 < n = omega (arith, P.within) in
            let here = final_is (λ i. not (greater lt d keys x i)) n (p - 1) within
            (rw (O.asym (get_or keys (p - 1) d) x (P.under (p - 1) (omega arith))))
            (λ j a l. rw (P.over j (omega arith) l)) in
            rw (here, lt-ltb (p - 1) n within)

  module _ (sorted : NoneBelow (drops lt d keys) n) where
    -- up to a smaller key all are smaller, and from a greater one on all are greater
    under-by : (b : ℕ) → b < n → smaller lt d keys x b ≡ true → (j : ℕ) → j ≤ b → smaller lt d keys x j ≡ true
    under-by b l s j h = O.le_lt (get_or keys j d) (get_or keys b d) x (rises lt O d keys n sorted j b h l) s

    over_by : (a : ℕ) → greater lt d keys x a ≡ true → (j : ℕ) → a ≤ j → j < n → greater lt d keys x j ≡ true
    over_by a g j h l = O.lt_le x (get_or keys a d) (get_or keys j d) g (rises lt O d keys n sorted a j h l)

    pub parts-between : (b a : ℕ) → Between lt d keys n x b a → Parts lt d keys n x a
    parts-between b a B =
        let e = B.adjacent in
        let w = B.within in
        record { within = omega arith; under = λ j h. under-by b (omega arith) B.key_below j (omega arith); over = λ j h l. over_by a B.key_above j h l }

    pub parts_first : (p : ℕ) → BelowFirst lt d keys n x p → Parts lt d keys n x 0
    parts_first p B =
        let e = B.first_one in
        record { within = omega arith; under = λ j h. absurd (omega arith); over = λ j h l. over_by p B.key_above j (omega arith) l }

    pub parts_last : (p : ℕ) → AboveLast lt d keys n x p → Parts lt d keys n x n
    parts_last p B =
        let e = B.last_one in
        record { within = le_refl n; under = λ j h. under-by p (omega arith) B.key_below j (omega arith); over = λ j h l. absurd (omega arith) }

    -- where no key equals, they part at the first greater one
    pub parted : some_equal lt d keys n x ≡ false → Parts lt d keys n x (first (greater lt d keys x) n)
    parted none =
        let out = first_out (equal lt d keys x) n (ltb-false (first (equal lt d keys x) n) n none) in
        let w = first-within (greater lt d keys x) n in
        record {
          within = w;
          under = λ j h.
              let l : j < n = omega arith in
              is_smaller (smaller lt d keys x j) (greater lt d keys x j) (out j l) (first_under (greater lt d keys x) n j l h);
          over = λ j h l. over_by (first (greater lt d keys x) n) (first_holds (greater lt d keys x) n (omega arith)) j h l;
        }

    -- where the first key that is not below x stands
    module _ (p : ℕ) (at : p ≡ first_not_below lt d keys n x) where
      before_it : (j : ℕ) → j < n → j < p → smaller lt d keys x j ≡ true
      before_it j l h = un_not (smaller lt d keys x j) false (first_under (λ i. not (smaller lt d keys x i)) n j l (omega arith))

      pub parts-past : p ≡ n → Parts lt d keys n x p
      parts-past e = record { within = omega arith; under = λ j h. before_it j (omega arith) h; over = λ j h l. absurd (omega arith) }

      pub parts-there : p < n → greater lt d keys x p ≡ true → Parts lt d keys n x p
      parts-there l g = record { within = omega arith; under = λ j h. before_it j (omega arith) h; over = λ j h m. over_by p g j h m }

      pub equal-there : p < n → greater lt d keys x p ≡ false → equal lt d keys x p ≡ true
      equal-there l g =
          let s = un_not (smaller lt d keys x p) true (rw at (first_holds (λ i. not (smaller lt d keys x i)) n (rw (← at) l))) in
          rw (s, g)
