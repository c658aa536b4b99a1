-- The place that answers, among keys that do not drop: it is that of the nearest key, and the one that the rule in words names.
use mathlib.Core.Path.{◌≡◌, refl, sym, ◌∙◌, ap}
use mathlib.Core.Logic.{⊎_elim}
use mathlib.Core.Bool.{Bool, true, false, not, cond, ◌&&◌, and-false, not-not, true≢false, false≢true}
use mathlib.Core.List.{List}
use Prim.Native.Nat.{ℕ, ◌≤◌, ◌<◌}
use native.Mathlib.Nat.{le_refl}
use native.Mathlib.Omega.{arith}
use borrow.Author.Tests.{ltb-true, ltb-false}
use lib.Dec.{ltb}
use lib.ListN.{get_or}
use Rattle.order.specs.First.{first, final}
use Rattle.order.specs.Order.{drops}
use Rattle.order.specs.Inner.{NoneBelow}
use Rattle.order.proofs.Bools.{other, true_false, below_or}
use Rattle.order.proofs.First.{first_is, first-none, first-within, first_holds, first_least, first_under, first_out}
use Rattle.order.proofs.Last.{final_is, final-none, final_holds, final-most, final-over, final-out}
use Rattle.order.proofs.Order.{Order, rises}
use Rattle.search.specs.Keys.{smaller, greater}
use Rattle.lookup.specs.Find.{place}
use Rattle.lookup.specs.Laws.{equal, in_words, NoKey, Nearest}
use Rattle.lookup.specs.declared.FindOption.{FindOption}
use Rattle.lookup.specs.declared.FindOption.TheVariants.{RoundUp, RoundDown}

pub un_not : (b c : Bool) → not b ≡ c → b ≡ not c
un_not b c e = sym (not-not b) ∙ ap not e

-- of three ways for a key to stand, by the tests below and above: neither is equal, and what is not equal is one of them
equal_is : (s g : Bool) → not s && not g ≡ true → (s ≡ false) × (g ≡ false)
equal_is true g e = absurd (false≢true e)
equal_is false true e = absurd (false≢true e)
equal_is false false e = (refl, refl)

pub is_smaller : (s g : Bool) → not s && not g ≡ false → g ≡ false → s ≡ true
is_smaller true g e f = refl
is_smaller false g e f = absurd (true≢false (rw f at e))

is_greater : (s g : Bool) → not s && not g ≡ false → s ≡ false → g ≡ true
is_greater s true e f = refl
is_greater s false e f = absurd (true≢false (rw f at e))

module _ {K : Type 0} (lt : K → K → Bool) (O : Order lt) (d : K) (keys : List K) (n : ℕ) (x : K) where
  equal-at : (y : K) (j : ℕ) → equal lt d keys y j ≡ true → (smaller lt d keys y j ≡ false) × (greater lt d keys y j ≡ false)
  equal-at y j = equal_is (smaller lt d keys y j) (greater lt d keys y j)

  smaller-at : (j : ℕ) → equal lt d keys x j ≡ false → greater lt d keys x j ≡ false → smaller lt d keys x j ≡ true
  smaller-at j = is_smaller (smaller lt d keys x j) (greater lt d keys x j)

  greater-at : (j : ℕ) → equal lt d keys x j ≡ false → smaller lt d keys x j ≡ false → greater lt d keys x j ≡ true
  greater-at j = is_greater (smaller lt d keys x j) (greater lt d keys x j)

  -- what the two places are, by the tests
  up_side : place lt d RoundUp keys n x < n → smaller lt d keys x (place lt d RoundUp keys n x) ≡ false
  up_side h = un_not _ true (first_holds (λ i. not (smaller lt d keys x i)) n h)

  up-under : (j : ℕ) → j < n → j < place lt d RoundUp keys n x → smaller lt d keys x j ≡ true
  up-under j l h = un_not _ false (first_under (λ i. not (smaller lt d keys x i)) n j l h)

  down_side : place lt d RoundDown keys n x < n → greater lt d keys x (place lt d RoundDown keys n x) ≡ false
  down_side h = un_not _ true (final_holds (λ i. not (greater lt d keys x i)) n h)

  down-over : (j : ℕ) → j < n → place lt d RoundDown keys n x < j → greater lt d keys x j ≡ true
  down-over j l h = un_not _ false (final-over (λ i. not (greater lt d keys x i)) n j l h)

  -- ---- no place

  all-smaller : NoKey lt d RoundUp keys n x → (j : ℕ) → j < n → smaller lt d keys x j ≡ true
  all-smaller h j l = smaller-at j (h j l).0 (h j l).1

  all-greater : NoKey lt d RoundDown keys n x → (j : ℕ) → j < n → greater lt d keys x j ≡ true
  all-greater h j l = greater-at j (h j l).0 (h j l).1

  pub no_place : (opt : FindOption) → NoKey lt d opt keys n x → place lt d opt keys n x ≡ n
  no_place RoundUp h = first-none (λ i. not (smaller lt d keys x i)) n n (le_refl n) (λ j l. rw (all-smaller h j l))
  no_place RoundDown h = final-none (λ i. not (greater lt d keys x i)) n (λ j l. rw (all-greater h j l))

  pub no_key : (opt : FindOption) → n ≤ place lt d opt keys n x → NoKey lt d opt keys n x
  no_key RoundUp h = λ j l.
      let s = un_not (smaller lt d keys x j) false (first_out (λ i. not (smaller lt d keys x i)) n h j l) in
      (rw s, O.asym (get_or keys j d) x s)
  no_key RoundDown h = λ j l.
      let g = un_not (greater lt d keys x j) false (final-out (λ i. not (greater lt d keys x i)) n h j l) in
      (rw (g, and-false (not (smaller lt d keys x j))), O.asym x (get_or keys j d) g)

  module _ (sorted : NoneBelow (drops lt d keys) n) where
    rise : (i j : ℕ) → i ≤ j → j < n → lt (get_or keys j d) (get_or keys i d) ≡ false
    rise = rises lt O d keys n sorted

    -- ---- the nearest key

    pub nearest : (opt : FindOption) → place lt d opt keys n x < n → Nearest lt d opt keys n x (place lt d opt keys n x)
    nearest RoundUp h =
        let p = place lt d RoundUp keys n x in
        record {
          within = h;
          not_below = up_side h;
          nearest = λ j l e. rise p j (first_least (λ i. not (smaller lt d keys x i)) n j l (rw e)) l;
          lowest = λ j l e. ⊎_elim
              (λ (b : j < p). absurd (true_false _ (O.lt_le (get_or keys j d) x (get_or keys p d) (up-under j l b) (up_side h)) (equal-at (get_or keys p d) j e).0))
              (λ (b : p ≤ j). b)
              (below_or j p);
        }
    nearest RoundDown h =
        let p = place lt d RoundDown keys n x in
        record {
          within = h;
          not_above = down_side h;
          nearest = λ j l e. rise j p (final-most (λ i. not (greater lt d keys x i)) n j l (rw e)) h;
          highest = λ j l e. ⊎_elim
              (λ (b : p < j). absurd (true_false _ (O.le_lt (get_or keys p d) x (get_or keys j d) (down_side h) (down-over j l b)) (equal-at (get_or keys p d) j e).1))
              (λ (b : j ≤ p). b)
              (below_or p j);
        }

    -- and no other
    pub nearest_is : (opt : FindOption) (p : ℕ) → Nearest lt d opt keys n x p → place lt d opt keys n x ≡ p
    nearest_is RoundUp p N =
        let w : p ≤ n = omega (arith, N.within) in
        first_is (λ i. not (smaller lt d keys x i)) n p w
        (λ j l. rw (under j l))
        (λ l. rw N.not_below)
      where
        under : (j : ℕ) → j < p → smaller lt d keys x j ≡ true
        under j l = pick (smaller lt d keys x j) refl
          where
            pick : (b : Bool) → smaller lt d keys x j ≡ b → b ≡ true
            pick true e = refl
            pick false e =
                let k : j < n = omega (arith, N.within) in
                absurd (omega (arith, N.lowest j k (rw (N.nearest j k e, rise j p (omega arith) N.within))))
    nearest_is RoundDown p N =
        final_is (λ i. not (greater lt d keys x i)) n p N.within (rw N.not_above) (λ j a l. rw (over j a l))
      where
        over : (j : ℕ) → p < j → j < n → greater lt d keys x j ≡ true
        over j a l = pick (greater lt d keys x j) refl
          where
            pick : (b : Bool) → greater lt d keys x j ≡ b → b ≡ true
            pick true e = refl
            pick false e = absurd (omega (arith, N.highest j l (rw (N.nearest j l e, rise p j (omega arith) l))))

    -- ---- the rule in words

    -- before an equal key none is above x, and after it none is below
    before-equal : (i j : ℕ) → j ≤ i → i < n → greater lt d keys x i ≡ false → greater lt d keys x j ≡ false
    before-equal i j h l e = other _ (λ g. true_false _ (O.lt_le x (get_or keys j d) (get_or keys i d) g (rise j i h l)) e)

    after_equal : (i j : ℕ) → i ≤ j → j < n → smaller lt d keys x i ≡ false → smaller lt d keys x j ≡ false
    after_equal i j h l e = other _ (λ s. true_false _ (O.le_lt (get_or keys i d) (get_or keys j d) x (rise i j h l) s) e)

    pub in_words_lem : (opt : FindOption) → place lt d opt keys n x ≡ in_words lt d opt keys n x
    in_words_lem RoundUp = go (ltb (first (equal lt d keys x) n) n) refl
      where
        q : ℕ
        q = first (equal lt d keys x) n

        g : ℕ
        g = first (greater lt d keys x) n

        go : (b : Bool) → ltb q n ≡ b → place lt d RoundUp keys n x ≡ cond b q g
        go true e =
            let l = ltb-true q n e in
            let here = equal-at x q (first_holds (equal lt d keys x) n l) in
            first_is (λ i. not (smaller lt d keys x i)) n q (first-within (equal lt d keys x) n)
            (λ j h. rw (smaller-at j (first_under (equal lt d keys x) n j (omega arith) h) (before-equal q j (omega arith) l here.1)))
            (λ _. rw here.0)
        go false e =
            let none = first_out (equal lt d keys x) n (ltb-false q n e) in
            let w = first-within (greater lt d keys x) n in
            first_is (λ i. not (smaller lt d keys x i)) n g w
            (λ j h. let l : j < n = omega arith in rw (smaller-at j (none j l) (first_under (greater lt d keys x) n j l h)))
            (λ l. rw (O.asym x (get_or keys g d) (first_holds (greater lt d keys x) n l)))
    in_words_lem RoundDown = go (ltb (final (equal lt d keys x) n) n) refl
      where
        q : ℕ
        q = final (equal lt d keys x) n

        s : ℕ
        s = final (smaller lt d keys x) n

        go : (b : Bool) → ltb q n ≡ b → place lt d RoundDown keys n x ≡ cond b q s
        go true e =
            let l = ltb-true q n e in
            let here = equal-at x q (final_holds (equal lt d keys x) n l) in
            final_is (λ i. not (greater lt d keys x i)) n q l (rw here.1)
            (λ j a b. rw (greater-at j (final-over (equal lt d keys x) n j b a) (after_equal q j (omega arith) b here.0)))
        go false e =
            let none = final-out (equal lt d keys x) n (ltb-false q n e) in
            ⊎_elim
            (λ (l : s < n). final_is (λ i. not (greater lt d keys x i)) n s l
            (rw (O.asym (get_or keys s d) x (final_holds (smaller lt d keys x) n l)))
            (λ j a b. rw (greater-at j (none j b) (final-over (smaller lt d keys x) n j b a))))
            (λ (h : n ≤ s).
            let out = final-out (smaller lt d keys x) n h in
            rw (final-none (smaller lt d keys x) n out)
            (final-none (λ i. not (greater lt d keys x i)) n (λ j l. rw (greater-at j (none j l) (out j l)))))
            (below_or s n)
