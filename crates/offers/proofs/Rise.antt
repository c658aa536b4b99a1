-- What is kept of elements that do not drop, and one more that is not below the last, does not drop; whatever the elements are.
use mathlib.Core.Path.{◌≡◌, ◌∙◌}
use mathlib.Core.Logic.{⊎_elim}
use mathlib.Core.Bool.{Bool, false}
use mathlib.Core.List.{List}
use Prim.Native.Nat.{ℕ, ◌+◌, ◌-◌, ◌≤◌, ◌<◌}
use native.Mathlib.Nat.{eq-or-lt_of_le}
use native.Mathlib.Omega.{arith}
use borrow.Author.Tests.{le-ltb, lt-ltb}
use lib.ListN.{length, get_or, drop, length-append, length-drop, get_or-append}
use Rattle.told.specs.Over.{over}
use Rattle.order.specs.Order.{drops}
use Rattle.order.proofs.Bools.{below_or}
use Rattle.order.proofs.Order.{Order, rises, itself}
use Rattle.keeping.specs.Keep.{evens, appended, thinned}
use Rattle.keeping.specs.Inner.{count_with}
use Rattle.keeping.proofs.Thinned.{get_d_evens, length-evens, appended-length, appended_old, appended-new, thinned_not, thinned-evens}

-- the array keeps its length
pub over-length : {A : Type 0} (l xs : List A) → length l ≤ length xs → length (over l xs) ≡ length xs
over-length l xs h = length-append l (drop (length l) xs) ∙ omega (arith, length-drop (length l) xs)

module _ {A : Type 0} (d : A) where
  -- the first m places of ys hold places of g below n, in order
  pub record Selected (g ys : List A) (n m : ℕ) : Type 0 where
    pub from : ℕ → ℕ
    pub order : (i j : ℕ) → i ≤ j → from i ≤ from j
    pub within : (k : ℕ) → k < m → from k < n
    pub at : (k : ℕ) → k < m → get_or ys k d ≡ get_or g (from k) d

  pub selected : (n : ℕ) (xs : List A) (x : A) (cap : ℕ) → n ≤ length xs → Selected (appended n xs x) (over (thinned cap (appended n xs x)) xs) (n + 1) (count_with cap n)
  selected n xs x cap fit =
      let g = appended n xs x in
      ⊎_elim
      (λ (h : n < cap).
      rw (thinned_not n xs x fit cap h, lt-ltb n cap h) (record {
        from = λ k. k;
        order = λ i j p. p;
        within = λ k p. p;
        at = λ k p. get_or-append g (drop (length g) xs) d k (omega (arith, appended-length n xs x fit));
      }))
      (λ (h : cap ≤ n).
      rw (thinned-evens n xs x fit cap h, le-ltb n cap h) (record {
        from = λ k. k + k;
        order = λ i j p. omega arith;
        within = λ k p. omega arith;
        at = λ k p. get_or-append (evens g) (drop (length (evens g)) xs) d k (omega (arith, appended-length n xs x fit, length-evens g)) ∙ get_d_evens d g k;
      }))
      (below_or n cap)

module _ {K : Type 0} (lt : K → K → Bool) (O : Order lt) (d : K) (n : ℕ) (xs : List K) (x : K) (cap : ℕ) (fit : n ≤ length xs)
    (sorted : (j : ℕ) → j < n → drops lt d xs j ≡ false)
    (last : 0 < n → lt x (get_or xs (n - 1) d) ≡ false) where
  appended_sorted : (j : ℕ) → j < n + 1 → drops lt d (appended n xs x) j ≡ false
  appended_sorted j h =
      let q : j ≤ n = omega arith in
      ⊎_elim
      (λ (e : j ≡ n).
      rw (e, appended-new n xs x fit d)
      (⊎_elim (λ (z : n < 1). let y : n - 1 ≡ n = omega arith in rw (y, appended-new n xs x fit d) (itself lt O x))
      (λ (p : 1 ≤ n). rw (appended_old n xs x fit d (n - 1) (omega arith)) (last p))
      (below_or n 1)))
      (λ (l : j < n). rw (appended_old n xs x fit d j l, appended_old n xs x fit d (j - 1) (omega arith)) (sorted j l))
      (eq-or-lt_of_le q)

  climb : (i j : ℕ) → i ≤ j → j < n + 1 → lt (get_or (appended n xs x) j d) (get_or (appended n xs x) i d) ≡ false
  climb i j h l = rises lt O d (appended n xs x) (n + 1) appended_sorted i j h l

  -- what is kept does not drop
  pub kept_sorted : (j : ℕ) → j < count_with cap n → drops lt d (over (thinned cap (appended n xs x)) xs) j ≡ false
  kept_sorted j h =
      let s = selected d n xs x cap fit in
      rw (s.at j h, s.at (j - 1) (omega arith)) (climb (s.from (j - 1)) (s.from j) (s.order (j - 1) j (omega arith)) (s.within j h))

  -- and the new one is not below any of it
  pub kept-below : (j : ℕ) → j < count_with cap n → lt x (get_or (over (thinned cap (appended n xs x)) xs) j d) ≡ false
  kept-below j h =
      let s = selected d n xs x cap fit in
      rw (s.at j h) (rw (appended-new n xs x fit d) at (climb (s.from j) n (omega (arith, s.within j h)) (omega arith)))
