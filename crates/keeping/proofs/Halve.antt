-- Thinning an array in place to its even positions, whatever its elements are; d stands past a list's end.
use mathlib.Core.Path.{◌≡◌, refl, sym, ◌∙◌, ap, subst}
use mathlib.Core.Logic.{⊎_elim}
use mathlib.Core.List.{List, [], ◌∷◌, append_assoc}
use Prim.Native.Nat.{ℕ, suc, ◌+◌, ◌-◌, ◌*◌, ◌/◌, ◌≤◌, ◌<◌}
use native.Mathlib.Nat.{eq-or-lt_of_le}
use native.Mathlib.Omega.{arith}
use lib.ListN.{length, get_or, take, drop, set, length-set, length-append, length-drop, get_or-append}
use lib.Seq.{ext_get_or, get_or-set_same, get_or-set_other, get_or-drop, get_or-append-add, set_split}
use Rattle.told.specs.Over.{over}
use Rattle.order.proofs.Bools.{below_or}
use Rattle.keeping.specs.Keep.{evens, appended, thinned}
use Rattle.keeping.proofs.Thinned.{get_d_evens, length-evens, appended-length, appended_old, appended-new, thinned_not, thinned-evens}

module _ {A : Type 0} (d : A) where
  -- in l the first j positions hold what stood at the even positions of xs, and the others what stood there
  pub record Halving (xs l : List A) (j : ℕ) : Type 0 where
    pub same : length l ≡ length xs
    pub done : (k : ℕ) → k < j → get_or l k d ≡ get_or xs (k + k) d
    pub rest : (k : ℕ) → j ≤ k → get_or l k d ≡ get_or xs k d

  pub halving_start : (xs : List A) → Halving xs xs 0
  halving_start xs = record { same = refl; done = λ k h. absurd (omega arith); rest = λ k h. refl }

  pub halving_more : (xs l : List A) (j : ℕ) → j < length l → Halving xs l j → Halving xs (set l j (get_or l (2 * j) d)) (j + 1)
  halving_more xs l j h H = record {
    same = length-set l j (get_or l (2 * j) d) ∙ H.same;
    done = λ k p.
        let q : k ≤ j = omega arith in
        ⊎_elim
        (λ (e : k ≡ j). rw e (get_or-set_same l j (get_or l (2 * j) d) d h ∙ H.rest (2 * j) (omega arith) ∙ ap (λ (m : ℕ). get_or xs m d) (omega arith)))
        (λ (b : k < j). get_or-set_other l j k (get_or l (2 * j) d) d (λ (e : k ≡ j). omega arith) ∙ H.done k b)
        (eq-or-lt_of_le q);
    rest = λ k p. get_or-set_other l j k (get_or l (2 * j) d) d (λ (e : k ≡ j). omega arith) ∙ H.rest k (omega arith);
  }

  module _ (xs f : List A) (n : ℕ) (x : A) (fit : n ≤ length xs) (some : 0 < length xs) (long : length f ≡ length xs)
      (front : (k : ℕ) → k + k < n → get_or f k d ≡ get_or xs (k + k) d)
      (new : (k : ℕ) → k + k ≡ n → get_or f k d ≡ x)
      (back : (k : ℕ) → n < k + k → get_or f k d ≡ get_or xs k d) where
    halves : List A
    halves = evens (appended n xs x)

    halves-length : length halves ≡ (n + 1 + 1) / 2
    unfolding halves
    halves-length = length-evens (appended n xs x) ∙ ap (λ (m : ℕ). (m + 1) / 2) (appended-length n xs x fit)

    past : (i : ℕ) → get_or (over halves xs) (length halves + i) d ≡ get_or xs (length halves + i) d
    past i = get_or-append-add halves (drop (length halves) xs) i d ∙ get_or-drop (length halves) xs i d

    within : (k : ℕ) → k < length halves → get_or (over halves xs) k d ≡ get_or (appended n xs x) (k + k) d
    unfolding halves
    within k h = get_or-append halves (drop (length halves) xs) d k h ∙ get_d_evens d (appended n xs x) k

    each : (k : ℕ) → get_or f k d ≡ get_or (over halves xs) k d
    each k =
        ⊎_elim
        (λ (h : k < length halves).
        let q : k + k ≤ n = omega (arith, halves-length) in
        ⊎_elim (λ (e : k + k ≡ n). new k e ∙ sym (within k h ∙ ap (λ (m : ℕ). get_or (appended n xs x) m d) e ∙ appended-new n xs x fit d))
        (λ (b : k + k < n). front k b ∙ sym (within k h ∙ appended_old n xs x fit d (k + k) b))
        (eq-or-lt_of_le q))
        (λ (h : length halves ≤ k).
        let e : length halves + (k - length halves) ≡ k = omega arith in
        back k (omega (arith, halves-length)) ∙ sym (subst (λ (m : ℕ). get_or (over halves xs) m d ≡ get_or xs m d) e (past (k - length halves))))
        (below_or k (length halves))

    halved : (cap : ℕ) → cap ≤ n → f ≡ over (thinned cap (appended n xs x)) xs
    unfolding halves
    halved cap full =
        rw (thinned-evens n xs x fit cap full)
        (ext_get_or d f (over halves xs) (long ∙ sym (length-append halves (drop (length halves) xs) ∙ rw (length-drop (length halves) xs) (omega (arith, halves-length)))) (λ i h. each i))

  module _ (xs l : List A) (n j cap : ℕ) (x : A) (fit : n ≤ length xs) (some : 0 < length xs) (full : cap ≤ n) (H : Halving xs l j) where
    -- the new element has an even position
    pub ended_even : j + j ≡ n → set l j x ≡ over (thinned cap (appended n xs x)) xs
    ended_even e =
        halved xs (set l j x) n x fit some (length-set l j x ∙ H.same)
        (λ k h. get_or-set_other l j k x d (λ (q : k ≡ j). omega arith) ∙ H.done k (omega arith))
        (λ k h. let q : k ≡ j = omega arith in rw q (get_or-set_same l j x d (omega (arith, H.same))))
        (λ k h. get_or-set_other l j k x d (λ (q : k ≡ j). omega arith) ∙ H.rest k (omega arith))
        cap full

    -- an odd one: it does not stay
    pub ended-odd : j + j ≡ n + 1 → l ≡ over (thinned cap (appended n xs x)) xs
    ended-odd e = halved xs l n x fit some H.same (λ k p. H.done k (omega arith)) (λ k p. absurd (omega arith)) (λ k p. H.rest k (omega arith)) cap full

-- room for one more
pub added : {A : Type 0} (xs : List A) (n cap : ℕ) (x : A) → n < cap → n < length xs → set xs n x ≡ over (thinned cap (appended n xs x)) xs
added xs n cap x h fit =
    let some : n ≤ length xs = omega arith in
    let e : length (appended n xs x) ≡ suc n = appended-length n xs x some ∙ omega arith in
    rw (thinned_not n xs x some cap h, e) (set_split xs n x fit ∙ sym (append_assoc (take n xs) (x ∷ []) (drop (suc n) xs)))
