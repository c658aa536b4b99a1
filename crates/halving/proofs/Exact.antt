-- Which recorded pairs are kept, by their places alone.
use mathlib.Core.Path.{◌≡◌, sym, ap, ◌∙◌}
use mathlib.Core.Logic.{⊎_elim}
use mathlib.Core.List.{List, [], ◌∷◌, ◌++◌}
use Prim.Native.Nat.{ℕ, suc, ◌+◌, ◌-◌, ◌*◌, ◌/◌, ◌^◌, ◌≤◌, ◌<◌}
use native.Mathlib.Nat.{one-le-pow, two-pow-succ, mul-add, add-mul, one-mul, mul-le-mul_right, le-div_iff_mul-le, lt-div-mul-add, div-mul-le_self, sub_self, pow-le-pow_right}
use native.Mathlib.Omega.{arith}
use lib.ListN.{length, length-append}
use Rattle.order.proofs.Bools.{below_or}
use Rattle.tracker.specs.declared.TrackedSeq.{TrackedSeq}
use Rattle.keeping.specs.Keep.{evens}
use Rattle.keeping.proofs.Thinned.{length-evens}
use Rattle.halving.proofs.Level.{level, level_mono, level_count, level_from, level_upto, level_least}

module _ (half : ℕ) (some : 0 < half) where
  -- the place of kept pair i, with which there were l halvings of k
  abbrev pub slot : ℕ → ℕ → ℕ → ℕ
  slot k l i = l * half + i * 2 ^ (k - l)

  -- where the last of them came with it
  last_slot : (k i : ℕ) → slot k k i ≡ k * half + i
  last_slot k i = rw (sub_self k) (omega arith)

  -- one halving more
  next_slot : (k l i : ℕ) → l ≤ k → slot (k + 1) l i ≡ slot k l (i + i)
  next_slot k l i h =
      let p = 2 ^ (k - l) in
      let e : k + 1 - l ≡ suc (k - l) = omega arith in
      rw e (omega (arith, ap (λ (n : ℕ). i * n) (two-pow-succ (k - l)) ∙ mul-add i p p, add-mul i i p))

  pub record Exact (k : ℕ) (rec kept : List TrackedSeq) (at : ℕ → ℕ) : Type 0 where
    pub there : (i : ℕ) → i < length kept → at i ≡ slot k (level half some (at i + 1)) i
    pub all : (i x : ℕ) → x < length rec → x ≡ slot k (level half some (x + 1)) i → (i < length kept) × (at i ≡ x)

  pub exact_same : (k : ℕ) (rec kept : List TrackedSeq) (at at' : ℕ → ℕ) → ((i : ℕ) → at' i ≡ at i) → Exact k rec kept at → Exact k rec kept at'
  exact_same k rec kept at at' same E = record { there = λ i h. rw (same i) (E.there i h); all = λ i x h e. let f = E.all i x h e in (f.0, same i ∙ f.1) }

  -- all are kept
  pub exact-all : (l : List TrackedSeq) → length l ≤ half + half → Exact 0 l l (λ i. i)
  exact-all l few = record {
    there = λ i h. rw (ground (i + 1) (omega arith)) (omega arith);
    all = λ i x h e. let f : x ≡ slot 0 0 i = e ∙ ap (λ (m : ℕ). slot 0 m i) (ground (x + 1) (omega arith)) in (omega arith, omega arith);
  }
    where
      ground : (x : ℕ) → x ≤ half + half → level half some x ≡ 0
      ground x h = level_count half some x x 0 (omega arith) h (λ b. absurd (omega arith))

  module _ (k : ℕ) (rec kept : List TrackedSeq) (at : ℕ → ℕ) (E : Exact k rec kept at) (counted : length rec ≡ length kept + k * half)
      (r : TrackedSeq) (to : ℕ → ℕ) (old : (i : ℕ) → i < length kept → to i ≡ at i) (new : to (length kept) ≡ length rec) where
    long : (l : List TrackedSeq) → length (l ++ (r ∷ [])) ≡ length l + 1
    long l = length-append l (r ∷ [])

    -- one more is recorded and kept
    pub exact_more : level half some (length rec + 1) ≡ k → Exact k (rec ++ (r ∷ [])) (kept ++ (r ∷ [])) to
    exact_more top = record {
      there = λ i h.
          ⊎_elim (λ (l : i < length kept). rw (old i l) (E.there i l))
          (λ (l : length kept ≤ i). let e : i ≡ length kept = omega (arith, long kept) in rw (e, new, top, last_slot k (length kept)) (omega arith))
          (below_or i (length kept));
      all = λ i x h e.
          ⊎_elim (λ (l : x < length rec). let f = E.all i x l e in (omega (arith, f.0, long kept), old i f.0 ∙ f.1))
          (λ (l : length rec ≤ x).
          let s : x ≡ length rec = omega (arith, long rec) in
          let f : length rec ≡ k * half + i = sym s ∙ e ∙ ap (λ (m : ℕ). slot k (level half some (m + 1)) i) s ∙ ap (λ (m : ℕ). slot k m i) top ∙ last_slot k i in
          let is : i ≡ length kept = omega arith in
          (omega (arith, long kept), ap to is ∙ new ∙ sym s))
          (below_or x (length rec));
    }

    -- and every second one is dropped
    module _ (within : (i : ℕ) → i < length kept → at i < length rec) (full : length kept ≡ half + half) (low : level half some (length rec) ≡ k) (top : level half some (length rec + 1) ≡ k + 1) where
      less : length (evens (kept ++ (r ∷ []))) ≡ half + 1
      less = length-evens (kept ++ (r ∷ [])) ∙ omega (arith, long kept)

      below : (x : ℕ) → x < length rec → level half some (x + 1) ≤ k
      below x h = omega (arith, low, level_mono half some (x + 1) (length rec) (omega arith))

      -- the newest is kept pair `half`
      newest_slot : slot (k + 1) (k + 1) half ≡ length rec
      newest_slot = last_slot (k + 1) half ∙ omega (arith, add-mul k 1 half, one-mul half)

      pub exact-halved : Exact (k + 1) (rec ++ (r ∷ [])) (evens (kept ++ (r ∷ []))) (λ i. to (i + i))
      exact-halved = record {
        there = λ i h.
            ⊎_elim
            (λ (l : i < half).
            let b : i + i < length kept = omega arith in
            let o = old (i + i) b in
            rw o (E.there (i + i) b ∙ sym (next_slot k (level half some (at (i + i) + 1)) i (below (at (i + i)) (within (i + i) b)))))
            (λ (l : half ≤ i).
            let e : i ≡ half = omega (arith, less) in
            let is : i + i ≡ length kept = omega arith in
            let n : to (i + i) ≡ length rec = ap to is ∙ new in
            n ∙ sym (ap (λ (m : ℕ). slot (k + 1) (level half some (m + 1)) i) n ∙ ap (λ (m : ℕ). slot (k + 1) m i) top ∙ ap (slot (k + 1) (k + 1)) e ∙ newest_slot))
            (below_or i half);
        all = λ i x h e.
            ⊎_elim
            (λ (l : x < length rec).
            let f = E.all (i + i) x l (e ∙ next_slot k (level half some (x + 1)) i (below x l)) in
            (omega (arith, f.0, less), old (i + i) f.0 ∙ f.1))
            (λ (l : length rec ≤ x).
            let s : x ≡ length rec = omega (arith, long rec) in
            let f : length rec ≡ (k + 1) * half + i = sym s ∙ e ∙ ap (λ (m : ℕ). slot (k + 1) (level half some (m + 1)) i) s ∙ ap (λ (m : ℕ). slot (k + 1) m i) top ∙ last_slot (k + 1) i in
            let is : i + i ≡ length kept = omega (arith, add-mul k 1 half, one-mul half) in
            (omega (arith, less), ap to is ∙ new ∙ sym s))
            (below_or x (length rec));
      }

  -- ---- how far back it reaches

  -- a kept pair but the first has fewer than j halvings after it, where the capacity is at most 2^j, and with those lies fewer than j halves of the capacity back
  pub exact-reaches : (k : ℕ) (rec kept : List TrackedSeq) (at : ℕ → ℕ) → Exact k rec kept at → length rec ≤ half + half + k * half → level half some (length rec) ≡ k
      → (i j : ℕ) → 0 < i → i < length kept → at i < length rec → half + half ≤ 2 ^ j → length rec - 1 - at i < j * half
  exact-reaches k rec kept at E most top i j h b inside wide =
      let x = at i in
      let l = level half some (x + 1) in
      let m = k - l in
      let p = 2 ^ m in
      let there = E.there i b in
      let one : 1 * p ≤ i * p = mul-le-mul_right p h in
      let upto = level_upto half some x in
      let low : l ≤ k = omega (arith, top, level_mono half some (x + 1) (length rec) (omega arith)) in
      let split : k * half ≡ m * half + l * half = ap (λ (n : ℕ). n * half) (sum low) ∙ add-mul m l half in
      ⊎_elim
      (λ (less : m < j).
      ⊎_elim
      (λ (few : m + 1 < j).
      let all : (m + 2) * half ≤ j * half = mul-le-mul_right half (omega arith) in
      omega (arith, there, one, one-mul p, most, split, all, add-mul m 2 half, one-le-pow m 2 (omega arith)))
      (λ (last : j ≤ m + 1).
      let e : j ≡ suc m = omega arith in
      let double : 2 ^ j ≡ p + p = ap (λ (n : ℕ). 2 ^ n) e ∙ two-pow-succ m in
      let all : (m + 1) * half ≤ j * half = mul-le-mul_right half (omega arith) in
      omega (arith, there, one, one-mul p, most, split, all, double, add-mul m 1 half, one-mul half))
      (below_or (m + 1) j))
      (λ (more : j ≤ m). absurd (omega (arith, there, one, one-mul p, upto, wide, pow-le-pow_right {n = 2} (omega arith) more)))
      (below_or m j)
    where
      sum : {l : ℕ} → l ≤ k → k ≡ k - l + l
      sum h = omega arith

  -- ---- rounding down

  -- where 2^(the halvings since y was recorded) divides half the capacity, one fewer than so many before y is kept
  module _ (k : ℕ) (rec kept : List TrackedSeq) (at : ℕ → ℕ) (E : Exact k rec kept at) (y : ℕ) (inside : y < length rec) (q : ℕ) (divides : half ≡ q * 2 ^ (k - level half some (y + 1))) where
    abbrev l : ℕ
    l = level half some (y + 1)

    abbrev size : ℕ
    size = 2 ^ (k - l)

    abbrev i : ℕ
    i = (y - l * half) / size

    abbrev z : ℕ
    z = l * half + i * size

    least : 0 < size
    least = one-le-pow (k - l) 2 (omega arith)

    reach : l * half ≤ y
    reach = ⊎_elim (λ (h : 0 < l). omega (arith, level_from half some y h)) (λ (h : l ≤ 0). omega (arith, mul-le-mul_right half h)) (below_or 0 l)

    same : level half some (z + 1) ≡ l
    same =
        let down = level_mono half some (z + 1) (y + 1) (omega (arith, div-mul-le_self (y - l * half) size, reach)) in
        ⊎_elim
        (λ (h : 0 < l).
        let far = level_from half some y h in
        let many = (le-div_iff_mul-le {k = size} {x = q} {y = y - l * half} least).1 (omega (arith, divides)) in
        omega (arith, down, level_least half some z l h (omega (arith, divides, mul-le-mul_right size many))))
        (λ (h : l ≤ 0). omega (arith, down))
        (below_or 0 l)

    pub kept-below : (m : ℕ) × (m < length kept) × (at m ≤ y) × (y < at m + size)
    kept-below =
        let low = div-mul-le_self (y - l * half) size in
        let high = lt-div-mul-add {a = y - l * half} {b = size} least in
        let f = E.all i z (omega (arith, low, reach)) (sym (ap (λ (m : ℕ). slot k m i) same)) in
        (i, f.0, omega (arith, f.1, low, reach), omega (arith, f.1, high, reach))
