-- What is asked of the kept pairs, beside the same asked of all recorded ones.
use mathlib.Core.Path.{◌≡◌, sym, ap, ◌∙◌}
use mathlib.Core.Logic.{◌↔◌, ◌⊎◌, inl, inr, ⊎_elim}
use mathlib.Core.Bool.{Bool, true, false, not}
use mathlib.Core.List.{List, map}
use Prim.Native.Nat.{ℕ, ◌+◌, ◌-◌, ◌*◌, ◌/◌, ◌^◌, ◌≤◌, ◌<◌}
use native.Mathlib.Nat.{one-le-pow, mul_assoc}
use native.Mathlib.Omega.{arith}
use borrow.Author.Tests.{not-true}
use lib.ListN.{length, get_or, get_or-map}
use lib.Pow.{pow-add}
use Rattle.order.specs.First.{first, final}
use Rattle.order.proofs.Bools.{other, true_false, below_or}
use Rattle.order.proofs.First.{first-none, first-within, first_holds, first_least, first_out, first-same}
use Rattle.order.proofs.Last.{final-none, final_holds, final-most, final-over, final-out, final-same}
use Rattle.order.proofs.Order.{Order, itself}
use Rattle.tracker.specs.declared.TrackedSeq.{TrackedSeq}
use Rattle.lookup.specs.declared.FindOption.{FindOption}
use Rattle.lookup.specs.declared.FindOption.TheVariants.{RoundUp, RoundDown}
use Rattle.offer_log.proofs.Run.{no_record}
use Rattle.halving.specs.Coarse.{pair_at, Places, InOrder}
use Rattle.halving.specs.Asked.{Close, named}
use Rattle.halving.proofs.Level.{level, level_step, bound, bound_falls, bound_most}
use Rattle.halving.proofs.Exact.{Exact, kept-below}
use Rattle.halving.proofs.Spread.{Spread, rises, last_is, near}

-- ---- a test of places, asked of all recorded pairs and of the kept ones

module _ {rec kept : List TrackedSeq} (P : Places rec kept) (T : ℕ → Bool) where
  -- it holds up to a place, and no further
  module _ (falls : (x y : ℕ) → x ≤ y → y < length rec → T y ≡ true → T x ≡ true) where
    abbrev y : ℕ
    y = final T (length rec)

    abbrev i : ℕ
    i = final (λ j. T (P.at j)) (length kept)

    final_among : y < length rec → (i < length kept) × (P.at i ≤ y) × (i + 1 < length kept → y < P.at (i + 1))
    final_among h =
        let l = within (below_or i (length kept)) in
        (l, final-most T (length rec) (P.at i) (P.each i l).0 (final_holds (λ j. T (P.at j)) (length kept) l), λ b. next b (below_or y (P.at (i + 1))))
      where
        within : (i < length kept) ⊎ (length kept ≤ i) → i < length kept
        within (inl l) = l
        within (inr l) =
            let s = P.first (omega arith) in
            absurd (true_false (T (P.at 0)) (falls (P.at 0) y (omega (arith, s.1)) h (final_holds T (length rec) h)) (final-out (λ j. T (P.at j)) (length kept) l 0 s.0))

        next : i + 1 < length kept → (y < P.at (i + 1)) ⊎ (P.at (i + 1) ≤ y) → y < P.at (i + 1)
        next b (inl l) = l
        next b (inr l) = absurd (true_false (T (P.at (i + 1))) (falls (P.at (i + 1)) y l h (final_holds T (length rec) h)) (final-over (λ j. T (P.at j)) (length kept) (i + 1) b (omega arith)))

    final-alike : (i ≡ length kept) ↔ (y ≡ length rec)
    final-alike = (
      λ e. ⊎_elim (λ (l : y < length rec). absurd (omega (arith, (final_among l).0))) (λ (l : length rec ≤ y). final-none T (length rec) (final-out T (length rec) l)) (below_or y (length rec)),
      λ e. final-none (λ j. T (P.at j)) (length kept) (λ j l. final-out T (length rec) (omega arith) (P.at j) (P.each j l).0),
    )

  -- it holds from a place on
  module _ (climbs : (x y : ℕ) → x ≤ y → y < length rec → T x ≡ true → T y ≡ true) where
    abbrev y' : ℕ
    y' = first T (length rec)

    abbrev i' : ℕ
    i' = first (λ j. T (P.at j)) (length kept)

    first_among : y' < length rec → (i' < length kept) × (y' ≤ P.at i') × ((j : ℕ) → j < length kept → y' ≤ P.at j → i' ≤ j)
    first_among h =
        let s = (P.first (omega arith)).0 in
        let e = P.newest (omega arith) in
        let m = length kept - 1 in
        let l : i' ≤ m = from m (omega arith) (omega arith) in
        let b : i' < length kept = omega arith in
        (b, first_least T (length rec) (P.at i') (P.each i' b).0 (first_holds (λ j. T (P.at j)) (length kept) b), from)
      where
        from : (j : ℕ) → j < length kept → y' ≤ P.at j → i' ≤ j
        from j l b = first_least (λ j. T (P.at j)) (length kept) j l (climbs y' (P.at j) b (P.each j l).0 (first_holds T (length rec) h))

    first_alike : (i' ≡ length kept) ↔ (y' ≡ length rec)
    first_alike = (
      λ e. ⊎_elim (λ (l : y' < length rec). absurd (omega (arith, (first_among l).0))) (λ (l : length rec ≤ y'). omega (arith, first-within T (length rec))) (below_or y' (length rec)),
      λ e. first-none (λ j. T (P.at j)) (length kept) (length kept) (omega arith) (λ j l. first_out T (length rec) (omega arith) (P.at j) (P.each j l).0),
    )

-- ---- what lies so far back

-- the recorded pairs and the kept ones of a table that was halved k times
module _ (half : ℕ) (some : 0 < half) (k : ℕ) {rec kept : List TrackedSeq} (S : Spread (bound half some k) rec kept) (levelled : level half some (length rec) ≡ k) where
  abbrev at : ℕ → ℕ
  at = S.places.at

  -- how far back a pair lies
  abbrev aback : ℕ → ℕ
  aback x = length rec - 1 - x

  -- at most j halvings came after a pair that lies at most j halves of the capacity back
  aged : (x j : ℕ) → aback x ≤ j * half → bound half some k x ≤ 2 ^ j
  aged x j h = bound_most half some k x j (omega (arith, levelled, level_step half some (x + 1) (length rec) j (omega arith)))

  -- a bound of two neighbours, by what it is for the older
  pub near-most : (i : ℕ) → i + 1 < length kept → at (i + 1) ≤ at i + bound half some k (at i)
  near-most i h = omega (arith, near (bound half some k) rec kept S i h, bound_falls half some k (at i) (at i + 1) (omega arith))

  pub near-all : (i : ℕ) → i + 1 < length kept → at (i + 1) ≤ at i + 2 ^ k
  near-all i h = omega (arith, near-most i h, bound_most half some k (at i) k (omega arith))

  pub near_aged : (i j : ℕ) → i + 1 < length kept → aback (at i) ≤ j * half → at (i + 1) ≤ at i + 2 ^ j
  near_aged i j h b = omega (arith, near-most i h, aged (at i) j b)

  -- the last kept pair not after y, and y
  module _ (i y : ℕ) (l : i < length kept) (inside : y < length rec) (from : at i ≤ y) (next : i + 1 < length kept → y < at (i + 1)) where
    -- y stands before the next kept one, or is the newest
    before-next : (b : ℕ) → (i + 1 < length kept → at (i + 1) ≤ at i + 2 ^ b) → y < at i + 2 ^ b
    before-next b wide =
        ⊎_elim (λ (h : i + 1 < length kept). omega (arith, next h, wide h))
        (λ (h : length kept ≤ i + 1). omega (arith, last_is S.places i l h, one-le-pow b 2 (omega arith)))
        (below_or (i + 1) (length kept))

    pub down-close : (capacity : ℕ) → capacity / 2 ≡ half → Close (record { capacity = capacity; halvings = k; recorded = rec; kept = kept }) (at i) y
    down-close capacity two = (from, before-next k (near-all i), λ j b. before-next j (λ h. near_aged i j h (rw two at b)))

    -- it is the last
    reached : (m : ℕ) → m < length kept → at m ≤ y → at m ≤ at i
    reached m lm high =
        ⊎_elim (λ (b : i < m). absurd (omega (arith, next (omega arith), rises S.places (i + 1) m (omega arith) lm))) (λ (b : m ≤ i). rises S.places m i b l) (below_or i m)

    -- where y, and the 2^j - 1 recorded before it, lie at most j halves of the capacity back
    pub down_aged : (j : ℕ) → aback y + 2 ^ j ≤ j * half + 1 → y < at i + 2 ^ j
    down_aged j b =
        let one = one-le-pow j 2 (omega arith) in
        ⊎_elim (λ (h : y < 2 ^ j). omega arith)
        (λ (h : 2 ^ j ≤ y). let (m, lm, low, high) = S.up (y + 1 - 2 ^ j) (omega arith) in omega (arith, low, reached m lm (omega (arith, high, aged (y + 1 - 2 ^ j) j (omega arith)))))
        (below_or y (2 ^ j))

    -- where 2^j divides half the capacity, and y lies at most j halves of it back
    pub down_dividing : Exact half some k rec kept at → (j q : ℕ) → half ≡ q * 2 ^ j → aback y ≤ j * half → y < at i + 2 ^ j
    down_dividing E j q divides b =
        let h = k - level half some (y + 1) in
        let few : h ≤ j = omega (arith, levelled, level_step half some (y + 1) (length rec) j (omega arith)) in
        let e : j ≡ j - h + h = omega arith in
        let part : half ≡ q * 2 ^ (j - h) * 2 ^ h = divides ∙ ap (λ (n : ℕ). q * n) (ap (λ (n : ℕ). 2 ^ n) e ∙ pow-add 2 (j - h) h) ∙ sym (mul_assoc q (2 ^ (j - h)) (2 ^ h)) in
        let (m, lm, low, high) = kept-below half some k rec kept at E y inside (q * 2 ^ (j - h)) part in
        omega (arith, reached m lm low, high, aged y j b)

  -- the first kept pair not before y
  pub up-close : (i y : ℕ) → y < length rec → i < length kept → y ≤ at i → ((j : ℕ) → j < length kept → y ≤ at j → i ≤ j) → (capacity : ℕ) → capacity / 2 ≡ half
      → Close (record { capacity = capacity; halvings = k; recorded = rec; kept = kept }) y (at i)
  up-close i y inside l from least capacity two = (from, omega (arith, short, bound_most half some k y k (omega arith)), λ j b. omega (arith, short, aged y j (rw two at b)))
    where
      short : at i < y + bound half some k y
      short =
          let (m, lm, low, high) = S.up y inside in
          omega (arith, rises S.places i m (least m lm low) lm)

-- ---- by keys

module _ {K : Type 0} (lt : K → K → Bool) (O : Order lt) (key : TrackedSeq → K) where
  -- the tests of both roundings, by places
  abbrev reaches : FindOption → List TrackedSeq → K → ℕ → Bool
  reaches RoundUp pairs x i = not (lt (key (pair_at pairs i)) x)
  reaches RoundDown pairs x i = not (lt x (key (pair_at pairs i)))

  named-up : (pairs : List TrackedSeq) (x : K) → named lt (key no_record) key RoundUp pairs x ≡ first (reaches RoundUp pairs x) (length pairs)
  named-up pairs x = first-same (λ i. not (lt (get_or (map key pairs) i (key no_record)) x)) (reaches RoundUp pairs x) (length pairs) (λ j l. ap (λ y. not (lt y x)) (get_or-map key pairs j no_record))

  named-down : (pairs : List TrackedSeq) (x : K) → named lt (key no_record) key RoundDown pairs x ≡ final (reaches RoundDown pairs x) (length pairs)
  named-down pairs x = final-same (λ i. not (lt x (get_or (map key pairs) i (key no_record)))) (length pairs) (reaches RoundDown pairs x) (λ j l. ap (λ y. not (lt x y)) (get_or-map key pairs j no_record))

  module _ {rec kept : List TrackedSeq} (P : Places rec kept) (x : K) where
    -- of the kept pairs the test is that of the recorded ones, at their places
    kept-up : named lt (key no_record) key RoundUp kept x ≡ first (λ j. reaches RoundUp rec x (P.at j)) (length kept)
    kept-up = named-up kept x ∙ first-same (reaches RoundUp kept x) (λ j. reaches RoundUp rec x (P.at j)) (length kept) (λ j l. ap (λ r. not (lt (key r) x)) (P.each j l).1)

    kept-down : named lt (key no_record) key RoundDown kept x ≡ final (λ j. reaches RoundDown rec x (P.at j)) (length kept)
    kept-down = named-down kept x ∙ final-same (reaches RoundDown kept x) (length kept) (λ j. reaches RoundDown rec x (P.at j)) (λ j l. ap (λ r. not (lt x (key r))) (P.each j l).1)

    module _ (sorted : InOrder lt key rec) where
      climbs : (a b : ℕ) → a ≤ b → b < length rec → reaches RoundUp rec x a ≡ true → reaches RoundUp rec x b ≡ true
      climbs a b h l t = rw (other (lt (key (pair_at rec b)) x) (λ s. true_false (lt (key (pair_at rec a)) x) (O.le_lt (key (pair_at rec a)) (key (pair_at rec b)) x (sorted a b h l) s) (not-true (lt (key (pair_at rec a)) x) t)))

      falls : (a b : ℕ) → a ≤ b → b < length rec → reaches RoundDown rec x b ≡ true → reaches RoundDown rec x a ≡ true
      falls a b h l t = rw (other (lt x (key (pair_at rec a))) (λ s. true_false (lt x (key (pair_at rec b))) (O.lt_le x (key (pair_at rec a)) (key (pair_at rec b)) s (sorted a b h l)) (not-true (lt x (key (pair_at rec b))) t)))

      pub alike : (opt : FindOption) → (named lt (key no_record) key opt kept x ≡ length kept) ↔ (named lt (key no_record) key opt rec x ≡ length rec)
      alike RoundUp = rw (kept-up, named-up rec x) (first_alike P (reaches RoundUp rec x) climbs)
      alike RoundDown = rw (kept-down, named-down rec x) (final-alike P (reaches RoundDown rec x) falls)

      -- the last kept pair that is not above x, and the last recorded one
      pub found-down : named lt (key no_record) key RoundDown rec x < length rec
          → let y = named lt (key no_record) key RoundDown rec x in
          let i = named lt (key no_record) key RoundDown kept x in
          (i < length kept) × (P.at i ≤ y) × (i + 1 < length kept → y < P.at (i + 1))
      found-down h = rw (kept-down, named-down rec x) (final_among P (reaches RoundDown rec x) falls (rw (named-down rec x) at h))

      -- the first that is not below it
      pub found_up : named lt (key no_record) key RoundUp rec x < length rec
          → let y = named lt (key no_record) key RoundUp rec x in
          let i = named lt (key no_record) key RoundUp kept x in
          (i < length kept) × (y ≤ P.at i) × ((j : ℕ) → j < length kept → y ≤ P.at j → i ≤ j)
      found_up h = rw (kept-up, named-up rec x) (first_among P (reaches RoundUp rec x) climbs (rw (named-up rec x) at h))

      -- a recorded key is found among all recorded ones
      pub found : ((a b : K) → lt a b ≡ false → lt b a ≡ false → a ≡ b) → (opt : FindOption) (y : ℕ) → y < length rec → key (pair_at rec y) ≡ x
          → (named lt (key no_record) key opt rec x < length rec) × (key (pair_at rec (named lt (key no_record) key opt rec x)) ≡ x)
      found same RoundUp y l e =
          let t = reaches RoundUp rec x in
          let hit : t y ≡ true = rw (e, itself lt O x) in
          let m = first t (length rec) in
          let b : m ≤ y = first_least t (length rec) y l hit in
          rw (named-up rec x) (omega arith, same (key (pair_at rec m)) x (not-true (lt (key (pair_at rec m)) x) (first_holds t (length rec) (omega arith))) (rw e at (sorted m y b l)))
      found same RoundDown y l e =
          let t = reaches RoundDown rec x in
          let hit : t y ≡ true = rw (e, itself lt O x) in
          let m = final t (length rec) in
          let b : y ≤ m = final-most t (length rec) y l hit in
          let c : m < length rec = ⊎_elim (λ (s : m < length rec). s) (λ (s : length rec ≤ m). absurd (true_false (t y) hit (final-out t (length rec) s y l))) (below_or m (length rec)) in
          rw (named-down rec x) (c, same (key (pair_at rec m)) x (rw e at (sorted y m b c)) (not-true (lt x (key (pair_at rec m))) (final_holds t (length rec) c)))
