-- Where the pairs that are kept stand among those recorded: as one more is recorded, and as every second one is dropped.
use mathlib.Core.Path.{◌≡◌, refl, sym, ◌∙◌}
use mathlib.Core.Logic.{⊎_elim}
use mathlib.Core.Bool.{cond}
use mathlib.Core.List.{List, [], ◌∷◌, ◌++◌}
use Prim.Native.Nat.{ℕ, zero, suc, ◌+◌, ◌-◌, ◌/◌, ◌≤◌, ◌<◌}
use native.Mathlib.Nat.{eq-or-lt_of_le}
use native.Mathlib.Omega.{arith}
use borrow.Author.Tests.{le-ltb, lt-ltb}
use lib.Dec.{ltb}
use lib.ListN.{length, length-append, get_or-append}
use lib.Seq.{get_or-append_seam}
use Rattle.order.proofs.Bools.{below_or}
use Rattle.tracker.specs.declared.TrackedSeq.{TrackedSeq}
use Rattle.keeping.specs.Keep.{evens}
use Rattle.keeping.proofs.Thinned.{get_d_evens, length-evens}
use Rattle.offer_log.proofs.Run.{no_record}
use Rattle.halving.specs.Coarse.{Places}

-- at each recorded pair x, or after it by fewer than g x, stands one that is kept
pub record Spread (g : ℕ → ℕ) (rec kept : List TrackedSeq) : Type 0 where
  pub places : Places rec kept
  pub up : (x : ℕ) → x < length rec → (i : ℕ) × (i < length kept) × (x ≤ places.at i) × (places.at i < x + g x)

-- all are kept
pub spread_all : (g : ℕ → ℕ) (l : List TrackedSeq) → ((x : ℕ) → 1 ≤ g x) → Spread g l l
spread_all g l least = record {
  places = record { at = λ i. i; each = λ i h. (h, refl); in_order = λ i h. omega arith; first = λ h. (h, refl); newest = λ h. refl };
  up = λ x h. (x, h, omega arith, omega (arith, least x));
}

pub all-at : (g : ℕ → ℕ) (l : List TrackedSeq) (least : (x : ℕ) → 1 ≤ g x) (i : ℕ) → (spread_all g l least).places.at i ≡ i
unfolding spread_all
all-at g l least i = refl

module _ {rec kept : List TrackedSeq} (P : Places rec kept) where
  -- a later kept pair was recorded later
  later : (i j : ℕ) → i < j → j < length kept → P.at i < P.at j
  later i zero h l = absurd (omega arith)
  later i (suc j) h l =
      let s : j + 1 ≡ suc j = omega arith in
      let one : P.at j < P.at (suc j) = rw s at (P.in_order j (omega arith)) in
      ⊎_elim (λ (e : i ≡ j). rw e one) (λ (b : i < j). omega (arith, later i j b (omega arith))) (eq-or-lt_of_le (omega arith))

  pub rises : (i j : ℕ) → i ≤ j → j < length kept → P.at i ≤ P.at j
  rises i j h l = ⊎_elim (λ (e : i ≡ j). rw e (omega arith)) (λ (b : i < j). omega (arith, later i j b l)) (eq-or-lt_of_le h)

  -- the last kept pair is the newest
  pub last_is : (i : ℕ) → i < length kept → length kept ≤ i + 1 → P.at i ≡ length rec - 1
  last_is i h l =
      let e : length kept - 1 ≡ i = omega arith in
      rw e at (P.newest (omega (arith, (P.each i h).0)))

module _ (g : ℕ → ℕ) (rec kept : List TrackedSeq) (S : Spread g rec kept) where
  abbrev at : ℕ → ℕ
  at = S.places.at

  -- the next neighbour stands no further on than the bound of what follows
  pub near : (i : ℕ) → i + 1 < length kept → at (i + 1) ≤ at i + g (at i + 1)
  near i h =
      let a = S.places.in_order i h in
      let w = (S.places.each (i + 1) h).0 in
      let (j, jk, from, to) = S.up (at i + 1) (omega arith) in
      ⊎_elim (λ (b : j < i + 1). absurd (omega (arith, rises S.places j i (omega arith) (omega arith)))) (λ (b : i + 1 ≤ j). omega (arith, rises S.places (i + 1) j b jk)) (below_or j (i + 1))

  -- one more is recorded and kept
  module _ (r : TrackedSeq) (least : (x : ℕ) → 1 ≤ g x) where
    to : ℕ → ℕ
    to i = cond (ltb i (length kept)) (at i) (length rec)

    to_old : (i : ℕ) → i < length kept → to i ≡ at i
    unfolding to
    to_old i l = rw (lt-ltb i (length kept) l)

    to_new : (i : ℕ) → length kept ≤ i → to i ≡ length rec
    unfolding to
    to_new i l = rw (le-ltb i (length kept) l)

    more : (l : List TrackedSeq) → length (l ++ (r ∷ [])) ≡ length l + 1
    more l = length-append l (r ∷ [])

    -- where something was recorded something is kept
    empty : length kept ≤ 0 → length rec ≡ 0
    empty l = ⊎_elim (λ (h : 0 < length rec). absurd (omega (arith, (S.places.first h).0))) (λ (h : length rec ≤ 0). omega arith) (below_or 0 (length rec))

    pub spread_more : Spread g (rec ++ (r ∷ [])) (kept ++ (r ∷ []))
    spread_more = record {
      places = record {
        at = to;
        each = λ i h.
            ⊎_elim
            (λ (l : i < length kept).
            let e = S.places.each i l in
            rw (to_old i l) (omega (arith, more rec, e.0), get_or-append kept (r ∷ []) no_record i l ∙ e.1 ∙ sym (get_or-append rec (r ∷ []) no_record (at i) e.0)))
            (λ (l : length kept ≤ i).
            let e : i ≡ length kept = omega (arith, more kept) in
            rw (to_new i l, e) (omega (arith, more rec), get_or-append_seam kept r [] no_record ∙ sym (get_or-append_seam rec r [] no_record)))
            (below_or i (length kept));
        in_order = λ i h.
            ⊎_elim (λ (l : i + 1 < length kept). rw (to_old i (omega arith), to_old (i + 1) l) (S.places.in_order i l))
            (λ (l : length kept ≤ i + 1).
            let b : i < length kept = omega (arith, more kept) in
            rw (to_new (i + 1) l, to_old i b) (S.places.each i b).0)
            (below_or (i + 1) (length kept));
        first = λ h. (
          omega (arith, more kept),
          ⊎_elim (λ (l : 0 < length kept). rw (to_old 0 l) (S.places.first (omega (arith, (S.places.each 0 l).0))).1) (λ (l : length kept ≤ 0). rw (to_new 0 l) (empty l)) (below_or 0 (length kept)),
        );
        newest = λ h. let e : length (kept ++ (r ∷ [])) - 1 ≡ length kept = omega (arith, more kept) in rw e (to_new (length kept) (omega arith) ∙ omega (arith, more rec));
      };
      up = λ x h.
          ⊎_elim
          (λ (l : x < length rec). let (i, b, from, upto) = S.up x l in (i, omega (arith, more kept), rw (to_old i b) from, rw (to_old i b) upto))
          (λ (l : length rec ≤ x). (length kept, omega (arith, more kept), rw (to_new (length kept) (omega arith)) (omega (arith, more rec)), rw (to_new (length kept) (omega arith)) (omega (arith, least x))))
          (below_or x (length rec));
    }

    pub more_old : (i : ℕ) → i < length kept → spread_more.places.at i ≡ at i
    unfolding spread_more
    more_old = to_old

    pub more_new : spread_more.places.at (length kept) ≡ length rec
    unfolding spread_more
    more_new = to_new (length kept) (omega arith)

  -- every second one is dropped, of an odd number
  module _ (half : ℕ) (odd : length kept ≡ half + half + 1) where
    long : length (evens kept) ≡ half + 1
    long = length-evens kept ∙ omega arith

    places-halved : Places rec (evens kept)
    places-halved = record {
      at = λ i. at (i + i);
      each = λ i h. let e = S.places.each (i + i) (omega (arith, long)) in (e.0, get_d_evens no_record kept i ∙ e.1);
      in_order = λ i h. later S.places (i + i) (i + 1 + (i + 1)) (omega arith) (omega (arith, long));
      first = λ h. (omega (arith, long), (S.places.first h).1);
      newest = λ h.
          let e : length (evens kept) - 1 + (length (evens kept) - 1) ≡ length kept - 1 = omega (arith, long) in
          rw e (S.places.newest h);
    }

    -- of two that stood next to each other one stays: at an even place itself, at an odd one the next
    stays : (g' : ℕ → ℕ) → ((x y : ℕ) → x ≤ y → g y ≤ g x) → (x : ℕ) → g x + g x ≤ g' x → (i : ℕ) → i < length kept → x ≤ at i → at i < x + g x
        → (m : ℕ) × (m < length (evens kept)) × (x ≤ at (m + m)) × (at (m + m) < x + g' x)
    stays g' falls x twice i l from upto =
        let m = i / 2 in
        ⊎_elim
        (λ (e : m + m ≡ i). (m, omega (arith, long), rw e from, rw e (omega arith)))
        (λ (e : m + m < i).
        let b : i + 1 < length kept = omega arith in
        let s : m + 1 + (m + 1) ≡ i + 1 = omega arith in
        let o = S.places.in_order i b in
        (m + 1, omega (arith, long), rw s (omega arith), rw s (omega (arith, near i b, falls x (at i + 1) (omega arith)))))
        (eq-or-lt_of_le (omega arith))

    pub spread_halved : (g' : ℕ → ℕ) → ((x y : ℕ) → x ≤ y → g y ≤ g x) → ((x : ℕ) → 1 ≤ g' x) → ((x : ℕ) → x + 1 < length rec → g x + g x ≤ g' x) → Spread g' rec (evens kept)
    unfolding places-halved
    spread_halved g' falls least twice = record {
      places = places-halved;
      up = λ x h.
          ⊎_elim
          (λ (b : x + 1 < length rec). let (i, l, from, upto) = S.up x h in stays g' falls x (twice x b) i l from upto)
          (λ (b : length rec ≤ x + 1).
          let e = last_is S.places (half + half) (omega arith) (omega arith) in
          (half, omega (arith, long), omega arith, omega (arith, least x)))
          (below_or (x + 1) (length rec));
    }

    pub halved-at : (g' : ℕ → ℕ) (falls : (x y : ℕ) → x ≤ y → g y ≤ g x) (least : (x : ℕ) → 1 ≤ g' x) (twice : (x : ℕ) → x + 1 < length rec → g x + g x ≤ g' x) (i : ℕ)
        → (spread_halved g' falls least twice).places.at i ≡ at (i + i)
    unfolding spread_halved places-halved
    halved-at g' falls least twice i = refl
