-- A search for the first place where a test fails that holds up to there; and what passes among keys that do not drop.
use mathlib.Core.Path.{◌≡◌, refl, sym}
use mathlib.Core.Bool.{Bool, true, false, not}
use mathlib.Core.List.{List}
use Prim.Native.Nat.{ℕ, ◌+◌, ◌-◌, ◌≤◌, ◌<◌}
use native.Mathlib.Omega.{arith}
use lib.ListN.{get_or, length}
use Rattle.std.specs.List.Sorted.{IsPartitionedBy, IsPartitionPoint}
use Rattle.std.proofs.lemmas.List.{get_or_default}
use Rattle.order.specs.First.{first}
use Rattle.order.specs.Order.{drops}
use Rattle.order.specs.Inner.{NoneBelow, Order}
use Rattle.order.proofs.Bools.{other, true_false}
use Rattle.order.proofs.First.{first_is, first-same}
use Rattle.order.proofs.Order.{rises, further}
use Rattle.search.specs.Inner.{Bracket, passes, sought, first_above}
use Rattle.search.specs.Keys.{greater}

-- what holds at a place holds before it
abbrev pub Falls : (ℕ → Bool) → ℕ → Type 0
Falls t n = (i j : ℕ) → i ≤ j → j < n → t j ≡ true → t i ≡ true

not-true : (b : Bool) → b ≡ false → not b ≡ true
not-true b e = rw e

true-not : (b : Bool) → not b ≡ true → b ≡ false
true-not true e = absurd (true_false true refl (sym e))
true-not false e = refl

module _ {K : Type 0} (lt : K → K → Bool) (O : Order lt) (d : K) (keys : List K) (n : ℕ) (sorted : NoneBelow (drops lt d keys) n) (x : K) where
  -- the keys that stand before the place come first
  pub falls : (above : Bool) → Falls (passes lt d above keys x) n
  falls false i j h l e = O.le_lt (get_or keys i d) (get_or keys j d) x (rises lt O d keys n sorted i j h l) e
  falls true i j h l e = not-true _ (further lt O (get_or keys i d) (get_or keys j d) x (rises lt O d keys n sorted i j h l) (true-not _ e))

module _ (t : ℕ → Bool) (n : ℕ) where
  pub start : Bracket t n 0 n
  start = record { ordered = omega arith; within = omega arith; under = λ j l. absurd (omega arith); over = λ j l l'. absurd (omega arith) }

  module _ (lo hi : ℕ) (b : Bracket t n lo hi) where
    module _ (F : Falls t n) (m : ℕ) (lm : lo ≤ m) (mh : m < hi) where
      pub up : t m ≡ true → Bracket t n (m + 1) hi
      up e = record { ordered = omega arith; within = b.within; under = λ j l. F j m (omega arith) (omega (arith, b.within)) e; over = b.over }

      pub down : t m ≡ false → Bracket t n lo m
      down e = record {
        ordered = lm;
        within = omega (arith, b.within);
        under = b.under;
        over = λ j l l'. other (t j) (λ p. true_false (t m) (F m j l l' p) e);
      }

    pub finish : hi ≤ lo → lo ≡ first (λ i. not (t i)) n
    finish h =
        let w : lo ≤ n = omega (arith, b.within, b.ordered) in
        sym (first_is (λ i. not (t i)) n lo w (λ j l. rw (b.under j l)) (λ l. rw (b.over lo h l)))

    -- a bracket that is wider
    pub widen : (l h : ℕ) → l ≤ lo → hi ≤ h → h ≤ n → Bracket t n l h
    widen l h a e w = record { ordered = omega (arith, b.ordered); within = w; under = λ j k. b.under j (omega arith); over = λ j k. b.over j (omega arith) }

-- ---- halves of known sizes

module _ (t : ℕ → Bool) (n : ℕ) (F : Falls t n) where
  -- of 2k places from p on, by the last of the lower half
  pub upper : (p k : ℕ) → Bracket t n p (p + (k + k)) → 0 < k → t (p + k - 1) ≡ true → Bracket t n (p + k) (p + k + k)
  upper p k b some e =
      let w : p + (k + k) ≤ n = b.within in
      widen t n (p + k - 1 + 1) (p + (k + k)) (up t n p (p + (k + k)) b F (p + k - 1) (omega arith) (omega arith) e) (p + k) (p + k + k) (omega arith) (omega arith) (omega arith)

  pub lower : (p k : ℕ) → Bracket t n p (p + (k + k)) → 0 < k → t (p + k - 1) ≡ false → Bracket t n p (p + k)
  lower p k b some e =
      let w : p + (k + k) ≤ n = b.within in
      widen t n p (p + k - 1) (down t n p (p + (k + k)) b F (p + k - 1) (omega arith) (omega arith) e) p (p + k) (omega arith) (omega arith) (omega arith)

  -- of all, by the last of the lower 4,096
  pub upper_half : 4096 ≤ n → n ≤ 8192 → t 4095 ≡ true → Bracket t n (n - 4096) (n - 4096 + 4096)
  upper_half a z e = widen t n (4095 + 1) n (up t n 0 n (start t n) F 4095 (omega arith) (omega arith) e) (n - 4096) (n - 4096 + 4096) (omega arith) (omega arith) (omega arith)

  pub lower_half : 4096 ≤ n → t 4095 ≡ false → Bracket t n 0 4096
  lower_half a e = widen t n 0 4095 (down t n 0 n (start t n) F 4095 (omega arith) (omega arith) e) 0 4096 (omega arith) (omega arith) a

  -- of one
  pub place_after : (p : ℕ) → Bracket t n p (p + 1) → t p ≡ true → p + 1 ≡ first (λ i. not (t i)) n
  place_after p b e = finish t n (p + 1) (p + 1) (up t n p (p + 1) b F p (omega arith) (omega arith) e) (omega arith)

  pub place_here : (p : ℕ) → Bracket t n p (p + 1) → t p ≡ false → p ≡ first (λ i. not (t i)) n
  place_here p b e = finish t n p p (down t n p (p + 1) b F p (omega arith) (omega arith) e) (omega arith)

-- ---- the library's search, and the one for the first key above

module _ {K : Type 0} (p : K → Bool) (keys : List K) (d : K) where
  pub parted : Falls (λ i. p (get_or keys i d)) (length keys) → IsPartitionedBy p keys
  parted F i j e h l hit = rw (get_or_default keys i e d (omega arith)) (F i j h l (rw (get_or_default keys j d e l) hit))

  pub cut : (r : ℕ) → r ≤ length keys → IsPartitionPoint (λ k. p k ≡ true) (λ k. p k ≡ false) keys r → r ≡ first (λ i. not (p (get_or keys i d))) (length keys)
  cut r w point =
      finish (λ i. p (get_or keys i d)) (length keys) r r
      (record { ordered = omega arith; within = w; under = λ j l. point.0 j d (omega arith) l; over = λ j h l. point.1 j d h l }) (omega arith)

not-not : (b : Bool) → not (not b) ≡ b
not-not true = refl
not-not false = refl

pub twice : {K : Type 0} (lt : K → K → Bool) (d : K) (keys : List K) (n : ℕ) (x : K) → sought lt d true keys n x ≡ first_above lt d keys n x
twice lt d keys n x = first-same (λ i. not (passes lt d true keys x i)) (greater lt d keys x) n (λ j l. not-not (lt x (get_or keys j d)))
