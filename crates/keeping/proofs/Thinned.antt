-- What is kept of the first n elements and one more, position by position; d stands past a list's end.
use mathlib.Core.Path.{◌≡◌, refl, ◌∙◌, ap}
use mathlib.Core.Logic.{⊎_elim}
use mathlib.Core.List.{List, [], ◌∷◌}
use Prim.Native.Nat.{ℕ, zero, suc, ◌+◌, ◌/◌, ◌≤◌, ◌<◌}
use native.Mathlib.Omega.{arith}
use borrow.Author.Tests.{le-ltb, lt-ltb}
use lib.ListN.{length, get_or, take, length-append, get_or-append}
use lib.Seq.{get_or-take, get_or_at, length-take-le}
use Rattle.order.proofs.Bools.{below_or}
use Rattle.keeping.specs.Keep.{evens, appended, thinned}
use Rattle.keeping.specs.Inner.{count_with}

module _ {A : Type 0} where
  pub get_d_evens : (d : A) (l : List A) (k : ℕ) → get_or (evens l) k d ≡ get_or l (k + k) d
  unfolding evens
  get_d_evens d [] k = refl
  get_d_evens d (a ∷ []) zero = refl
  get_d_evens d (a ∷ []) (suc k) = let e : suc k + suc k ≡ suc (suc (k + k)) = omega arith in rw e
  get_d_evens d (a ∷ b ∷ l) zero = refl
  get_d_evens d (a ∷ b ∷ l) (suc k) = let e : suc k + suc k ≡ suc (suc (k + k)) = omega arith in rw e (get_d_evens d l k)

  pub length-evens : (l : List A) → length (evens l) ≡ (length l + 1) / 2
  unfolding evens
  length-evens [] = refl
  length-evens (a ∷ []) = refl
  length-evens (a ∷ b ∷ l) = let h = length-evens l in omega arith

  module _ (n : ℕ) (xs : List A) (x : A) (fit : n ≤ length xs) where
    pub appended-length : length (appended n xs x) ≡ n + 1
    appended-length = length-append (take n xs) (x ∷ []) ∙ ap (λ (m : ℕ). m + 1) (length-take-le n xs fit)

    pub appended_old : (d : A) (k : ℕ) → k < n → get_or (appended n xs x) k d ≡ get_or xs k d
    appended_old d k h = get_or-append (take n xs) (x ∷ []) d k (omega (arith, length-take-le n xs fit)) ∙ get_or-take n xs k d h

    pub appended-new : (d : A) → get_or (appended n xs x) n d ≡ x
    appended-new d = get_or_at (take n xs) x [] d n (length-take-le n xs fit)

    module _ (cap : ℕ) where
      -- room for one more
      pub thinned_not : n < cap → thinned cap (appended n xs x) ≡ appended n xs x
      thinned_not h = rw (le-ltb cap (length (appended n xs x)) (omega (arith, appended-length)))

      -- no room
      pub thinned-evens : cap ≤ n → thinned cap (appended n xs x) ≡ evens (appended n xs x)
      thinned-evens h = rw (lt-ltb cap (length (appended n xs x)) (omega (arith, appended-length)))

      -- the count that is computed is that of the elements
      pub thinned-length : length (thinned cap (appended n xs x)) ≡ count_with cap n
      thinned-length =
          ⊎_elim (λ (h : n < cap). rw (thinned_not h, lt-ltb n cap h) appended-length)
          (λ (h : cap ≤ n). rw (thinned-evens h, le-ltb n cap h) (length-evens (appended n xs x) ∙ omega (arith, appended-length)))
          (below_or n cap)
