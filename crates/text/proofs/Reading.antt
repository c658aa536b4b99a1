-- What the digits say: they read back as the number, and the first is no zero but in "0". Assumes nothing.
use Prim.Native.Nat.{ℕ, zero, suc, ◌+◌, ◌*◌, ◌-◌, ◌/◌, ◌%◌, ◌^◌, ◌≤◌, ◌<◌}
use native.Mathlib.Omega.{arith}
use native.Mathlib.Nat.{pow-suc}
use mathlib.Core.Path.{◌≡◌, refl, sym, ap, ◌∙◌}
use mathlib.Core.Bool.{Bool, true, false}
use mathlib.Core.List.{List, [], ◌∷◌, ◌++◌}
use lib.Dec.{ltb}
use borrow.Author.Tests.{ltb-true, ltb-false}
use lib.ListN.{length, get_or, length-append, get_or-append}
use Rattle.text.specs.Text.{digits, decimal}
use Rattle.text.proofs.Numbers.{small, large}

-- digits read from the left
abbrev value : ℕ → List ℕ → ℕ
value v [] = v
value v (d ∷ ds) = value (v * 10 + (d - 48)) ds

value_snoc : (ds : List ℕ) (v d : ℕ) → value v (ds ++ (d ∷ [])) ≡ value v ds * 10 + (d - 48)
value_snoc [] v d = refl
value_snoc (e ∷ ds) v d = value_snoc ds (v * 10 + (e - 48)) d

fall : (k n : ℕ) → n < 10 ^ suc k → n / 10 < 10 ^ k
fall k n h = omega (arith, pow-suc 10 k)

back : (k n : ℕ) → n < 10 ^ suc k → value 0 (digits (suc k) n) ≡ n
back zero n h = let l : n < 10 = omega arith in rw (small 0 n l) (omega arith)
back (suc k) n h = go (back k (n / 10) (fall (suc k) n h)) (ltb n 10) refl
  where
    go : value 0 (digits (suc k) (n / 10)) ≡ n / 10 → (b : Bool) → ltb n 10 ≡ b → value 0 (digits (suc (suc k)) n) ≡ n
    go i true e = let l : n < 10 = omega (arith, ltb-true) in rw (small (suc k) n l) (omega arith)
    go i false e =
        let l : 10 ≤ n = omega (arith, ltb-false) in
        rw (large (suc k) n l, value_snoc (digits (suc k) (n / 10)) 0 (48 + n % 10), i) (omega arith)

pub reads_back : (n : ℕ) → n < 2 ^ 64 → value 0 (decimal n) ≡ n
unfolding decimal
reads_back n h = back 19 n (omega arith)

-- two numbers of one text are equal
pub one_text : (m n : ℕ) → m < 2 ^ 64 → n < 2 ^ 64 → decimal m ≡ decimal n → m ≡ n
one_text m n hm hn e = sym (reads_back m hm) ∙ ap (value 0) e ∙ reads_back n hn

filled : (k n : ℕ) → 0 < length (digits (suc k) n)
filled k n = go (ltb n 10) refl
  where
    go : (b : Bool) → ltb n 10 ≡ b → 0 < length (digits (suc k) n)
    go true e = let l : n < 10 = omega (arith, ltb-true) in rw (small k n l) (omega arith)
    go false e = let l : 10 ≤ n = omega (arith, ltb-false) in rw (large k n l) (omega (arith, length-append (digits k (n / 10)) ((48 + n % 10) ∷ [])))

lead : (k n : ℕ) → 0 < n → n < 10 ^ suc k → 48 < get_or (digits (suc k) n) 0 0
lead zero n p h = let l : n < 10 = omega arith in rw (small 0 n l) (omega arith)
lead (suc k) n p h = go (λ q. lead k (n / 10) q (fall (suc k) n h)) (ltb n 10) refl
  where
    go : (0 < n / 10 → 48 < get_or (digits (suc k) (n / 10)) 0 0) → (b : Bool) → ltb n 10 ≡ b → 48 < get_or (digits (suc (suc k)) n) 0 0
    go i true e = let l : n < 10 = omega (arith, ltb-true) in rw (small (suc k) n l) (omega arith)
    go i false e =
        let l : 10 ≤ n = omega (arith, ltb-false) in
        rw (large (suc k) n l, get_or-append (digits (suc k) (n / 10)) ((48 + n % 10) ∷ []) 0 0 (filled k (n / 10))) (i (omega arith))

pub no_zero-first : (n : ℕ) → 0 < n → n < 2 ^ 64 → 48 < get_or (decimal n) 0 0
unfolding decimal
no_zero-first n p h = lead 19 n p (omega arith)
