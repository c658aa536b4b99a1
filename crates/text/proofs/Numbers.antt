-- Numbers and lines as text: their cases, and how long they are. Assumes nothing.
use Prim.Native.Nat.{ℕ, zero, suc, ◌+◌, ◌/◌, ◌%◌, ◌^◌, ◌≤◌, ◌<◌}
use native.Mathlib.Nat.{pow-suc}
use native.Mathlib.Omega.{arith}
use mathlib.Core.Path.{◌≡◌, refl, sym, ap, ◌∙◌, subst}
use mathlib.Core.Bool.{Bool, true, false, cond}
use mathlib.Core.List.{List, [], ◌∷◌, ◌++◌}
use lib.Dec.{T, ltb}
use borrow.Author.Tests.{ltb-true, ltb-false}
use lib.IntN.{ℤ, pos, negsuc, nat_abs}
use lib.Signed.{lt_z}
use lib.ListN.{length, length-append}
use Rattle.text.specs.Text.{digits, decimal, signed_decimal, word_line}

pub small : (k n : ℕ) → n < 10 → digits (suc k) n ≡ (48 + n) ∷ []
unfolding digits
small k n h = go (ltb n 10) refl
  where
    go : (b : Bool) → ltb n 10 ≡ b → cond b ((48 + n) ∷ []) (digits k (n / 10) ++ ((48 + n % 10) ∷ [])) ≡ (48 + n) ∷ []
    go true e = refl
    go false e = absurd (omega (arith, ltb-false))

pub large : (k n : ℕ) → 10 ≤ n → digits (suc k) n ≡ digits k (n / 10) ++ ((48 + n % 10) ∷ [])
unfolding digits
large k n h = go (ltb n 10) refl
  where
    go : (b : Bool) → ltb n 10 ≡ b → cond b ((48 + n) ∷ []) (digits k (n / 10) ++ ((48 + n % 10) ∷ [])) ≡ digits k (n / 10) ++ ((48 + n % 10) ∷ [])
    go true e = absurd (omega (arith, ltb-true))
    go false e = refl

-- more places than are needed change nothing
more : (k n : ℕ) → n < 10 ^ suc k → digits (suc (suc k)) n ≡ digits (suc k) n
more zero n h = let l : n < 10 = omega arith in small 1 n l ∙ sym (small 0 n l)
more (suc k) n h = go (more k (n / 10) (fall k n h)) (ltb n 10) refl
  where
    fall : (k n : ℕ) → n < 10 ^ suc (suc k) → n / 10 < 10 ^ suc k
    fall k n h = omega (arith, pow-suc 10 (suc k))

    go : digits (suc (suc k)) (n / 10) ≡ digits (suc k) (n / 10) → (b : Bool) → ltb n 10 ≡ b → digits (suc (suc (suc k))) n ≡ digits (suc (suc k)) n
    go i true e = let l : n < 10 = omega (arith, ltb-true) in small (suc (suc k)) n l ∙ sym (small (suc k) n l)
    go i false e =
        let l : 10 ≤ n = omega (arith, ltb-false) in
        large (suc (suc k)) n l ∙ ap (λ (d : List ℕ). d ++ ((48 + n % 10) ∷ [])) i ∙ sym (large (suc k) n l)

pub decimal_small : (n : ℕ) → n < 10 → decimal n ≡ (48 + n) ∷ []
unfolding decimal
decimal_small n h = small 19 n h

pub decimal_large : (n : ℕ) → 10 ≤ n → n < 2 ^ 64 → decimal n ≡ decimal (n / 10) ++ ((48 + n % 10) ∷ [])
unfolding decimal
decimal_large n h l = large 19 n h ∙ ap (λ (d : List ℕ). d ++ ((48 + n % 10) ∷ [])) (sym (more 18 (n / 10) (omega arith)))

-- ---- lengths
digits-length : (k n : ℕ) → length (digits k n) ≤ k
unfolding digits
digits-length zero n = omega arith
digits-length (suc k) n = go (ltb n 10) (digits-length k (n / 10))
  where
    go : (b : Bool) → length (digits k (n / 10)) ≤ k → length (cond b ((48 + n) ∷ []) (digits k (n / 10) ++ ((48 + n % 10) ∷ []))) ≤ suc k
    go true h = omega arith
    go false h = omega (arith, length-append (digits k (n / 10)) ((48 + n % 10) ∷ []))

pub decimal-length : (n : ℕ) → length (decimal n) ≤ 20
unfolding decimal
decimal-length n = digits-length 20 n

pub signed-length : (z : ℤ) → length (signed_decimal z) ≤ 21
unfolding signed_decimal
signed-length (pos n) = omega (arith, decimal-length n)
signed-length (negsuc n) = omega (arith, decimal-length (suc n))

-- ---- signs
pub negative : (z : ℤ) → lt_z z (pos 0) ≡ true → signed_decimal z ≡ (45 ∷ []) ++ decimal (nat_abs z)
unfolding signed_decimal
negative (pos n) e = absurd (omega (arith, ltb-true))
negative (negsuc n) e = refl

pub positive : (z : ℤ) → lt_z z (pos 0) ≡ false → signed_decimal z ≡ decimal (nat_abs z)
unfolding signed_decimal
positive (pos n) e = refl
positive (negsuc n) e = absurd (subst T e tt)

-- a line of a word and a number
pub word-length : (word : List ℕ) (n : ℕ) → length (word_line word n) ≤ length word + 21
word-length word n = simp length-append (omega (arith, decimal-length n))
