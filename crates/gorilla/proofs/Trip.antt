-- What is written is read back, exactly where every difference of deltas is strict. Assumes nothing.
use Prim.Native.Nat.{ℕ, ◌+◌, ◌-◌, ◌%◌, ◌^◌, ◌≤◌, ◌<◌}
use mathlib.Core.Path.{◌≡◌, refl, sym, ap, ◌∙◌}
use mathlib.Core.Bool.{Bool, true, false, cond}
use mathlib.Core.List.{List, [], ◌∷◌, ◌++◌, append_assoc}
use native.Mathlib.Nat.{mod-lt}
use native.Mathlib.Omega.{arith}
use borrow.Author.Tests.{ltb-true, ltb-false}
use lib.Dec.{leb, ltb}
use lib.ListN.{length}
use lib.Pow.{pow_pos, pow_mono}
use lib.IntN.{ℤ, pos, negsuc, nat_abs}
use lib.Signed.{mag}
use mir.Syntax.{w64}
use mir.Val.{SFits}
use mir.Facts.{sfits_to_z}
use Rattle.gorilla.specs.declared.Row.{Row}
use Rattle.signed.specs.Signed.{signed_of, signed, pattern, add_w, sub_w, add_s, sub_s}
use Rattle.signed.specs.Inner.{low_bits}
use Rattle.signed.specs.Extend.{extend}
use Rattle.gorilla.specs.Rows.{row, row_of, decoded, strict}
use Rattle.signed.proofs.Wrapping.{pattern-signed, signed-pattern, add_s-sub_s, sub-add, sub_lt}
use Rattle.signed.proofs.Widths.{two-halves, read_low, read_high}
use Rattle.bit_lists.specs.BitList.{nat_bits}
use Rattle.gorilla.specs.Parser.{read, take_bits, and_then, told_at}
use Rattle.gorilla.specs.Format.{code_bits, codes_bits, values_bits, array_bits}
use Rattle.gorilla.specs.Reading.{count_ones, read_code, read_codes, values_after, read_values, read_array}
use Rattle.gorilla.proofs.Rows.{reads_back, mag_strict, strict_of}
use Rattle.gorilla.proofs.Taking.{take_nat, take_is}

-- ---- the five rows, once

or_is : (P : Row → Type 0) (b : Bool) (r q : Row) → P r → P q → P (cond b r q)
or_is P true r q h k = h
or_is P false r q h k = k

pub rows : (P : Row → Type 0) → P (row 0b0 1 0) → P (row 0b10 2 7) → P (row 0b110 3 9) → P (row 0b1110 4 12) → P (row 0b1111 4 32) → (d : ℤ) → P (row_of d)
unfolding row_of
rows P p₀ p₁ p₂ p₃ p₄ d =
    or_is P (leb (nat_abs d) 0) _ _ p₀
    (or_is P (leb (nat_abs d) 63) _ _ p₁
    (or_is P (leb (nat_abs d) 255) _ _ p₂
    (or_is P (leb (nat_abs d) 2047) _ _ p₃ p₄)))

-- ---- one code

-- what a reader makes of the code of d
unfoldable pub sent_of : ℤ → ℤ
sent_of d = decoded (row_of d).width (low_bits (row_of d).width d)

module _ (all a i : ℕ) where
  ByRow : Row → Type 0
  ByRow r = (x : ℕ) (rest : List ℕ) → read_code all a i (nat_bits r.prefix_bits r.prefix ++ (nat_bits r.width x ++ rest)) ≡ read (decoded r.width (x % 2 ^ r.width)) rest

  -- n ones, and the row's width w
  by_row : (w n : ℕ) (x : ℕ) (rest : List ℕ) (p : ℕ)
      → told_at p (and_then (take_bits w (8 ∷ a ∷ i ∷ w ∷ []) (nat_bits w x ++ rest)) (λ v bs. read (decoded w v) bs)) ≡ read (decoded w (x % 2 ^ w)) rest
  by_row w n x rest p = rw (take_nat (8 ∷ a ∷ i ∷ w ∷ []) w x rest)

  any_row : (d : ℤ) → ByRow (row_of d)
  unfolding ByRow read_code count_ones nat_bits
  any_row = rows ByRow (λ x r. by_row 0 0 x r _) (λ x r. by_row 7 1 x r _) (λ x r. by_row 9 2 x r _) (λ x r. by_row 12 3 x r _) (λ x r. by_row 32 4 x r _)

  pub read-code : (d : ℤ) (rest : List ℕ) → read_code all a i (code_bits d ++ rest) ≡ read (sent_of d) rest
  unfolding code_bits ByRow sent_of
  read-code d rest = rw append_assoc (any_row d (pattern d) rest)

-- ---- the codes

-- what a reader makes of the codes of xs
unfoldable pub sent_after : ℤ → ℤ → List ℤ → List ℤ
sent_after p e [] = []
sent_after p e (x ∷ xs) = sent_of (sub_s (sub_s x p) e) ∷ sent_after x (sub_s x p) xs

pub read_codes_lem : (all a i : ℕ) (p e : ℤ) (xs : List ℤ) (rest : List ℕ) → read_codes all a (length xs) i (codes_bits p e xs ++ rest) ≡ read (sent_after p e xs) rest
unfolding read_codes codes_bits sent_after
read_codes_lem all a i p e [] rest = refl
read_codes_lem all a i p e (x ∷ xs) rest = rw (append_assoc, read-code, read_codes_lem all a (i + 1) x (sub_s x p) xs rest)

-- ---- the array

-- each value is one of 64 bits
unfoldable pub AllFit : List ℤ → Type 0
AllFit [] = Unit {0}
AllFit (x ∷ xs) = (SFits w64 x) × AllFit xs

-- what a reader makes of an array
unfoldable pub received : List ℤ → List ℤ
received [] = []
received (x ∷ xs) = x ∷ values_after x (pos 0) (sent_after x (pos 0) xs)

pattern_lt : (z : ℤ) → SFits w64 z → pattern z < 2 ^ 64
pattern_lt (pos n) f = omega (arith, f.sfits)
pattern_lt (negsuc n) f = omega (arith, f.sfits)

pub read-values : (all a : ℕ) (xs : List ℤ) (rest : List ℕ) → AllFit xs → read_values all a (length xs) (values_bits xs ++ rest) ≡ read (received xs) rest
unfolding read_values values_bits received AllFit
read-values all a [] rest f = refl
read-values all a (x ∷ xs) rest (f, g) =
    rw (append_assoc, take_is (5 ∷ a ∷ []) 64 (pattern x) (codes_bits x (pos 0) xs ++ rest) (pattern_lt x f)) (rw (signed-pattern x f, read_codes_lem all a 1 x (pos 0) xs rest))

-- all of an array, and nothing of what follows it, is read
pub read_array_lem : (all a : ℕ) (room : ℕ → Bool) (xs : List ℤ) (rest : List ℕ) → AllFit xs → length xs < 2 ^ 32 → room (length xs) ≡ true
    → read_array all a room (array_bits xs ++ rest) ≡ read (received xs) rest
unfolding read_array array_bits
read_array_lem all a room xs rest f h r =
    rw (append_assoc, take_is (4 ∷ a ∷ []) 32 (length xs) (values_bits xs ++ rest) h, r) (read-values all a xs rest f)

-- ---- strict: every difference of deltas is one of 32 bits

unfoldable pub StrictAfter : ℤ → ℤ → List ℤ → Type 0
StrictAfter p e [] = Unit {0}
StrictAfter p e (x ∷ xs) = (strict (sub_s (sub_s x p) e) ≡ true) × StrictAfter x (sub_s x p) xs

unfoldable pub Strict : List ℤ → Type 0
Strict [] = Unit {0}
Strict (x ∷ xs) = StrictAfter x (pos 0) xs

add_s_comm : (a b : ℤ) → add_s a b ≡ add_s b a
add_s_comm a b =
    let e : add_w (pattern a) (pattern b) ≡ add_w (pattern b) (pattern a) = omega arith in ap signed e

sub_s-fits : (a b : ℤ) → SFits w64 (sub_s a b)
sub_s-fits a b = sfits_to_z {w = w64} {n = sub_w (pattern a) (pattern b)} (record { fits = sub_lt (pattern a) (pattern b) })

pub add_s-fits : (a b : ℤ) → SFits w64 (add_s a b)
add_s-fits a b = sfits_to_z {w = w64} {n = add_w (pattern a) (pattern b)} (record { fits = omega arith })

pub sub_s-add_s : (a b : ℤ) → SFits w64 a → SFits w64 b → sub_s (add_s b a) b ≡ a
sub_s-add_s a b f g =
    let k : sub_w (add_w (pattern b) (pattern a)) (pattern b) ≡ pattern a = omega (arith, sub-add (pattern a) (pattern b) (pattern_lt a f) (pattern_lt b g)) in
    ap (λ (n : ℕ). signed (sub_w n (pattern b))) (pattern-signed (add_w (pattern b) (pattern a)) (omega arith))
    ∙ ap signed k ∙ signed-pattern a f

sent_is : (d : ℤ) → strict d ≡ true → sent_of d ≡ d
unfolding sent_of
sent_is d s = reads_back d s

-- a difference that is read is strict
mag_read : (w m : ℕ) → 1 ≤ w → m < 2 ^ w → mag (signed_of w m) < 2 ^ (w - 1)
mag_read w m h l = go (ltb m (2 ^ (w - 1))) refl
  where
    t : 2 ^ w ≡ 2 ^ (w - 1) + 2 ^ (w - 1)
    t = two-halves w h

    go : (b : Bool) → ltb m (2 ^ (w - 1)) ≡ b → mag (signed_of w m) < 2 ^ (w - 1)
    go true e = let k : m < 2 ^ (w - 1) = ltb-true m (2 ^ (w - 1)) e in rw (read_low w m k) k
    go false e =
        let k : 2 ^ (w - 1) ≤ m = ltb-false m (2 ^ (w - 1)) e in
        rw (read_high w m k) (omega (arith, t))

strict-read : (w v : ℕ) → 1 ≤ w → w ≤ 32 → strict (extend w v) ≡ true
strict-read w v h k =
    let m : mag (extend w v) < 2 ^ (w - 1) = mag_read w (v % 2 ^ w) h (mod-lt v (pow_pos w)) in
    let l : w - 1 ≤ 31 = omega arith in
    strict_of (extend w v) (omega (arith, pow_mono l))

StrictRow : ℕ → Row → Type 0
StrictRow v r = strict (decoded r.width v) ≡ true

strict-row : (v : ℕ) (d : ℤ) → StrictRow v (row_of d)
unfolding StrictRow
strict-row v = rows (StrictRow v) (strict_of (pos 0) (omega arith)) (strict-read 7 v (omega arith) (omega arith)) (strict-read 9 v (omega arith) (omega arith)) (strict-read 12 v (omega arith) (omega arith)) (strict-read 32 v (omega arith) (omega arith))

pub sent_strict : (d : ℤ) → strict (sent_of d) ≡ true
unfolding sent_of StrictRow
sent_strict d = strict-row (low_bits (row_of d).width d) d

strict-fits : (d : ℤ) → strict d ≡ true → SFits w64 d
strict-fits d s = record { sfits = omega (arith, mag_strict d s) }

leads : (p e x : ℤ) → SFits w64 p → SFits w64 e → SFits w64 x → strict (sub_s (sub_s x p) e) ≡ true
    → add_s e (sent_of (sub_s (sub_s x p) e)) ≡ sub_s x p
leads p e x f g h s = ap (add_s e) (sent_is (sub_s (sub_s x p) e) s) ∙ add_s_comm e (sub_s (sub_s x p) e) ∙ add_s-sub_s (sub_s x p) e (sub_s-fits x p) g

pub trip : (p e : ℤ) (xs : List ℤ) → SFits w64 p → SFits w64 e → AllFit xs → StrictAfter p e xs → values_after p e (sent_after p e xs) ≡ xs
unfolding sent_after values_after StrictAfter AllFit
trip p e [] f g h s = refl
trip p e (x ∷ xs) f g (h, hs) (s, ss) =
    rw (leads p e x f g h s, add_s_comm p (sub_s x p), add_s-sub_s x p h f) (ap (λ (ys : List ℤ). x ∷ ys) (trip x (sub_s x p) xs h (sub_s-fits x p) hs ss))

-- and only then: a value that comes back was reached by a strict difference
back-strict : (p e c x : ℤ) → SFits w64 p → SFits w64 e → strict c ≡ true → add_s p (add_s e c) ≡ x → sub_s (sub_s x p) e ≡ c
back-strict p e c x f g s h =
    ap (λ (y : ℤ). sub_s (sub_s y p) e) (sym h) ∙ ap (λ (y : ℤ). sub_s y e) (sub_s-add_s (add_s e c) p (add_s-fits e c) f)
    ∙ sub_s-add_s c e (strict-fits c s) g

head_of : {x y : ℤ} {xs ys : List ℤ} → x ∷ xs ≡ y ∷ ys → x ≡ y
head_of h = cc

tail_of : {x y : ℤ} {xs ys : List ℤ} → x ∷ xs ≡ y ∷ ys → xs ≡ ys
tail_of h = cc

pub only_strict : (p e : ℤ) (xs : List ℤ) → SFits w64 p → SFits w64 e → AllFit xs → values_after p e (sent_after p e xs) ≡ xs → StrictAfter p e xs
unfolding sent_after values_after StrictAfter AllFit
only_strict p e [] f g h eq = tt
only_strict p e (x ∷ xs) f g (h, hs) eq =
    let d : ℤ = sub_s (sub_s x p) e in
    let k : d ≡ sent_of d = back-strict p e (sent_of d) x f g (sent_strict d) (head_of eq) in
    let s : strict d ≡ true = ap strict k ∙ sent_strict d in
    let t = rw (leads p e x f g h s, add_s_comm p (sub_s x p), add_s-sub_s x p h f) at (tail_of eq) in
    (s, only_strict x (sub_s x p) xs h (sub_s-fits x p) hs t)

zero-fits : SFits w64 (pos 0)
zero-fits = record { sfits = omega arith }

pub round_trip : (xs : List ℤ) → AllFit xs → Strict xs → received xs ≡ xs
unfolding received Strict AllFit
round_trip [] f s = refl
round_trip (x ∷ xs) (f, g) s = ap (λ (ys : List ℤ). x ∷ ys) (trip x (pos 0) xs f zero-fits g s)

pub strict_if_back : (xs : List ℤ) → AllFit xs → received xs ≡ xs → Strict xs
unfolding received Strict AllFit
strict_if_back [] f h = tt
strict_if_back (x ∷ xs) (f, g) h = only_strict x (pos 0) xs f zero-fits g (tail_of h)
