-- The laws over the width: the low w bits of a number, and w bits read as a signed number. Assumes nothing.
use Rattle.std.proofs.Common.{◌≡◌, ℕ, zero, suc, ◌+◌, ◌-◌, ◌*◌, ◌%◌, ◌^◌, ◌<◌, ◌≤◌, Bool, true, false, ltb, [], ◌∷◌, ℤ, pos, negsuc, ◌-ℤ◌, sym, ap, ◌∙◌, mod-lt, mod-eq_of_lt, mul_comm, one-mul, pow-suc, two-mul, arith, pow_pos, pow_mono, w64, SFits, le-ltb, lt-ltb, le-leb}
use native.Mathlib.Nat.{mod-mod}
use borrow.Author.Tests.{lt-leb}
use lib.Pow.{pow-lt, not_mod}
use lib.Signed.{mag}
use mir.Val.{sel}
use Rattle.signed.specs.Signed.{signed_of}
use Rattle.signed.specs.Inner.{low_bits}
use Rattle.told.specs.Told.{gave, refused}
use Rattle.signed.specs.Extend.{extend, extend_rule}

-- 1 << w
pub size_is : (w : ℕ) → w < 64 → (1 * 2 ^ w) % 2 ^ 64 ≡ 2 ^ w
size_is w h = ap (λ (x : ℕ). x % 2 ^ 64) (one-mul (2 ^ w)) ∙ mod-eq_of_lt (pow-lt h)

pub two-halves : (w : ℕ) → 1 ≤ w → 2 ^ w ≡ 2 ^ (w - 1) + 2 ^ (w - 1)
two-halves w h =
    let e : w ≡ suc (w - 1) = omega arith in
    ap (λ (k : ℕ). 2 ^ k) e ∙ pow-suc 2 (w - 1) ∙ mul_comm (2 ^ (w - 1)) 2 ∙ two-mul (2 ^ (w - 1))

-- ---- w bits, read
pub read_low : (w m : ℕ) → m < 2 ^ (w - 1) → signed_of w m ≡ pos m
read_low w m h = simp (lt-ltb m (2 ^ (w - 1)) h)

pub read_high : (w m : ℕ) → 2 ^ (w - 1) ≤ m → signed_of w m ≡ negsuc (2 ^ w - suc m)
read_high w m h = simp (le-ltb m (2 ^ (w - 1)) h)

-- the low bits of a negative number
pub low_negsuc : (w n : ℕ) → w ≤ 64 → n < 2 ^ w → low_bits w (negsuc n) ≡ 2 ^ w - suc n
low_negsuc w n l h =
    let e : 64 ≡ (64 - w) + w = omega arith in
    let k : ((2 ^ 64 - 1) - n) % 2 ^ w ≡ (2 ^ w - 1) - n = rw (← e) at (not_mod (64 - w) w h) in
    let s : 2 ^ 64 - suc n ≡ (2 ^ 64 - 1) - n = omega arith in
    let t : 2 ^ w - suc n ≡ (2 ^ w - 1) - n = omega arith in
    ap (λ (x : ℕ). x % 2 ^ w) s ∙ k ∙ sym t

-- a number of w bits comes back from its low w bits
pub extend-low : (w : ℕ) (z : ℤ) → 1 ≤ w → w ≤ 64 → mag z < 2 ^ (w - 1) → extend w (low_bits w z) ≡ z
extend-low w (pos n) h l f =
    let t = two-halves w h in
    let e : n % 2 ^ w ≡ n = mod-eq_of_lt (omega arith) in
    rw (mod-mod, e) (read_low w n f)
extend-low w (negsuc n) h l f =
    let t = two-halves w h in
    let e : low_bits w (negsuc n) ≡ 2 ^ w - suc n = low_negsuc w n l (omega arith) in
    let k : 2 ^ w - suc (2 ^ w - suc n) ≡ n = omega arith in
    rw (mod-mod, e) (read_high w (2 ^ w - suc n) (omega arith) ∙ ap negsuc k)

-- ---- the low bits as they stand, less two to the width where the top one is set
pub top_clear : (v w : ℕ) → v % 2 ^ w < 2 ^ (w - 1) → pos (v % 2 ^ w) ≡ extend w v
top_clear v w h = sym (read_low w (v % 2 ^ w) h)

-- a number less a greater one
minus : (m n : ℕ) → m < n → pos m -ℤ pos n ≡ negsuc (n - suc m)
minus m zero h = absurd (omega arith)
minus m (suc n) h = simp (lt-ltb m (suc n) h)

pub top_set : (v w : ℕ) → 2 ^ (w - 1) ≤ v % 2 ^ w → pos (v % 2 ^ w) -ℤ pos (2 ^ w) ≡ extend w v
top_set v w h = minus (v % 2 ^ w) (2 ^ w) (mod-lt v (pow_pos w)) ∙ sym (read_high w (v % 2 ^ w) h)

-- all three are numbers of an i64
pub size_fits : (w : ℕ) → w ≤ 32 → SFits w64 (pos (2 ^ w))
size_fits w l = record { sfits = omega (arith, pow_mono {j = 32} l) }

pub low_fits : (v w : ℕ) → w ≤ 32 → SFits w64 (pos (v % 2 ^ w))
low_fits v w l = record { sfits = omega (arith, mod-lt v (pow_pos w), pow_mono {j = 32} l) }

pub extend_fits : (v w : ℕ) → w ≤ 32 → SFits w64 (extend w v)
extend_fits v w l = go (ltb (v % 2 ^ w) (2 ^ (w - 1)))
  where
    go : (t : Bool) → SFits w64 (sel t (pos (v % 2 ^ w)) (negsuc (2 ^ w - suc (v % 2 ^ w))))
    go true = low_fits v w l
    go false = record { sfits = omega (arith, pow_mono {j = 32} l) }

-- ---- the refusal
pub taken : (v w : ℕ) → 1 ≤ w → w ≤ 32 → extend_rule v w ≡ gave (extend w v)
taken v w h k = simp (le-leb 1 w h, le-leb w 32 k)

pub none : (v w : ℕ) → w < 1 → extend_rule v w ≡ refused (23 ∷ [])
none v w h = simp (lt-leb 1 w h)

pub wide : (v w : ℕ) → 32 < w → extend_rule v w ≡ refused (23 ∷ [])
wide v w h = simp (le-leb 1 w (omega arith), lt-leb w 32 h)
