-- The first and the last index at which a test holds.
use Rattle.std.specs.Prelude.{ℕ, zero, suc, Bool, cond, ltb, Option, Some, None}

-- of the n numbers from k on the first at which t holds, or k + n where there is none
unfoldable pub first_from : (ℕ → Bool) → ℕ → ℕ → ℕ
first_from t k zero = k
first_from t k (suc n) = cond (t k) k (first_from t (suc k) n)

-- the first number below n at which t holds, or n where there is none
abbrev pub first : (ℕ → Bool) → ℕ → ℕ
first t n = first_from t 0 n

-- the same, or nothing where there is none
abbrev pub found : (ℕ → Bool) → ℕ → Option ℕ
found t n = cond (ltb (first t n) n) (Some (first t n)) None

-- the last number below n at which t holds, or `none`
unfoldable pub last_or : (ℕ → Bool) → ℕ → ℕ → ℕ
last_or t none zero = none
last_or t none (suc k) = cond (t k) k (last_or t none k)

-- the last number below n at which t holds, or n where there is none
abbrev pub final : (ℕ → Bool) → ℕ → ℕ
final t n = last_or t n n
