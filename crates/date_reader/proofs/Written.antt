-- A text that is written as one of the grammar is read as it was written. Assumes nothing.
use mathlib.Core.Path.{◌≡◌, ap}
use mathlib.Core.List.{List, ◌∷◌}
use Prim.Native.Nat.{ℕ, ◌+◌, ◌-◌, ◌*◌, ◌/◌, ◌%◌, ◌<◌}
use native.Mathlib.Omega.{arith}
use Rattle.gorilla.specs.Parser.{read}
use Rattle.text_reader.proofs.Numbers.{is_digit_lem}
use Rattle.date_reader.specs.Grammar.{more_digits, number}

-- two digits
pub two-read : (n : ℕ) (s : List ℕ) → n < 100 → number 2 ((48 + n / 10) ∷ (48 + n % 10) ∷ s) ≡ read n s
unfolding more_digits
two-read n s h =
    let e : (0 * 10 + (48 + n / 10 - 48)) * 10 + (48 + n % 10 - 48) ≡ n = omega arith in
    rw (is_digit_lem (48 + n / 10) (omega arith) (omega arith), is_digit_lem (48 + n % 10) (omega arith) (omega arith)) (ap (λ (k : ℕ). read k s) e)

-- and four
pub four-read : (n : ℕ) (s : List ℕ) → n < 10000
    → number 4 ((48 + n / 100 / 10) ∷ (48 + n / 100 % 10) ∷ (48 + n % 100 / 10) ∷ (48 + n % 100 % 10) ∷ s) ≡ read n s
unfolding more_digits
four-read n s h =
    let e : (((0 * 10 + (48 + n / 100 / 10 - 48)) * 10 + (48 + n / 100 % 10 - 48)) * 10 + (48 + n % 100 / 10 - 48)) * 10 + (48 + n % 100 % 10 - 48) ≡ n = omega arith in
    rw (
      is_digit_lem (48 + n / 100 / 10) (omega arith) (omega arith),
      is_digit_lem (48 + n / 100 % 10) (omega arith) (omega arith),
      is_digit_lem (48 + n % 100 / 10) (omega arith) (omega arith),
      is_digit_lem (48 + n % 100 % 10) (omega arith) (omega arith),
    )
    (ap (λ (k : ℕ). read k s) e)
