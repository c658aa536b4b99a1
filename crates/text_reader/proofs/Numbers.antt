-- What is read where a digit stands, or none. Assumes nothing.
use mathlib.Core.Path.{◌≡◌, refl, ap}
use mathlib.Core.Bool.{true}
use mathlib.Core.List.{List, [], ◌∷◌}
use Prim.Native.Nat.{ℕ, ◌+◌, ◌-◌, ◌*◌, ◌≤◌}
use native.Mathlib.Omega.{arith}
use borrow.Author.Tests.{le-leb}
use Rattle.gorilla.specs.Parser.{read}
use Rattle.text_reader.specs.Digits.{is_digit, more_of, digits}
use Rattle.text_reader.specs.Inner.{Lacks}

pub is_digit_lem : (x : ℕ) → 48 ≤ x → x ≤ 57 → is_digit x ≡ true
unfolding is_digit
is_digit_lem x h k = rw (le-leb 48 x h, le-leb x 57 k)

pub more_there : (t rest : List ℕ) (d n : ℕ) → d ≤ 9 → t ≡ (48 + d) ∷ rest → more_of n t ≡ more_of (n * 10 + d) rest
unfolding more_of
more_there t rest d n h e =
    let f : 48 + d - 48 ≡ d = omega arith in
    rw e (rw (is_digit_lem (48 + d) (omega arith) (omega arith)) (ap (λ (x : ℕ). more_of (n * 10 + x) rest) f))

pub more_lacks : (t : List ℕ) (n : ℕ) → Lacks is_digit t → more_of n t ≡ read n t
unfolding more_of
more_lacks [] n h = refl
more_lacks (x ∷ t) n h = rw h

pub some-there : (t rest : List ℕ) (d : ℕ) → d ≤ 9 → t ≡ (48 + d) ∷ rest → (l : List ℕ) → digits l t ≡ more_of 0 t
unfolding digits
some-there t rest d h e l = rw e (rw (is_digit_lem (48 + d) (omega arith) (omega arith)))
