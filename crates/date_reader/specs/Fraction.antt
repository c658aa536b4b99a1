-- What the law on fractions (dates/specs/Laws.antt: `Dates`) is said with.
use Rattle.std.specs.Prelude.{ℕ, Bool, true, not, ◌&&◌, List, [], ◌∷◌, eqb}
use Prim.Native.Char.{code}
use Rattle.text_reader.specs.Digits.{is_digit}

-- digits alone
unfoldable pub all_digits : List ℕ → Bool
all_digits [] = true
all_digits (x ∷ s) = is_digit x && all_digits s

-- neither a digit nor a point stands first
unfoldable pub other_first : List ℕ → Bool
other_first [] = true
other_first (x ∷ s) = not (is_digit x) && not (eqb x (code "."))
