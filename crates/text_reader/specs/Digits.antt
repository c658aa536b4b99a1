-- Digits at the start of a text, and the number that they make. It is any number: how great it may be is asked where it is read.
use Rattle.std.specs.Prelude.{ℕ, ◌+◌, ◌-◌, ◌*◌, Bool, cond, ◌&&◌, List, [], ◌∷◌, leb}
use Prim.Native.Char.{code}
use Rattle.gorilla.specs.Parser.{read, refused, Reader}

unfoldable pub is_digit : ℕ → Bool
is_digit x = leb (code "0") x && leb x (code "9")

-- all digits from here on, which follow those of the number n: each makes it ten times as great, and adds itself
unfoldable pub more_of : ℕ → Reader ℕ
more_of n [] = read n []
more_of n (x ∷ s) = cond (is_digit x) (more_of (n * 10 + (x - code "0")) s) (read n (x ∷ s))

-- 1*DIGIT: one or more digits, all that stand here, and zeros may come first; refused with l where none stands
unfoldable pub digits : List ℕ → Reader ℕ
digits l [] = refused l
digits l (x ∷ s) = cond (is_digit x) (more_of 0 (x ∷ s)) (refused l)
