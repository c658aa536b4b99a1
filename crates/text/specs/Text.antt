-- Numbers as text, as bytes (docs/RULES.md, "The listing"), and a text in the buffer that is printed.
use Rattle.std.specs.Prelude.{ℕ, zero, suc, ◌+◌, ◌/◌, ◌%◌, ◌≡◌, cond, List, [], ◌∷◌, ◌++◌, ltb, ℤ, pos, negsuc, length}
use Prim.Native.Char.{code}
use Rattle.told.specs.Over.{over}
use Rattle.text.specs.Ascii.{ascii}

-- a digit below 10
abbrev pub digit : ℕ → ℕ
digit d = code "0" + d

-- the decimal digits of n < 10 ^ k, the most significant first, with no zero before them
unfoldable pub digits : ℕ → ℕ → List ℕ
digits zero n = []
digits (suc k) n = cond (ltb n 10) (digit n ∷ []) (digits k (n / 10) ++ (digit (n % 10) ∷ []))

-- a number of 64 bits in decimal: it has 20 digits at most
unfoldable pub decimal : ℕ → List ℕ
decimal n = digits 20 n

-- a signed number in decimal: a minus before negatives; `negsuc n` is -(n + 1)
unfoldable pub signed_decimal : ℤ → List ℕ
signed_decimal (pos n) = decimal n
signed_decimal (negsuc n) = ascii "-" ++ decimal (suc n)

-- a line of a word, with its space, and a number
abbrev pub word_line : List ℕ → ℕ → List ℕ
word_line word n = word ++ decimal n ++ ascii "\n"

-- a text stands at the start of what the buffer `old` has become, `new`, whose rest is as before; `size` is its length
abbrev pub Stands : List ℕ → List ℕ → ℕ → List ℕ → Type 0
Stands text old size new = (size ≡ length text) × (new ≡ over text old)
