-- The text that `listing` and `listing_dates` print, as bytes (docs/RULES.md, "The listing"); `why` prints its refusals so, too.
use Rattle.std.specs.Prelude.{ℕ, zero, suc, List, [], ◌++◌, ℤ, pos, get_or}
use Rattle.text.specs.Ascii.{ascii}
use Rattle.text.specs.Text.{decimal, word_line}

-- the line of the pair at position i: position, sequence, and in the third field what `third` makes of the second; single spaces
unfoldable pub line : (ℤ → List ℕ) → ℕ → ℕ → ℤ → List ℕ
line third i seq sec = decimal i ++ ascii " " ++ decimal seq ++ ascii " " ++ third sec ++ ascii "\n"

-- the lines of the first n pairs
unfoldable pub lines : (ℤ → List ℕ) → List ℕ → List ℤ → ℕ → List ℕ
lines third seqs secs zero = []
lines third seqs secs (suc n) = lines third seqs secs n ++ line third n (get_or seqs n 0) (get_or secs n (pos 0))

-- `entries` and the count n, then a line for each of the first n pairs
unfoldable pub entries_text : (ℤ → List ℕ) → List ℕ → List ℤ → ℕ → List ℕ
entries_text third seqs secs n = word_line (ascii "entries ") n ++ lines third seqs secs n

-- `refused` and the number n
unfoldable pub refused_text : ℕ → List ℕ
refused_text n = word_line (ascii "refused ") n
