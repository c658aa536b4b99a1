-- What `listing` prints for its input (docs/RULES.md, "The listing").
use Rattle.std.specs.Prelude.{ℕ, Bool, cond, List, leb, ltb, length, get_or}
use Rattle.gorilla.specs.Parser.{Read, read, refused}
use Rattle.gorilla.specs.Reading.{Pairs, read_image}
use Rattle.text.specs.Text.{signed_decimal}
use Rattle.report.specs.Lines.{entries_text, refused_text}

-- of a refusal the number only, not what it also tells
abbrev pub number_of : List ℕ → ℕ
number_of told = get_or told 0 0

-- 22: above 16,384 bytes
abbrev pub too_long : List ℕ → Bool
too_long input = ltb 16384 (length input)

-- what the list reader reads into room for 1,024 pairs
abbrev pub input_read : List ℕ → Read Pairs
input_read input = read_image (λ n. leb n 1024) input

-- `entries` and the pairs, the seconds in decimal, or `refused` and the number
abbrev pub read_text : Read Pairs → List ℕ
read_text (read p left) = entries_text signed_decimal p.seqs p.secs (length p.secs)
read_text (refused told) = refused_text (number_of told)

-- 22, before all others; else what the list reader reads
unfoldable pub listing_of : List ℕ → List ℕ
listing_of input = cond (too_long input) (refused_text 22) (read_text (input_read input))
