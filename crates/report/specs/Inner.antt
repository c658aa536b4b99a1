-- What our own functions promise each other. No public statement cites this file.
use Rattle.std.specs.Prelude.{ℕ, ◌<◌, ◌≡◌, Bool, false, cond, List, ℤ, pos, length, get_or}
use Rattle.gorilla.specs.Parser.{Read, read, refused}
use Rattle.gorilla.specs.Reading.{Pairs}
use Rattle.report.specs.Lines.{entries_text, refused_text}
use Rattle.report.specs.Listing.{number_of, too_long, input_read}

-- each of the seconds has a text for the third field
abbrev pub NoneLacks : (ℤ → Bool) → List ℤ → Type 0
NoneLacks lacks secs = (i : ℕ) → i < length secs → lacks (get_or secs i (pos 0)) ≡ false

-- both listings as one function, as the code finds them, by what stands in the third field and by whether a second has no such text

-- the pairs
abbrev pub pairs_text : (ℤ → List ℕ) → (List ℤ → Bool) → List ℕ → List ℤ → List ℕ
pairs_text third some_lacks seqs secs = cond (some_lacks secs) (refused_text 27) (entries_text third seqs secs (length secs))

-- what the list reader reads
abbrev pub read_by : (ℤ → List ℕ) → (List ℤ → Bool) → Read Pairs → List ℕ
read_by third some_lacks (read p left) = pairs_text third some_lacks p.seqs p.secs
read_by third some_lacks (refused told) = refused_text (number_of told)

-- the whole input
unfoldable pub listing_by : (ℤ → List ℕ) → (List ℤ → Bool) → List ℕ → List ℕ
listing_by third some_lacks input = cond (too_long input) (refused_text 22) (read_by third some_lacks (input_read input))
