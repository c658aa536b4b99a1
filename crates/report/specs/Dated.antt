-- What `listing_dates` prints for its input (docs/RULES.md, "The listing"): a relation of input and text, since the text of a second's date is told
-- by one, `Dated`.
use Rattle.std.specs.Prelude.{ℕ, ◌≡◌, Bool, cond, List, ltb, ℤ, length}
use Rattle.order.specs.First.{first}
use Rattle.order.specs.Order.{sec_outside}
use Rattle.gorilla.specs.Parser.{Read, read, refused}
use Rattle.gorilla.specs.Reading.{Pairs}
use Rattle.text.specs.Text.{Stands}
use Rattle.date_writer.specs.DateText.{AllDated}
use Rattle.report.specs.Lines.{entries_text, refused_text}
use Rattle.report.specs.Listing.{number_of, too_long, input_read}

-- 27: one of the first n seconds is out of domain
abbrev pub some_outside : List ℤ → ℕ → Bool
some_outside secs n = ltb (first (sec_outside secs) n) n

-- the text is `entries` and the pairs, as `listing` has them but for the dates in the third field
abbrev pub DatedPairs : Pairs → List ℕ → Type 0
DatedPairs p text = (third : ℤ → List ℕ) × AllDated third p.secs × (text ≡ entries_text third p.seqs p.secs (length p.secs))

-- 27 alone, where one second has no date; else the pairs; or `refused` and the number
abbrev pub DatedText : Read Pairs → List ℕ → Type 0
DatedText (read p left) text = cond (some_outside p.secs (length p.secs)) (text ≡ refused_text 27) (DatedPairs p text)
DatedText (refused told) text = text ≡ refused_text (number_of told)

-- 22, before all others; else what the list reader reads
unfoldable pub DatedListing : List ℕ → List ℕ → Type 0
DatedListing input text = cond (too_long input) (text ≡ refused_text 22) (DatedText (input_read input) text)

-- such a text stands at the start of the buffer
abbrev pub ListsDates : List ℕ → List ℕ → ℕ → List ℕ → Type 0
ListsDates input old size new = (text : List ℕ) × DatedListing input text × Stands text old size new
