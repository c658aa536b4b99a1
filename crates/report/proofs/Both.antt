-- Both listings, from the one function that the code goes by. Assumes nothing.
use Prim.Native.Nat.{ℕ}
use mathlib.Core.Path.{◌≡◌, refl}
use mathlib.Core.Bool.{Bool, true, false, cond}
use mathlib.Core.List.{List}
use lib.IntN.{pos}
use lib.ListN.{length, get_or}
use Rattle.gorilla.specs.Parser.{Read, read, refused}
use Rattle.gorilla.specs.Reading.{Pairs}
use Rattle.text.specs.Text.{signed_decimal}
use Rattle.date_writer.specs.Inner.{date_text}
use Rattle.date_writer.proofs.Texts.{dated_text}
use Rattle.report.specs.Lines.{entries_text, refused_text}
use Rattle.report.specs.Listing.{too_long, input_read, read_text, listing_of}
use Rattle.report.specs.Dated.{some_outside, DatedPairs, DatedText, DatedListing}
use Rattle.report.specs.Thirds.{all-dated}
use Rattle.report.specs.Inner.{read_by, listing_by}

pub with_seconds : (input : List ℕ) → listing_by signed_decimal (λ secs. false) input ≡ listing_of input
unfolding listing_by listing_of
with_seconds input = rw (same (input_read input))
  where
    same : (m : Read Pairs) → read_by signed_decimal (λ secs. false) m ≡ read_text m
    same (read p left) = refl
    same (refused told) = refl

-- a text told by a test, which is the text by that test
abbrev Told : Bool → (List ℕ → Type 0) → ℕ → List ℕ → Type 0
Told b Else number text = cond b (text ≡ refused_text number) (Else text)

by_test : (b : Bool) (Else : List ℕ → Type 0) (number : ℕ) (text : List ℕ) → (b ≡ false → Else text) → Told b Else number (cond b (refused_text number) text)
by_test true Else number text h = refl
by_test false Else number text h = h refl

dated-pairs : (p : Pairs) → some_outside p.secs (length p.secs) ≡ false → DatedPairs p (entries_text date_text p.seqs p.secs (length p.secs))
dated-pairs p e = (date_text, λ i l. dated_text (get_or p.secs i (pos 0)) (all-dated p.secs e i l), refl)

dated-read : (m : Read Pairs) → DatedText m (read_by date_text (λ secs. some_outside secs (length secs)) m)
dated-read (read p left) = by_test (some_outside p.secs (length p.secs)) (DatedPairs p) 27 _ (dated-pairs p)
dated-read (refused told) = refl

pub with-dates : (input : List ℕ) → DatedListing input (listing_by date_text (λ secs. some_outside secs (length secs)) input)
unfolding listing_by DatedListing
with-dates input = by_test (too_long input) (DatedText (input_read input)) 22 _ (λ e. dated-read (input_read input))
