-- No second outcome fits. Assumes nothing.
use Prim.Native.Nat.{ℕ, zero, suc, ◌<◌}
use native.Mathlib.Omega.{arith}
use mathlib.Core.Path.{◌≡◌, refl, sym, ap, ◌∙◌}
use mathlib.Core.Bool.{Bool, true, false, cond}
use mathlib.Core.List.{List, ◌++◌}
use lib.IntN.{ℤ, pos}
use lib.ListN.{length, get_or}
use Rattle.told.specs.Over.{over}
use Rattle.gorilla.specs.Parser.{Read, read, refused}
use Rattle.gorilla.specs.Reading.{Pairs}
use Rattle.text.specs.Ascii.{ascii}
use Rattle.text.specs.Text.{word_line, Stands}
use Rattle.date_writer.proofs.Texts.{same_texts}
use Rattle.report.specs.Lines.{line, lines, entries_text, refused_text}
use Rattle.report.specs.Listing.{too_long, input_read, listing_of}
use Rattle.report.specs.Dated.{some_outside, DatedPairs, DatedText, DatedListing, ListsDates}

-- one text, in one buffer
one-standing : (out t u : List ℕ) (a b : ℕ) (x y : List ℕ) → t ≡ u → Stands t out a x → Stands u out b y → (a ≡ b) × (x ≡ y)
one-standing out t u a b x y e h k = (h.0 ∙ ap length e ∙ sym k.0, h.1 ∙ ap (λ (v : List ℕ). over v out) e ∙ sym k.1)

-- `listing`: its answer, and the buffer
pub one-listing : (input out : List ℕ) (a b : ℕ) (x y : List ℕ) → Stands (listing_of input) out a x → Stands (listing_of input) out b y → (a ≡ b) × (x ≡ y)
one-listing input out a b x y h k = one-standing out (listing_of input) (listing_of input) a b x y refl h k

-- ---- `listing_dates`
-- lines go by what stands in the third field for the seconds that are listed, and by nothing else of `third`
lines_same : (f g : ℤ → List ℕ) (seqs : List ℕ) (secs : List ℤ) (n : ℕ) → ((i : ℕ) → i < n → f (get_or secs i (pos 0)) ≡ g (get_or secs i (pos 0))) → lines f seqs secs n ≡ lines g seqs secs n
unfolding lines line
lines_same f g seqs secs zero same = refl
lines_same f g seqs secs (suc n) same = rw (lines_same f g seqs secs n (λ i l. same i (omega arith)), same n (omega arith))

one-pairs : (p : Pairs) (t u : List ℕ) → DatedPairs p t → DatedPairs p u → t ≡ u
unfolding entries_text
one-pairs p t u h k =
    let e = lines_same h.0 k.0 p.seqs p.secs (length p.secs) (same_texts h.0 k.0 p.secs h.1 k.1) in
    h.2 ∙ ap (λ (ls : List ℕ). word_line (ascii "entries ") (length p.secs) ++ ls) e ∙ sym k.2

-- no two texts fit one input
pub one-dated-listing : (input t u : List ℕ) → DatedListing input t → DatedListing input u → t ≡ u
unfolding DatedListing
one-dated-listing input t u = go (too_long input) (input_read input)
  where
    pairs : (b : Bool) (p : Pairs) → cond b (t ≡ refused_text 27) (DatedPairs p t) → cond b (u ≡ refused_text 27) (DatedPairs p u) → t ≡ u
    pairs true p h k = h ∙ sym k
    pairs false p h k = one-pairs p t u h k

    go : (b : Bool) (m : Read Pairs) → cond b (t ≡ refused_text 22) (DatedText m t) → cond b (u ≡ refused_text 22) (DatedText m u) → t ≡ u
    go true m h k = h ∙ sym k
    go false (read p left) h k = pairs (some_outside p.secs (length p.secs)) p h k
    go false (refused told) h k = h ∙ sym k

-- its answer, and the buffer
pub one-listing-dates : (input out : List ℕ) (a b : ℕ) (x y : List ℕ) → ListsDates input out a x → ListsDates input out b y → (a ≡ b) × (x ≡ y)
one-listing-dates input out a b x y h k = one-standing out h.0 k.0 a b x y (one-dated-listing input h.0 k.0 h.1 k.1) h.2 k.2
