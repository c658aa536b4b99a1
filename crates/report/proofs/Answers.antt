-- The text of what the list reader answered. Assumes nothing.
use Prim.Native.Nat.{ℕ, ◌+◌, ◌≤◌, ◌<◌, min}
use native.Mathlib.Omega.{arith}
use mathlib.Core.Path.{◌≡◌, refl, sym, ap, ap₂, ◌∙◌}
use mathlib.Core.Bool.{Bool}
use mathlib.Core.List.{List, ◌++◌}
use lib.Dec.{leb}
use lib.IntN.{ℤ}
use lib.ListN.{length, take, drop}
use lib.Seq.{sets-eq, take-append_seam}
use borrow.Author.Tests.{lt-ltb, le-ltb}
use Rattle.std.specs.Prelude.{Ok, Err}
use Rattle.told.specs.Told.{gave}
use Rattle.told.specs.Told as told
use Rattle.told.proofs.Unique.{given_not_refused, same-list, same_gift}
use Rattle.gorilla.specs.Parser.{Read, read, refused}
use Rattle.gorilla.specs.Reading.{Pairs, read_image}
use Rattle.gorilla.proofs.Counts.{image_counts}
use Rattle.code_reader.specs.Refusal.{told}
use Rattle.code_reader.specs.declared.Refusal.{Refusal}
use Rattle.decoder.specs.Decode.{Decodes, listed, count_of}
use Rattle.decoder.proofs.Stored.{seqs_over, secs_over}
use Rattle.text.specs.Inner.{Put}
use Rattle.text.specs.Text.{Stands}
use Rattle.report.specs.Lines.{refused_text}
use Rattle.report.specs.Listing.{number_of, input_read}
use Rattle.report.specs.Inner.{pairs_text, read_by, listing_by}

-- ---- a whole text, put at the start
pub whole : {out text new : List ℕ} {p : ℕ} → Put out 0 text new p → length text ≤ length out → Stands text out p new
whole {out} {text} {new} {p} f h =
    let e : 0 + length text ≡ length text = omega arith in
    (omega (arith, f.ends), f.bytes ∙ sets-eq text out 0 (omega arith) ∙ ap (λ (k : ℕ). text ++ drop k out) e)

-- ---- the whole rule, by what stands in the third field
module _ (third : ℤ → List ℕ) (some_lacks : List ℤ → Bool) where
  pub too_long_lem : (input : List ℕ) → 16384 < length input → listing_by third some_lacks input ≡ refused_text 22
  unfolding listing_by
  too_long_lem input h = rw (lt-ltb _ _ h)

  not_long : (input : List ℕ) → length input ≤ 16384 → listing_by third some_lacks input ≡ read_by third some_lacks (input_read input)
  unfolding listing_by
  not_long input h = rw (le-ltb _ _ h)

  -- the pairs that were answered stand at the start of the arrays
  counted : (m : Read Pairs) (n : ℕ) (s s₀ : List ℕ) (t t₀ : List ℤ) → ((p : Pairs) (left : List ℕ) → m ≡ read p left → length p.seqs ≡ length p.secs)
      → gave n ≡ count_of m → s ≡ seqs_over s₀ m → t ≡ secs_over t₀ m → pairs_text third some_lacks (take n s) (take n t) ≡ read_by third some_lacks m
  counted (read p left) n s s₀ t t₀ g h hs ht =
      let e : n ≡ length p.secs = same_gift h in
      let f : n ≡ length p.seqs = e ∙ sym (g p left refl) in
      let a : take n s ≡ p.seqs = rw (hs, f) (take-append_seam p.seqs (drop (length p.seqs) s₀)) in
      let b : take n t ≡ p.secs = rw (ht, e) (take-append_seam p.secs (drop (length p.secs) t₀)) in
      ap₂ (pairs_text third some_lacks) a b
  counted (refused k) n s s₀ t t₀ g h hs ht = given_not_refused h

  refused-is : (m : Read Pairs) (l : List ℕ) → told.refused l ≡ count_of m → refused_text (number_of l) ≡ read_by third some_lacks m
  refused-is (read p left) l h = given_not_refused (sym h)
  refused-is (refused k) l h = ap (λ (x : List ℕ). refused_text (number_of x)) (same-list h)

  listed_is : (input s₀ : List ℕ) (t₀ : List ℤ) → length s₀ ≡ 1024 → length t₀ ≡ 1024 → listed input s₀ t₀ ≡ input_read input
  unfolding listed
  listed_is input s₀ t₀ ls lt =
      let e : min (length s₀) (length t₀) ≡ 1024 = rw (ls, lt) in
      ap (λ (k : ℕ). read_image (λ n. leb n k) input) e

  module _ (input s₀ s : List ℕ) (t₀ t : List ℤ) (ls : length s₀ ≡ 1024) (lt : length t₀ ≡ 1024) (few : length input ≤ 16384) where
    pub listing_counted : (n : ℕ) → Decodes input s₀ t₀ (Ok n) s t → pairs_text third some_lacks (take n s) (take n t) ≡ listing_by third some_lacks input
    listing_counted n k =
        let e = listed_is input s₀ t₀ ls lt in
        counted (listed input s₀ t₀) n s s₀ t t₀ (λ p left r. (image_counts (λ n. leb n 1024) input (sym e ∙ r)).0) k.0 k.1 k.2
        ∙ ap (read_by third some_lacks) e ∙ sym (not_long input few)

    pub listing_refused : (r : Refusal) → Decodes input s₀ t₀ (Err r) s t → refused_text (number_of (told r)) ≡ listing_by third some_lacks input
    listing_refused r k =
        let e = listed_is input s₀ t₀ ls lt in
        refused-is (listed input s₀ t₀) (told r) k.0 ∙ ap (read_by third some_lacks) e ∙ sym (not_long input few)
