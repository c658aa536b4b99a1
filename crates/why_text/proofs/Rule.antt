-- The whole rule, step by step. Assumes nothing.
use Prim.Native.Nat.{ℕ, ◌≤◌, ◌<◌}
use mathlib.Core.Path.{◌≡◌}
use mathlib.Core.List.{List}
use lib.IntN.{ℤ}
use lib.ListN.{length}
use borrow.Author.Tests.{lt-ltb, le-ltb}
use Rattle.std.specs.Prelude.{Result}
use Rattle.report.specs.Lines.{refused_text}
use Rattle.gorilla.specs.Parser.{refused}
use Rattle.question_lines.specs.Grammar.{not_the_form, question}
use Rattle.question_lines.specs.Line.{ReadTo}
use Rattle.question_lines.specs.declared.Question.{Question}
use Rattle.restoring.specs.Restore.{told_restore, Restores}
use Rattle.restoring.specs.declared.Refusal.{Refusal}
use Rattle.tracker.specs.declared.SequenceTracker.{SequenceTracker}
use Rattle.why_text.specs.Text.{restored_text, own_seqs, own_secs, image_text, why_text}

-- what a restore answered and left makes the text
pub restored_text_lem : (q : Question) (image s₀ seqs : List ℕ) (t₀ secs : List ℤ) (r : Result SequenceTracker Refusal) → s₀ ≡ own_seqs → t₀ ≡ own_secs → Restores image s₀ t₀ r seqs secs
    → restored_text q (told_restore r) seqs secs ≡ image_text q image
unfolding image_text
restored_text_lem q image s₀ seqs t₀ secs r e f h = rw (h.1, h.2, h.0, e, f)

-- the line that was read, or none
module _ (input : List ℕ) (few : length input ≤ 65536) where
  pub asked_text_lem : (q : Question) (image : List ℕ) → ReadTo input (question input) q image → why_text input ≡ image_text q image
  unfolding why_text
  asked_text_lem q image h = rw (le-ltb 65536 (length input) few, h.0)

  pub unasked_text : question input ≡ refused not_the_form → why_text input ≡ refused_text 36
  unfolding why_text
  unasked_text h = rw (le-ltb 65536 (length input) few, h)

pub too_long_lem : (input : List ℕ) → 65536 < length input → why_text input ≡ refused_text 22
unfolding why_text
too_long_lem input l = rw (lt-ltb 65536 (length input) l)
