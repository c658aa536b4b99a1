-- What `why` prints for its input (docs/RULES.md, "The program why").
use Rattle.std.specs.Prelude.{ℕ, cond, List, ltb, ℤ, pos, length, replicate}
use Rattle.told.specs.Told.{Told, gave, refused}
use Rattle.told.specs.Over.{filled}
use Rattle.text.specs.Text.{decimal, signed_decimal}
use Rattle.gorilla.specs.Parser.{Read, read}
use Rattle.gorilla.specs.Parser as parser
use Rattle.gorilla.specs.Reading.{pairs_read}
use Rattle.tracker.specs.declared.SequenceTracker.{SequenceTracker}
use Rattle.restoring.specs.Restore.{read_table, restore_of}
use Rattle.report.specs.Lines.{refused_text}
use Rattle.report.specs.Listing.{number_of}
use Rattle.question_lines.specs.Grammar.{question}
use Rattle.question_lines.specs.declared.Question.{Question}
use Rattle.question_lines.specs.declared.Question.TheVariants.{BySeq, ByTime}
use Rattle.explaining.specs.Why.{Why, why_ts, why_seq}
use Rattle.why_text.specs.Words.{why_line}

-- the reason and the answer in a line, or `refused` and the number
abbrev pub told_text : {A : Type 0} → (A → List ℕ) → Told (Why A) → List ℕ
told_text number (gave w) = why_line number w
told_text number (refused told) = refused_text (number_of told)

-- a question asked of a table: a second is answered as a number, a minus before negatives, and a sequence as a number
abbrev pub asked_text : Question → SequenceTracker → List ℕ → List ℤ → List ℕ
asked_text (BySeq seq opt) table seqs secs = told_text (λ s. signed_decimal s.0) (why_ts table seqs secs seq opt)
asked_text (ByTime ts opt) table seqs secs = told_text (λ q. decimal q.0) (why_seq table seqs secs ts opt)

-- of what a restore told, with the arrays that it left
abbrev pub restored_text : Question → Told SequenceTracker → List ℕ → List ℤ → List ℕ
restored_text q (gave table) seqs secs = asked_text q table seqs secs
restored_text q (refused told) seqs secs = refused_text (number_of told)

-- the arrays into which the program restores: 8,192 zeros
abbrev pub own_seqs : List ℕ
own_seqs = replicate 8192 0

abbrev pub own_secs : List ℤ
own_secs = replicate 8192 (pos 0)

-- an image, restored at the default interval, and asked
abbrev pub restored_from : List ℕ → Told SequenceTracker
restored_from image = restore_of image own_seqs own_secs

abbrev pub seqs_from : List ℕ → List ℕ
seqs_from image = filled (restored_from image) (pairs_read (read_table image)).seqs own_seqs

abbrev pub secs_from : List ℕ → List ℤ
secs_from image = filled (restored_from image) (pairs_read (read_table image)).secs own_secs

unfoldable pub image_text : Question → List ℕ → List ℕ
image_text q image = restored_text q (restored_from image) (seqs_from image) (secs_from image)

-- the question's line, and the image that follows it; 36 where the line is not of its form
abbrev pub line_text : Read Question → List ℕ
line_text (read q image) = image_text q image
line_text (parser.refused told) = refused_text (number_of told)

-- 22, above 65,536 bytes, before all others
unfoldable pub why_text : List ℕ → List ℕ
why_text input = cond (ltb 65536 (length input)) (refused_text 22) (line_text (question input))
