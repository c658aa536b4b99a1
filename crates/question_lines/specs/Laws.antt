-- What holds of questions and their lines. Proved in proofs/Laws.antt.
use Rattle.std.specs.Prelude.{ℕ, ◌^◌, ◌<◌, ◌≡◌, List, ◌++◌, Option}
use Rattle.std.specs.Int.{w64}
use Rattle.std.proofs.Common.{SFits}
use Rattle.text.specs.Ascii.{ascii}
use Rattle.text.specs.Text.{decimal, signed_decimal}
use Rattle.lookup.specs.declared.FindOption.{FindOption}
use Rattle.lookup.specs.declared.FindOption.TheVariants.{RoundUp, RoundDown}
use Rattle.gorilla.specs.Parser.{read}
use Rattle.question_lines.specs.declared.Question.{Question}
use Rattle.question_lines.specs.declared.Question.TheVariants.{BySeq, ByTime}
use Rattle.question_lines.specs.Grammar.{question}
use Rattle.question_lines.specs.Line.{LineAt}

abbrev pub ending_of : FindOption → List ℕ
ending_of RoundUp = ascii " up\n"
ending_of RoundDown = ascii " down\n"

-- the line of a question, its number written as a listing writes it
abbrev pub line_of : Question → List ℕ
line_of (BySeq seq option) = ascii "seq " ++ decimal seq.0 ++ ending_of option
line_of (ByTime ts option) = ascii "time " ++ signed_decimal ts.0 ++ ending_of option

-- its number is one of 64 bits, as every `Seq` and every `Second` of the code is
abbrev pub Numbered : Question → Type 0
Numbered (BySeq seq option) = seq.0 < 2 ^ 64
Numbered (ByTime ts option) = SFits w64 ts.0

pub record QuestionLines : Type 0 where
  -- each question has a line: it reads back, and whatever bytes follow it are left as they are
  pub reads_back : (q : Question) → Numbered q → (rest : List ℕ) → question (line_of q ++ rest) ≡ read q rest
  -- no second answer fits what `question_of` promises
  pub one_line : (s : List ℕ) (a b : Option (Question × List ℕ)) → LineAt s (question s) a → LineAt s (question s) b → a ≡ b
