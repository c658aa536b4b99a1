-- What holds of questions and their lines. Assumes nothing.
use mathlib.Core.Path.{◌≡◌, refl, sym, ◌∙◌}
use mathlib.Core.List.{List}
use Prim.Native.Nat.{ℕ}
use Rattle.std.specs.Prelude.{Option, Some, None}
use Rattle.gorilla.specs.Parser.{Read, read}
use Rattle.gorilla.proofs.Readers.{refused_not_read}
use Rattle.question_lines.specs.declared.Question.{Question}
use Rattle.question_lines.specs.Grammar.{question}
use Rattle.question_lines.specs.Line.{LineAt}
use Rattle.question_lines.specs.Laws.{QuestionLines}
use Rattle.question_lines.proofs.Written.{line_read}

one_line : (s : List ℕ) (m : Read Question) (a b : Option (Question × List ℕ)) → LineAt s m a → LineAt s m b → a ≡ b
one_line s m (Some (q, t)) (Some (r, u)) f g = let e : read q t ≡ read r u = sym f.0 ∙ g.0 in cc
one_line s m (Some (q, t)) None f g = refused_not_read (sym g ∙ f.0)
one_line s m None (Some (q, t)) f g = refused_not_read (sym f ∙ g.0)
one_line s m None None f g = refl

pub question-lines : QuestionLines
question-lines = record {
  reads_back = line_read;
  one_line = λ s. one_line s (question s);
}
