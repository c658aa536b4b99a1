-- How long the texts are. Assumes nothing.
use Prim.Native.Nat.{ℕ, ◌≤◌}
use native.Mathlib.Omega.{arith}
use mathlib.Core.List.{List}
use lib.IntN.{ℤ}
use lib.ListN.{length, length-append}
use Rattle.told.specs.Told.{Told, gave, refused}
use Rattle.text.specs.Text.{decimal, signed_decimal}
use Rattle.text.proofs.Numbers.{decimal-length, signed-length}
use Rattle.report.specs.Listing.{number_of}
use Rattle.report.proofs.Lengths.{refused-length}
use Rattle.tracker.specs.declared.SequenceTracker.{SequenceTracker}
use Rattle.lookup.specs.Find.{Partner, partner, nothing}
use Rattle.question_lines.specs.declared.Question.{Question}
use Rattle.question_lines.specs.declared.Question.TheVariants.{BySeq, ByTime}
use Rattle.explaining.specs.Why.{Why, why_ts, why_seq}
use Rattle.std.specs.Prelude.{Option, Some, None}
use Rattle.explaining.specs.declared.Reason.{Reason}
use Rattle.explaining.specs.declared.Reason.TheVariants.{Exact, RoundedUp, RoundedDown, BeforeFirst, AfterLast, Empty}
use Rattle.why_text.specs.Words.{neighbour_text, reason_text, answer_text}
use Rattle.why_text.specs.Text.{told_text, asked_text, restored_text, restored_from, seqs_from, secs_from, image_text}

pub neighbour_length : (p : Option ℕ) → length (neighbour_text p) ≤ 20
neighbour_length (Some p) = decimal-length p
neighbour_length None = omega arith

pub reason-length : (r : Reason) → length (reason_text r) ≤ 64
reason-length (Exact p) = simp length-append (omega (arith, decimal-length p))
reason-length (RoundedUp below above) = simp length-append (omega (arith, neighbour_length below, decimal-length above))
reason-length (RoundedDown below above) = simp length-append (omega (arith, decimal-length below, neighbour_length above))
reason-length BeforeFirst = omega arith
reason-length AfterLast = omega arith
reason-length Empty = omega arith

module _ {A : Type 0} (number : A → List ℕ) (short : (a : A) → length (number a) ≤ 21) where
  pub answer-length : (a : Partner A) → length (answer_text number a) ≤ 21
  answer-length (partner a) = short a
  answer-length nothing = omega arith

  told-length : (t : Told (Why A)) → length (told_text number t) ≤ 128
  told-length (gave w) = simp length-append (omega (arith, reason-length w.reason, answer-length w.answer))
  told-length (refused told) = omega (arith, refused-length (number_of told))

asked_length : (q : Question) (table : SequenceTracker) (seqs : List ℕ) (secs : List ℤ) → length (asked_text q table seqs secs) ≤ 128
asked_length (BySeq seq opt) table seqs secs = told-length (λ s. signed_decimal s.0) (λ s. signed-length s.0) (why_ts table seqs secs seq opt)
asked_length (ByTime ts opt) table seqs secs = told-length (λ q. decimal q.0) (λ q. omega (arith, decimal-length q.0)) (why_seq table seqs secs ts opt)

restored_length : (q : Question) (t : Told SequenceTracker) (seqs : List ℕ) (secs : List ℤ) → length (restored_text q t seqs secs) ≤ 128
restored_length q (gave table) seqs secs = asked_length q table seqs secs
restored_length q (refused told) seqs secs = omega (arith, refused-length (number_of told))

pub image_length : (q : Question) (image : List ℕ) → length (image_text q image) ≤ 128
unfolding image_text
image_length q image = restored_length q (restored_from image) (seqs_from image) (secs_from image)
