-- No second answer fits a statement: the answer can be had back from what is told.
use mathlib.Core.Path.{◌≡◌, sym, ◌∙◌}
use Rattle.std.specs.Prelude.{Result}
use Rattle.tracker.specs.Refusal.{told_made}
use Rattle.tracker.specs.declared.Refusal.{Refusal}
use Rattle.tracker.specs.declared.SequenceTracker.{SequenceTracker}
use Rattle.tracker.proofs.Unique.{one_told}
use Rattle.fresh.specs.Fresh.{new_table}

-- `new` names its answer
pub one-new : (a b : SequenceTracker) → a ≡ new_table → b ≡ new_table → a ≡ b
one-new a b e f = e ∙ sym f

pub one_made : (a b : Result SequenceTracker Refusal) → told_made a ≡ told_made b → a ≡ b
one_made = one_told
