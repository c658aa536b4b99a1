-- The text buffer after a run follows from the answer and the input buffer. Assumes nothing.
use mathlib.Core.Path.{◌≡◌, sym, ◌∙◌}
use mathlib.Core.List.{List}
use Prim.Native.Nat.{ℕ}
use Rattle.running.specs.Run.{Ran}
use Rattle.running.proofs.Unique.{one_ran}
use Rattle.why_io.specs.Run.{Explaining}
use Rattle.input.specs.declared.once.Over.{Over}

pub one_run : (o : Over) (input old x y : List ℕ) → Ran Explaining o input old x → Ran Explaining o input old y → x ≡ y
one_run o input old x y h k = one_ran Explaining (λ i t u a b. a ∙ sym b) o input old x y h k
