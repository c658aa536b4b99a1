-- No second outcome fits the statement of `why`.
use Prim.Native.Nat.{ℕ}
use mathlib.Core.Path.{◌≡◌, sym, ◌∙◌}
use mathlib.Core.List.{List}
use Rattle.text.specs.Text.{Stands}
use Rattle.why_text.specs.Text.{why_text}

pub one_text : (input old : List ℕ) (m n : ℕ) (x y : List ℕ) → Stands (why_text input) old m x → Stands (why_text input) old n y → (m ≡ n) × (x ≡ y)
one_text input old m n x y h k = (h.0 ∙ sym k.0, h.1 ∙ sym k.1)
