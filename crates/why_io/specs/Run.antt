-- What `why` prints for an input.
use Rattle.std.specs.Prelude.{ℕ, ◌≡◌, List}
use Rattle.why_text.specs.Text.{why_text}

abbrev pub Explaining : List ℕ → List ℕ → Type 0
Explaining input text = text ≡ why_text input
