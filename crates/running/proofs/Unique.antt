-- The text buffer after a run follows from the answer and the input buffer. Assumes nothing.
use mathlib.Core.Path.{◌≡◌, sym, ap, ◌∙◌}
use mathlib.Core.Bool.{Bool, true, false, cond}
use mathlib.Core.List.{List}
use lib.ListN.{take}
use Prim.Native.Nat.{ℕ}
use Rattle.told.specs.Over.{over}
use Rattle.input.specs.Input.{failed}
use Rattle.running.specs.Run.{Ran}
use Rattle.input.specs.declared.once.Over.{Over}

-- a program that prints one text for an input: two runs that read the same leave the same text
pub one_ran : (Prints : List ℕ → List ℕ → Type 0) → ((input t u : List ℕ) → Prints input t → Prints input u → t ≡ u)
    → (o : Over) (input old x y : List ℕ) → Ran Prints o input old x → Ran Prints o input old y → x ≡ y
one_ran Prints one o input old x y h k = go (failed o) h.1 k.1
  where
    go : (b : Bool) → cond b (x ≡ old) ((t : List ℕ) × Prints (take o.bytes input) t × (x ≡ over t old))
        → cond b (y ≡ old) ((u : List ℕ) × Prints (take o.bytes input) u × (y ≡ over u old)) → x ≡ y
    go true h k = h ∙ sym k
    go false h k = h.2 ∙ ap (λ (v : List ℕ). over v old) (one (take o.bytes input) h.0 k.0 h.1 k.1) ∙ sym k.2
