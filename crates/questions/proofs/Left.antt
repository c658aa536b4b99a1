-- What is left of what a call on many questions tells.
use mathlib.Core.Path.{◌≡◌, sym, ◌∙◌, ap, subst}
use Rattle.std.specs.Prelude.{Result, Ok}
use Rattle.told.specs.Told.{Told}
use Rattle.questions.specs.Asked.{told_asked, IfDone}
use Rattle.questions.specs.declared.Refusal.{Refusal}

module _ (rule : Told (Unit {0})) (done same : Type 0) where
  pub if_done : (a : Result (Unit {0}) Refusal) → a ≡ Ok tt → told_asked a ≡ rule → done → IfDone rule done same
  if_done a e f d = subst (λ (r : Told (Unit {0})). IfDone r done same) (ap told_asked (sym e) ∙ f) d
