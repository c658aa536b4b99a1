-- What a call on many questions tells, and what follows from it.
use Rattle.std.specs.Prelude.{ℕ, List, [], ◌∷◌, Result}
use Rattle.told.specs.Told.{Told, gave, refused, told_by}
use Rattle.tracker.specs.Refusal as table
use Rattle.questions.specs.declared.Refusal.{Refusal}
use Rattle.questions.specs.declared.Refusal.TheVariants.{TooMany, LengthsDiffer, Table}

abbrev pub told : Refusal → List ℕ
told TooMany = 35 ∷ []
told LengthsDiffer = 18 ∷ []
told (Table r) = table.told r

abbrev pub told_asked : Result (Unit {0}) Refusal → Told (Unit {0})
told_asked = told_by told

-- not refused, `done` holds; refused, `same` does
abbrev pub IfDone : Told (Unit {0}) → Type 0 → Type 0 → Type 0
IfDone (gave _) done same = done
IfDone (refused what) done same = same
