-- The number of docs/RULES.md, "Refusals", and what it also tells, for each answer of the table's calls.
use Rattle.std.specs.Prelude.{ℕ, List, [], ◌∷◌, Result}
use Rattle.told.specs.Told.{Told, told_by}
use Rattle.tracker.specs.declared.Refusal.{Refusal}
use Rattle.tracker.specs.declared.Refusal.TheVariants.{Disagrees, SequenceDrops, SecondDrops, SecondOutside, Settings, OfferedOutside, OfferedDrops, TotalsFull}
use Rattle.tracker.specs.declared.SequenceTracker.{SequenceTracker}

abbrev pub told : Refusal → List ℕ
told (SequenceDrops i) = 11 ∷ i ∷ []
told (SecondDrops i) = 12 ∷ i ∷ []
told (SecondOutside i) = 13 ∷ i ∷ []
told Disagrees = 14 ∷ []
told Settings = 15 ∷ []
told OfferedOutside = 16 ∷ []
told OfferedDrops = 17 ∷ []
told TotalsFull = 31 ∷ []

-- what a check tells
abbrev pub told_check : Result (Unit {0}) Refusal → Told (Unit {0})
told_check = told_by told

-- what `with_config` tells
abbrev pub told_made : Result SequenceTracker Refusal → Told SequenceTracker
told_made = told_by told
