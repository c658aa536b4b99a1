-- What the calls of dates tell: what they give, or the refusal's number and what it also tells.
use Rattle.std.specs.Prelude.{ℕ, List, [], ◌∷◌, Result, Ok, Err, ℤ}
use Rattle.told.specs.Told.{Told, gave, refused, told_by}
use Rattle.tracker.specs.declared.Second.{Second}
use Rattle.dates.specs.declared.Refusal.{Refusal}
use Rattle.dates.specs.declared.Refusal.TheVariants as refusal

abbrev pub told : Refusal → List ℕ
told refusal.NotTheGrammar = 25 ∷ []
told refusal.NoSuchTime = 26 ∷ []
told refusal.Outside = 27 ∷ []
told (refusal.Room bytes) = 21 ∷ bytes ∷ []

-- the bytes that were written
abbrev pub told_written : Result ℕ Refusal → Told ℕ
told_written = told_by told

-- the second
abbrev pub told_read : Result Second Refusal → Told ℤ
told_read (Ok s) = gave s.0
told_read (Err r) = refused (told r)
