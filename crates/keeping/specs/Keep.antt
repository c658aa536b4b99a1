-- What recording a pair leaves of the elements that the table keeps in an array, whatever they are.
use Rattle.std.specs.Prelude.{ℕ, cond, List, [], ◌∷◌, ◌++◌, ltb, length, take}
use Rattle.tracker.specs.declared.SequenceTracker.{SequenceTracker}

-- the elements at the even positions, counted from 0
unfoldable pub evens : {A : Type 0} → List A → List A
evens [] = []
evens (a ∷ []) = a ∷ []
evens (a ∷ b ∷ l) = a ∷ evens l

-- the first n elements, and x appended
abbrev pub appended : {A : Type 0} → ℕ → List A → A → List A
appended n xs x = take n xs ++ (x ∷ [])

-- if more than capacity stand, only the even positions stay
abbrev pub thinned : {A : Type 0} → ℕ → List A → List A
thinned capacity l = cond (ltb capacity (length l)) (evens l) l

-- what the table keeps once x is recorded
abbrev pub kept_with : {A : Type 0} → SequenceTracker → List A → A → List A
kept_with table xs x = thinned table.capacity (appended table.count xs x)
