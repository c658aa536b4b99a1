-- The number of docs/RULES.md, "Refusals", for each refusal of a reader.
use Rattle.std.specs.Prelude.{ℕ, List, [], ◌∷◌}
use Rattle.gorilla.specs.Array.{array_no}
use Rattle.code_reader.specs.declared.Refusal.{Refusal}
use Rattle.code_reader.specs.declared.Refusal.TheVariants.{Empty, Version, Header, CountCut, TooMany, FirstCut, CodeEnd, PrefixCut, DiffCut, CountDiffers}

-- its number, and what that number also tells: the byte and the bit of a place come last
abbrev pub told : Refusal → List ℕ
told Empty = 1 ∷ []
told (Version byte) = 2 ∷ byte ∷ []
told Header = 3 ∷ []
told (CountCut a at) = 4 ∷ array_no a ∷ at.byte ∷ at.bit ∷ []
told (FirstCut a at) = 5 ∷ array_no a ∷ at.byte ∷ at.bit ∷ []
told (CodeEnd a i at) = 6 ∷ array_no a ∷ i ∷ at.byte ∷ at.bit ∷ []
told (PrefixCut a i at) = 7 ∷ array_no a ∷ i ∷ at.byte ∷ at.bit ∷ []
told (DiffCut a i width at) = 8 ∷ array_no a ∷ i ∷ width ∷ at.byte ∷ at.bit ∷ []
told (CountDiffers a) = 9 ∷ array_no a ∷ []
told (TooMany a) = 10 ∷ array_no a ∷ []
