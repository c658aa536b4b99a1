-- The letters of compare/FORMAT.md.
use Rattle.std.specs.Prelude.{◌≡◌, ℕ, Result, Ok, Err}
use Rattle.vector_sizes.specs.declared.kind.Kind.{Kind}
use Rattle.vector_sizes.specs.declared.kind.Kind.TheVariants.{Writes, Reads, Extension, List as Listed, RuledList, Image, Made, Offer, Run, Shown, LongShown, Saved, Second, Seq, Extended, Restored}
use Rattle.vector_sizes.specs.declared.kind.UnknownKind.{UnknownKind}

-- The letter of each kind, by its number in ASCII.
abbrev pub letter_of : Kind → ℕ
letter_of Writes = 87
letter_of Reads = 66
letter_of Extension = 78
letter_of Listed = 69
letter_of RuledList = 89
letter_of Image = 68
letter_of Made = 84
letter_of Offer = 79
letter_of Run = 71
letter_of Shown = 83
letter_of LongShown = 72
letter_of Saved = 86
letter_of Second = 70
letter_of Seq = 75
letter_of Extended = 88
letter_of Restored = 82

-- The kind of a letter, or the letter where none has it.
abbrev pub IsNamed : ℕ → Result Kind UnknownKind → Type 0
IsNamed letter (Ok kind) = letter_of kind ≡ letter
IsNamed letter (Err e) = (e.0 ≡ letter) × ((kind : Kind) → ¬ (letter_of kind ≡ letter))
