-- What is counted.
use Rattle.std.specs.Prelude.{ℕ, ◌+◌, ◌%◌, ◌^◌, Bool, true, false, slice_index_or, slice_set, replicate}
use Rattle.vector_tally.specs.declared.Count.{Count}
use Rattle.vector_tally.specs.declared.Tally.{Tally}
use Rattle.vector_tally.specs.declared.Question.{Question}
use Rattle.vector_tally.specs.declared.Question.TheVariants.{Writes, Reads, Extensions, Encodings, Readbacks, Decodings, Lengths, Offers, Tables, Lookups, Saves, Runs, Extends, Restores}

-- One more, wrapping at 64 bits.
abbrev pub one_more : ℕ → ℕ
one_more n = (n + 1) % 2 ^ 64

-- One more answer that agreed, or differed.
abbrev pub counted : Count → Bool → Count
counted c true = record { agreed = one_more c.agreed; differed = c.differed }
counted c false = record { agreed = c.agreed; differed = one_more c.differed }

-- Where a question's counts stand.
abbrev pub place : Question → ℕ
place Writes = 0
place Reads = 1
place Extensions = 2
place Encodings = 3
place Readbacks = 4
place Decodings = 5
place Lengths = 6
place Offers = 7
place Tables = 8
place Lookups = 9
place Saves = 10
place Runs = 11
place Extends = 12
place Restores = 13

abbrev pub none : Count
none = record { agreed = 0; differed = 0 }

-- No answer yet.
abbrev pub nothing : Tally
nothing = record { questions = replicate 14 none; all = none }

-- One more answer to a question.
abbrev pub noted : Tally → Question → Bool → Tally
noted t q b = record { questions = slice_set t.questions (place q) (counted (slice_index_or t.questions (place q) none) b); all = counted t.all b }
