-- Standard input after its last read, and the buffer.
use Rattle.std.specs.Prelude.{ℕ, ◌≤◌, ◌<◌, ◌≡◌, Bool, false, List, length, is_some}
use Rattle.std.specs.Io.KnownBytes.{IsAtEnd}
use Rattle.std.specs.declared.option.Option.{Option}
use Rattle.input.specs.declared.once.Over.{Over}

-- it was read into the whole of this buffer, whose start has the bytes that were read
abbrev pub ReadInto : Over → List ℕ → Type 0
ReadInto o buffer = (o.bytes ≤ length buffer) × (o.room ≡ length buffer)

-- the last read failed, and its error is told
abbrev pub failed : Over → Bool
failed o = is_some o.failure

-- where no read failed and the buffer has room left, the reader has no byte left that is known
abbrev pub EndsWhole : Over → Option (List ℕ) → Type 0
EndsWhole o left = failed o ≡ false → o.bytes < o.room → IsAtEnd left
