-- What a run of a program leaves in the lent buffers, and what it writes.
use Rattle.std.specs.Prelude.{ℕ, ◌≡◌, true, cond, List, IsNone, take}
use Rattle.std.specs.Io.KnownBytes.{Keeps, Appends}
use Rattle.std.specs.declared.option.Option.{Option}
use Rattle.std.specs.declared.io.Error.{Error}
use Rattle.told.specs.Over.{over}
use Rattle.input.specs.Input.{ReadInto, failed}
use Rattle.input.specs.declared.once.Over.{Over}

-- the input was read into the whole buffer, and the text buffer has what the program prints for its bytes; where a read failed, what stood there
abbrev pub Ran : (List ℕ → List ℕ → Type 0) → Over → List ℕ → List ℕ → List ℕ → Type 0
Ran Prints o input old new = ReadInto o input × cond (failed o) (new ≡ old) ((text : List ℕ) × Prints (take o.bytes input) text × (new ≡ over text old))

-- a writer whose bytes are known was given what the program prints for the bytes that were read, unless a failure is told; where a read failed, nothing
abbrev pub Wrote : (List ℕ → List ℕ → Type 0) → Over → List ℕ → Option Error → Option (List ℕ) → Option (List ℕ) → Type 0
Wrote Prints o input failure old new =
    (failed o ≡ true → Keeps old new) × (IsNone failure → (text : List ℕ) × Prints (take o.bytes input) text × Appends old new text)
