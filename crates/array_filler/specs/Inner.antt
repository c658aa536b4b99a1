-- What our own functions promise each other. No public statement cites this file.
use Rattle.std.specs.Prelude.{ℕ, ◌*◌, ◌≤◌, ◌≡◌, true, List, ◌++◌, ℤ, length, replicate}
use Rattle.gorilla.specs.Inner.{is_read, followed}
use Rattle.gorilla.specs.Parser.{read}
use Rattle.bits.specs.Inner.{bits_from}
use Rattle.gorilla.specs.Reading.{read_code}
use Rattle.array_filler.specs.declared.fill.Cursor.{Cursor}

-- the bits that a cursor has still to read: the zeros that were found already, and those at its place
abbrev pub ahead : List ℕ → Cursor → List ℕ
ahead xs c = replicate c.zeros 0 ++ bits_from xs c.at

-- the code of index i of array a leads from one cursor to the next
abbrev pub Stepped : List ℕ → ℕ → ℕ → Cursor → Cursor → Type 0
Stepped xs a i c r = (d : ℤ) × (read d (ahead xs r) ≡ read_code (length xs * 8) a i (ahead xs c)) × (r.track ≡ followed c.track d)

-- a cursor whose next code is there, of whatever index
abbrev pub CanStep : List ℕ → Cursor → Type 0
CanStep xs c = (8 ≤ length xs) × ((a : ℕ) × (i : ℕ) × (is_read (read_code (length xs * 8) a i (ahead xs c)) ≡ true))
