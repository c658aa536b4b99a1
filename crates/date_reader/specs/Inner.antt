-- What our own functions promise each other. No public statement cites this file.
use Rattle.std.specs.Prelude.{[], Option, Some, None}
use Rattle.gorilla.specs.Parser.{Read, read}
use Rattle.date_reader.specs.declared.Stamp.{Stamp}
use Rattle.date_reader.specs.Grammar.{bad}

-- no byte is left
abbrev pub told_end : Option (Unit {0}) → Read (Unit {0})
told_end (Some _) = read tt []
told_end None = bad

-- the whole text
abbrev pub told_stamp : Option Stamp → Read Stamp
told_stamp (Some r) = read r []
told_stamp None = bad
