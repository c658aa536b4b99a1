-- The lent arrays after what was read. Assumes nothing.
use Prim.Native.Nat.{ℕ}
use mathlib.Core.List.{List}
use lib.IntN.{ℤ}
use Rattle.told.specs.Over.{filled}
use Rattle.gorilla.specs.Parser.{Read}
use Rattle.gorilla.specs.Reading.{Pairs, pairs_read}
use Rattle.decoder.specs.Decode.{count_of}

abbrev pub seqs_over : List ℕ → Read Pairs → List ℕ
seqs_over old r = filled (count_of r) (pairs_read r).seqs old

abbrev pub secs_over : List ℤ → Read Pairs → List ℤ
secs_over old r = filled (count_of r) (pairs_read r).secs old
