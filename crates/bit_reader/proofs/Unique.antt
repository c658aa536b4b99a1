-- No second outcome fits. `new` and `moved` are equations, and `read_from` has the statement of `read_bits`. Assumes nothing.
use Prim.Native.Nat.{ℕ}
use mathlib.Core.Path.{◌≡◌}
use Rattle.bits.specs.Read.{told_read, read_rule}
use Rattle.std.specs.Prelude.{Result}
use Rattle.bits.specs.declared.Place.{Place}
use Rattle.bits.specs.declared.ReadRefusal.{ReadRefusal}
use Rattle.bits.proofs.Unique.{one-read}
use Rattle.bit_reader.specs.Reader.{place_in}
use Rattle.bit_reader.specs.declared.BitReader.{BitReader}

-- `BitReader::read`: the bytes and the place are the reader's
pub one_reader_read : (r : BitReader) (n : ℕ) (a b : Result (ℕ × Place) ReadRefusal) → told_read a ≡ read_rule r.buf.now (place_in r) n → told_read b ≡ read_rule r.buf.now (place_in r) n → a ≡ b
one_reader_read r n = one-read r.buf.now (place_in r) n
