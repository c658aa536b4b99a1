-- A reader of bits: the bytes that it refers to, and a place in them.
use Rattle.bits.specs.declared.Place.{Place}
use Rattle.bit_reader.specs.declared.BitReader.{BitReader}

-- the place at which a reader stands
abbrev pub place_in : BitReader → Place
place_in r = record { byte = r.byte_pos; bit = r.bit_pos }
