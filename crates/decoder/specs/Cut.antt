-- An accepted image that is cut off: what the calls answer (the reader's own law is in gorilla, specs/Stops.antt).
use Rattle.std.specs.Prelude.{ℕ, ◌<◌, ◌≡◌, List, take, ℤ}
use Rattle.told.specs.Told.{gave, refused}
use Rattle.gorilla.specs.Stops.{CutOff}
use Rattle.decoder.specs.Decode.{decode_rule, image_len_rule}

-- `image_len` of an input whose image has n bytes, cut after k of them
abbrev pub LenTellsWhere : Type 0
LenTellsWhere = (bytes : List ℕ) (n k : ℕ) → image_len_rule bytes ≡ gave n → k < n → CutOff (take k bytes) (λ l. image_len_rule (take k bytes) ≡ refused l)

-- `decode` of an input that it accepts: its image has n bytes, and it is cut after k of them
abbrev pub DecodeTellsWhere : Type 0
DecodeTellsWhere = (bytes seqs : List ℕ) (secs : List ℤ) (count : ℕ) → decode_rule bytes seqs secs ≡ gave count
    → (n : ℕ) × (image_len_rule bytes ≡ gave n) × ((k : ℕ) → k < n → CutOff (take k bytes) (λ l. decode_rule (take k bytes) seqs secs ≡ refused l))
