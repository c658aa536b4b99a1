-- What our own functions promise each other. No public statement cites this file.
use Rattle.std.specs.Prelude.{ℕ, ◌+◌, ◌*◌, ◌≤◌, ◌≡◌, List, length, ℤ, Result}
use Rattle.gorilla.specs.Format.{image_bytes}
use Rattle.encoder.specs.Encode.{Encodes}
use Rattle.told.specs.Room.{room_rule}
use Rattle.encoder.specs.declared.Refusal.{Refusal}

-- arrays that pass 18 and 19, and a length that no image of so many pairs exceeds
abbrev pub Measured : List ℕ → List ℤ → ℕ → Type 0
Measured seqs secs most = (length seqs ≡ length secs) × (length seqs ≤ 65536) × (most ≡ length seqs * 9 + 21)

-- the image, or 21
abbrev pub EncodesInRoom : List ℕ → List ℤ → List ℕ → Result ℕ Refusal → List ℕ → Type 0
EncodesInRoom = Encodes (λ seqs secs room. room_rule (length (image_bytes seqs secs)) room)
