-- Encoding (docs/RULES.md, "The image"): the numbers of the refusals, the rules of the length and of both encoders, and the buffer afterwards.
use Rattle.std.specs.Prelude.{ℕ, ◌≡◌, cond, not, List, [], ◌∷◌, eqb, ltb, length, ℤ, Result}
use Rattle.told.specs.Told.{Told, gave, refused, if_good, told_by}
use Rattle.told.specs.Over.{filled}
use Rattle.told.specs.Room.{room_rule}
use Rattle.gorilla.specs.Array.{array_no}
use Rattle.gorilla.specs.Format.{image_bytes}
use Rattle.gorilla.specs.Wide.{wide_of}
use Rattle.encoder.specs.declared.Refusal.{Refusal}
use Rattle.encoder.specs.declared.Refusal.TheVariants as refusal

-- a refusal's number, and what it also tells
abbrev pub told : Refusal → List ℕ
told refusal.LengthsDiffer = 18 ∷ []
told refusal.TooMany = 19 ∷ []
told (refusal.Wide a i) = 20 ∷ array_no a ∷ i ∷ []
told (refusal.Room bytes) = 21 ∷ bytes ∷ []

abbrev pub told_len : Result ℕ Refusal → Told ℕ
told_len = told_by told

abbrev pub told_encode : Result ℕ Refusal → Told ℕ
told_encode = told_by told

-- 18 where the arrays differ in length, 19 where each has more than 65,536 values; else as follows
unfoldable pub arrays_rule : List ℕ → List ℤ → Told ℕ → Told ℕ
arrays_rule seqs secs else =
    cond (not (eqb (length seqs) (length secs))) (refused (18 ∷ []))
    (cond (ltb 65536 (length seqs)) (refused (19 ∷ []))
    else)

-- the length: 18, 19
abbrev pub len_rule : List ℕ → List ℤ → Told ℕ
len_rule seqs secs = arrays_rule seqs secs (gave (length (image_bytes seqs secs)))

-- an encoder: 18, 19, 21
abbrev pub encode_rule : List ℕ → List ℤ → ℕ → Told ℕ
encode_rule seqs secs room = arrays_rule seqs secs (room_rule (length (image_bytes seqs secs)) room)

-- the strict encoder: 18, 19, 20, 21
abbrev pub strict_rule : List ℕ → List ℤ → ℕ → Told ℕ
strict_rule seqs secs room = arrays_rule seqs secs (if_good (wide_of seqs secs) (room_rule (length (image_bytes seqs secs)) room))

-- an encoder by its rule: its answer, and the output afterwards: the image, and past it what stood there; refused, it is as before
abbrev pub Encodes : (List ℕ → List ℤ → ℕ → Told ℕ) → List ℕ → List ℤ → List ℕ → Result ℕ Refusal → List ℕ → Type 0
Encodes rule seqs secs out r out' = (told_encode r ≡ rule seqs secs (length out)) × (out' ≡ filled (rule seqs secs (length out)) (image_bytes seqs secs) out)
