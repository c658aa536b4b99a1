-- An output that may be too short.
use Rattle.std.specs.Prelude.{ℕ, cond, [], ◌∷◌, ltb}
use Rattle.told.specs.Told.{Told, gave, refused}

-- 21 where the output is too short, told with the bytes needed; else so many bytes are written
unfoldable pub room_rule : ℕ → ℕ → Told ℕ
room_rule bytes room = cond (ltb room bytes) (refused (21 ∷ bytes ∷ [])) (gave bytes)
