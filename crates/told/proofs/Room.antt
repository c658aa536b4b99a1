-- What a rule of room comes to. Assumes nothing.
use Prim.Native.Nat.{ℕ, ◌≤◌, ◌<◌}
use mathlib.Core.Path.{◌≡◌}
use mathlib.Core.List.{[], ◌∷◌}
use borrow.Author.Tests.{lt-ltb, le-ltb}
use Rattle.told.specs.Told.{gave, refused}
use Rattle.told.specs.Room.{room_rule}

pub no_room : (bytes room : ℕ) → room < bytes → refused (21 ∷ bytes ∷ []) ≡ room_rule bytes room
unfolding room_rule
no_room bytes room h = simp (lt-ltb _ _ h)

pub enough : (bytes room : ℕ) → bytes ≤ room → gave bytes ≡ room_rule bytes room
unfolding room_rule
enough bytes room h = simp (le-ltb _ _ h)
