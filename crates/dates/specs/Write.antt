-- Writing a date (docs/RULES.md, "Dates"): 27, 21, and the output afterwards.
use Rattle.std.specs.Prelude.{ℕ, ◌≡◌, cond, List, [], ◌∷◌, Result, ℤ, length}
use Rattle.told.specs.Told.{Told, gave, refused}
use Rattle.told.specs.Over.{over}
use Rattle.told.specs.Room.{room_rule}
use Rattle.limits.specs.Domain.{outside}
use Rattle.date_writer.specs.DateText.{Dated}
use Rattle.dates.specs.Refusal.{told_written}
use Rattle.dates.specs.declared.Refusal.{Refusal}

-- 27 outside the domain; then 21, where the output has fewer than twenty bytes; else twenty are written
unfoldable pub write_date : ℤ → ℕ → Told ℕ
write_date z room = cond (outside z) (refused (27 ∷ [])) (room_rule 20 room)

-- the output afterwards: the text of z, and past it what stood there; refused, it is as before
abbrev pub LeavesDate : Told ℕ → ℤ → List ℕ → List ℕ → Type 0
LeavesDate (gave n) z out out' = (text : List ℕ) × Dated z text × (out' ≡ over text out)
LeavesDate (refused what) z out out' = out' ≡ out

abbrev pub WritesDate : ℤ → List ℕ → Result ℕ Refusal → List ℕ → Type 0
WritesDate z out r out' = (told_written r ≡ write_date z (length out)) × LeavesDate (write_date z (length out)) z out out'
