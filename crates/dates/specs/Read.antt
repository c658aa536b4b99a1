-- Reading a date (docs/RULES.md, "Dates"): 25, 26, 27.
use Rattle.std.specs.Prelude.{ℕ, ◌+◌, ◌*◌, Bool, cond, ◌&&◌, List, [], ◌∷◌, leb, ℤ, pos, neg_ℤ, ◌-ℤ◌}
use Rattle.told.specs.Told.{Told, gave, refused}
use Rattle.limits.specs.Domain.{outside}
use Rattle.calendar.specs.Calendar.{second_of, is_date}
use Rattle.gorilla.specs.Parser.{Read, read, refused as not_read}
use Rattle.date_reader.specs.declared.Zone.{Zone}
use Rattle.date_reader.specs.declared.Stamp.{Stamp}
use Rattle.date_reader.specs.Grammar.{date_time}

unfoldable pub is_offset : Zone → Bool
is_offset z = leb z.hours 23 && leb z.minutes 59

-- how many seconds the local time is ahead of UTC
unfoldable pub offset_of : Zone → ℤ
offset_of z = cond z.ahead (pos ((z.hours * 60 + z.minutes) * 60)) (neg_ℤ (pos ((z.hours * 60 + z.minutes) * 60)))

-- the second in UTC
abbrev pub utc_of : Stamp → ℤ
utc_of r = second_of r.date -ℤ offset_of r.zone

-- 27 outside the domain
abbrev pub if_inside : ℤ → Told ℤ
if_inside z = cond (outside z) (refused (27 ∷ [])) (gave z)

-- 26 where there is no such date, time of day or offset; then 27, once the offset is applied
unfoldable pub judged : Stamp → Told ℤ
judged r = cond (is_date r.date && is_offset r.zone) (if_inside (utc_of r)) (refused (26 ∷ []))

-- what the grammar made of the text
abbrev pub judged_text : Read Stamp → Told ℤ
judged_text (read r left) = judged r
judged_text (not_read what) = refused what

-- 25 where the whole text is not of the grammar; then as judged
abbrev pub read_date : List ℕ → Told ℤ
read_date s = judged_text (date_time s)
