-- What our own functions promise each other. No public statement cites this file.
use Rattle.std.specs.Prelude.{List, ℕ, ◌<◌, ℤ}
use Rattle.calendar.specs.declared.Date.{Date}
use Rattle.calendar.specs.Inner.{date_of, moment_at}
use Rattle.date_writer.specs.DateText.{text_of}

-- the text of a second of the domain, as the code finds it
abbrev pub date_text : ℤ → List ℕ
date_text z = text_of (date_of (moment_at z))

-- the year has four digits at most, and each other number two
abbrev pub Digits : Date → Type 0
Digits d = (d.year < 10000) × (d.month < 100) × (d.day < 100) × (d.hour < 100) × (d.minute < 100) × (d.second < 100)
