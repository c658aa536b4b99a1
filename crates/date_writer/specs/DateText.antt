-- A date as text (docs/RULES.md, "Dates"): YYYY-MM-DDTHH:MM:SSZ, twenty bytes.
use Rattle.std.specs.Prelude.{ℕ, ◌/◌, ◌%◌, ◌<◌, ◌≡◌, List, [], ◌∷◌, ◌++◌, ℤ, pos, length, get_or}
use Rattle.text.specs.Ascii.{ascii}
use Rattle.text.specs.Text.{digit}
use Rattle.calendar.specs.declared.Date.{Date}
use Rattle.calendar.specs.Calendar.{IsDateOf}

-- a number below 100, and one below 10,000, in two and in four digits
abbrev pub two : ℕ → List ℕ
two n = digit (n / 10) ∷ digit (n % 10) ∷ []

abbrev pub four : ℕ → List ℕ
four n = two (n / 100) ++ two (n % 100)

unfoldable pub text_of : Date → List ℕ
text_of d =
    four d.year ++ ascii "-" ++ two d.month ++ ascii "-" ++ two d.day ++ ascii "T"
    ++ two d.hour ++ ascii ":" ++ two d.minute ++ ascii ":" ++ two d.second ++ ascii "Z"

-- the text of second z: that of the date whose second it is
abbrev pub Dated : ℤ → List ℕ → Type 0
Dated z text = (d : Date) × IsDateOf z d × (text ≡ text_of d)

-- `texts` makes of each of these seconds its text
abbrev pub AllDated : (ℤ → List ℕ) → List ℤ → Type 0
AllDated texts secs = (i : ℕ) → i < length secs → Dated (get_or secs i (pos 0)) (texts (get_or secs i (pos 0)))
