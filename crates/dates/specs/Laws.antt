-- What holds of dates and their texts. Proved in proofs/Laws.antt.
use Rattle.std.specs.Prelude.{ℕ, ◌≤◌, ◌≡◌, ◌↔◌, true, false, List, [], ◌++◌, Ok, ℤ, length, take}
use Rattle.std.specs.Int.Signed.{lt_z}
use Rattle.told.specs.Told.{gave}
use Rattle.limits.specs.Domain.{outside}
use Rattle.calendar.specs.Calendar.{is_date}
use Rattle.calendar.specs.Laws.{before}
use Rattle.gorilla.specs.Parser.{read}
use Rattle.date_writer.specs.DateText.{Dated}
use Rattle.text.specs.Ascii.{ascii}
use Rattle.date_reader.specs.declared.Stamp.{Stamp}
use Rattle.date_reader.specs.Grammar.{date_time}
use Rattle.date_reader.specs.Fraction.{all_digits, other_first}
use Rattle.dates.specs.Read.{is_offset, utc_of, read_date}
use Rattle.dates.specs.Write.{WritesDate}

-- the whole of s is a date-time of the grammar, its date, time of day and offset are there, and z, in the domain, is its second in UTC
pub record Says (s : List ℕ) (z : ℤ) : Type 0 where
  pub stamp : Stamp
  pub grammar : date_time s ≡ read stamp []
  pub date : is_date stamp.date ≡ true
  pub offset : is_offset stamp.zone ≡ true
  pub second : utc_of stamp ≡ z
  pub inside : outside z ≡ false

pub record Dates : Type 0 where
  -- each second of the domain has a text, and one only, of twenty bytes; no other second has one
  pub a_text : (z : ℤ) → outside z ≡ false → (text : List ℕ) × Dated z text
  pub one_text : (z : ℤ) (t u : List ℕ) → Dated z t → Dated z u → t ≡ u
  pub twenty : (z : ℤ) (t : List ℕ) → Dated z t → (length t ≡ 20) × (outside z ≡ false)
  -- it reads back from its own text
  pub reads_back : (z : ℤ) (t : List ℕ) → Dated z t → read_date t ≡ gave z
  -- two different seconds have different texts
  pub apart : (z w : ℤ) (t : List ℕ) → Dated z t → Dated w t → z ≡ w
  -- the order of texts, byte by byte, is the order of seconds
  pub order : (z w : ℤ) (t u : List ℕ) → Dated z t → Dated w u → before t u ≡ lt_z z w
  -- what `write_date` leaves in any output reads back
  pub written : (z : ℤ) (out out' : List ℕ) (n : ℕ) → WritesDate z out (Ok n) out' → read_date (take n out') ≡ gave z
  -- a fraction changes nothing: after the 19 bytes of date and time of day, a point and one to nine digits read as if they were not there
  pub fraction : (head ds tail : List ℕ) → length head ≡ 19 → 1 ≤ length ds → length ds ≤ 9 → all_digits ds ≡ true → other_first tail ≡ true
      → read_date (head ++ (ascii "." ++ ds ++ tail)) ≡ read_date (head ++ tail)
  -- the reader gives a second exactly where the text says it by the calendar's sum
  pub exactly : (s : List ℕ) (z : ℤ) → (read_date s ≡ gave z) ↔ Says s z
