-- The cases of dates, by computation.
use mathlib.Core.Path.{refl}
use Prim.Native.Nat.{ℕ}
use Rattle.told.specs.Room.{room_rule}
use Rattle.calendar.specs.declared.Date.{Date}
use Rattle.calendar.specs.Calendar.{leap, lengths_of, summed, days_of_years, is_day, is_time, is_date}
use Rattle.date_writer.specs.DateText.{text_of}
use Rattle.text_reader.specs.Digits.{is_digit}
use Rattle.date_reader.specs.Grammar.{more_digits, either, up_to, fraction, offset, end, date_time}
use Rattle.dates.specs.Read.{is_offset, offset_of, judged}
use Rattle.dates.specs.Write.{write_date}
use Rattle.cases.specs.DateCases.{DateCases}

abbrev at : ℕ → ℕ → ℕ → ℕ → ℕ → ℕ → Date
at y m d h n s = record { year = y; month = m; day = d; hour = h; minute = n; second = s }

pub date_cases : DateCases
unfolding room_rule leap lengths_of summed days_of_years is_day is_time is_date text_of is_digit more_digits either up_to fraction offset end date_time is_offset offset_of judged write_date
date_cases = record {
  epoch = ((at 1970 1 1 0 0 0, (refl, refl), refl), refl);
  ends = (((at 1 1 1 0 0 0, (refl, refl), refl), refl), ((at 9999 12 31 23 59 59, (refl, refl), refl), refl));
  leap-days = (((at 2000 2 29 0 0 0, (refl, refl), refl), refl), ((at 2024 2 29 0 0 0, (refl, refl), refl), refl), refl, refl);
  beside-leap-days = (
    ((at 1900 3 1 0 0 0, (refl, refl), refl), refl),
    ((at 2100 3 1 0 0 0, (refl, refl), refl), refl),
    ((at 2024 2 29 23 59 59, (refl, refl), refl), refl),
    ((at 2024 3 1 0 0 0, (refl, refl), refl), refl),
  );
  rfc = (refl, refl, refl);
  fractions = (refl, refl, refl, refl);
  accepted = (refl, refl, refl, refl, refl);
  not-the-grammar = (refl, refl, refl, refl, refl, refl, refl, refl, refl, refl);
  no-such-date = (refl, refl, refl, refl, refl, refl, refl);
  no-such-time = (refl, refl, refl, refl, refl);
  outside = (refl, refl, refl, refl, refl);
  reading_order = (refl, refl, refl, refl);
  writing-order = (refl, refl, refl, refl, refl);
}
