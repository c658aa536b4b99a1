-- The grammar of a date-time, RFC 3339, section 5.6, with the limits that docs/RULES.md, "Dates", sets. What is not of it is refused with 25.
use Rattle.std.specs.Prelude.{ℕ, zero, suc, ◌+◌, ◌-◌, ◌*◌, Bool, true, false, cond, ◌||◌, [], ◌∷◌, eqb}
use Prim.Native.Char.{code}
use Rattle.gorilla.specs.Parser.{Read, read, refused, Reader, ◌>>=◌, ◌>>◌, give}
use Rattle.text_reader.specs.Digits.{is_digit}
use Rattle.date_reader.specs.declared.Zone.{Zone}
use Rattle.date_reader.specs.declared.Stamp.{Stamp}

abbrev pub bad : {A : Type 0} → Read A
bad = refused (25 ∷ [])

-- k digits, which follow those of the number n
unfoldable pub more_digits : ℕ → ℕ → Reader ℕ
more_digits zero n s = read n s
more_digits (suc k) n [] = bad
more_digits (suc k) n (x ∷ s) = cond (is_digit x) (more_digits k (n * 10 + (x - code "0")) s) bad

-- 4DIGIT, 2DIGIT
abbrev pub number : ℕ → Reader ℕ
number k = more_digits k 0

-- one of two bytes, which are a letter in either case
unfoldable pub either : ℕ → ℕ → Reader (Unit {0})
either a b [] = bad
either a b (x ∷ s) = cond (eqb x a || eqb x b) (read tt s) bad

abbrev pub byte : ℕ → Reader (Unit {0})
byte a = either a a

-- all digits from here on, but k at most
unfoldable pub up_to : ℕ → Reader (Unit {0})
up_to zero s = read tt s
up_to (suc k) [] = read tt []
up_to (suc k) (x ∷ s) = cond (is_digit x) (up_to k s) (read tt (x ∷ s))

abbrev pub one_to_nine : Reader (Unit {0})
one_to_nine = do
  number 1
  up_to 8

-- [time-secfrac]: nothing, or "." and one to nine digits, which are left out
unfoldable pub fraction : Reader (Unit {0})
fraction [] = read tt []
fraction (x ∷ s) = cond (eqb x (code ".")) (one_to_nine s) (read tt (x ∷ s))

-- time-numoffset after its sign: "+" says that the local time is ahead of UTC
abbrev pub num_offset : Bool → Reader Zone
num_offset ahead = do
  hours ← number 2
  byte (code ":")
  minutes ← number 2
  give (record { ahead = ahead; hours = hours; minutes = minutes })

-- time-offset = "Z" / time-numoffset
unfoldable pub offset : Reader Zone
offset [] = bad
offset (x ∷ s) =
    cond (eqb x (code "Z") || eqb x (code "z")) (read (record { ahead = true; hours = 0; minutes = 0 }) s)
    (cond (eqb x (code "+")) (num_offset true s)
    (cond (eqb x (code "-")) (num_offset false s) bad))

-- no byte follows
unfoldable pub end : Reader (Unit {0})
end [] = read tt []
end (x ∷ s) = bad

-- date-time = full-date "T" full-time, and nothing after it
unfoldable pub date_time : Reader Stamp
date_time = do
  year ← number 4
  byte (code "-")
  month ← number 2
  byte (code "-")
  day ← number 2
  either (code "T") (code "t")
  hour ← number 2
  byte (code ":")
  minute ← number 2
  byte (code ":")
  second ← number 2
  fraction
  zone ← offset
  end
  give (record { date = record { year = year; month = month; day = day; hour = hour; minute = minute; second = second }; zone = zone })
