-- The line of a question: `seq` or `time`, one space, a decimal number that fits that key, one space, `up` or `down`, LF. What is not of this form
-- is refused with 36. Whatever follows the LF is left.
use Rattle.std.specs.Prelude.{ℕ, ◌-◌, ◌^◌, List, [], ◌∷◌, leb, pos, neg_ℤ}
use Prim.Native.String.{String}
use Rattle.text.specs.Ascii.{ascii}
use Rattle.tracker.specs.declared.Seq.{Seq}
use Rattle.tracker.specs.declared.Second.{Second}
use Rattle.lookup.specs.declared.FindOption.{FindOption}
use Rattle.lookup.specs.declared.FindOption.TheVariants.{RoundUp, RoundDown}
use Rattle.gorilla.specs.Parser.{Reader, ◌>>=◌, ◌>>◌, give, require}
use Rattle.text_reader.specs.Digits.{digits}
use Rattle.text_reader.specs.Words.{word, or_else}
use Rattle.question_lines.specs.declared.Question.{Question}
use Rattle.question_lines.specs.declared.Question.TheVariants.{BySeq, ByTime}

abbrev pub not_the_form : List ℕ
not_the_form = 36 ∷ []

-- these very words: the letters in this case, and no space more
abbrev pub words : String → Reader (Unit {0})
words w = word not_the_form (ascii w)

-- one or more digits, whose number is `most` at most; zeros may come first
abbrev pub number : ℕ → Reader ℕ
number most = do
  n ← digits not_the_form
  require (leb n most) not_the_form
  give n

-- a sequence number, below 2^64
abbrev pub seq_number : Reader Seq
seq_number = do
  n ← number (2 ^ 64 - 1)
  give (record { 0 = n })

-- a second with a minus, -2^63 at least: -0 is 0
abbrev pub negative : Reader Second
negative = do
  words "-"
  n ← number (2 ^ 63)
  give (record { 0 = neg_ℤ (pos n) })

-- a second with none, below 2^63: there is no plus
abbrev pub not_negative : Reader Second
not_negative = do
  n ← number (2 ^ 63 - 1)
  give (record { 0 = pos n })

abbrev pub second : Reader Second
second = or_else negative not_negative

-- `up` or `down`
abbrev pub up : Reader FindOption
up = do
  words "up"
  give RoundUp

abbrev pub down : Reader FindOption
down = do
  words "down"
  give RoundDown

abbrev pub direction : Reader FindOption
direction = or_else up down

-- what follows the number: LF ends the line, with no CR before it
abbrev pub ending : Reader FindOption
ending = do
  words " "
  option ← direction
  words "\n"
  give option

unfoldable pub by_seq : Reader Question
by_seq = do
  words "seq"
  words " "
  seq ← seq_number
  option ← ending
  give (BySeq seq option)

unfoldable pub by_time : Reader Question
by_time = do
  words "time"
  words " "
  ts ← second
  option ← ending
  give (ByTime ts option)

unfoldable pub question : Reader Question
question = or_else by_seq by_time
