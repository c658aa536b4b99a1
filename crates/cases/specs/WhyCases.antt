-- The cases of reasons, a part of the table in Cases.antt.
use Rattle.std.specs.Prelude.{ℕ, ◌≡◌, [], ◌∷◌, ◌++◌, ltb, replicate, take, None, Some}
use Prim.Native.String.{String}
use Rattle.told.specs.Told.{gave, refused}
use Rattle.tracker.specs.declared.Seq.{Seq}
use Rattle.tracker.specs.declared.Second.{Second}
use Rattle.lookup.specs.Find.{Partner, partner, nothing}
use Rattle.lookup.specs.declared.FindOption.{FindOption}
use Rattle.lookup.specs.declared.FindOption.TheVariants.{RoundUp, RoundDown}
use Rattle.offers.specs.Whole.{Table}
use Rattle.explaining.specs.Why.{why_ts, why_seq}
use Rattle.explaining.specs.Laws.{Holds}
use Rattle.explaining.specs.declared.Reason.{Reason}
use Rattle.explaining.specs.declared.Reason.TheVariants.{Exact, RoundedUp, RoundedDown, BeforeFirst, AfterLast, Empty}
use Rattle.text.specs.Ascii.{ascii}
use Rattle.why_text.specs.Text.{why_text}
use Rattle.cases.specs.Given.{second, seq_no, pair, offered_all, fifth}
use Rattle.cases.specs.QuestionCases.{eighth, unlent}

-- a question to a table, by sequence and by second: the reason, and the answer under it
abbrev pub TsWhy : Table → ℕ → FindOption → Reason → Partner Second → Type 0
TsWhy w q opt r a = why_ts w.state w.seqs w.secs (seq_no q) opt ≡ gave (record { reason = r; answer = a })

abbrev pub SeqWhy : Table → ℕ → FindOption → Reason → Partner Seq → Type 0
SeqWhy w s opt r a = why_seq w.state w.seqs w.secs (second s) opt ≡ gave (record { reason = r; answer = a })

-- an empty table, and one of equal seconds
abbrev pub no_pairs : Table
no_pairs = offered_all 4 0 []

abbrev pub equal_seconds : Table
equal_seconds = offered_all 8 0 (pair 1 10 ∷ pair 2 20 ∷ pair 3 20 ∷ pair 4 20 ∷ pair 5 30 ∷ [])

-- what `why` prints for a line and P5's image, (100,0),(164,60)
abbrev pub Prints : String → String → Type 0
Prints line printed = why_text (ascii line ++ fifth 0x00 0x00) ≡ ascii printed

pub record WhyCases : Type 0 where
  -- P8's table, (1,10),(3,30),(5,50): an equal key; between two; below the first; above the last
  pub exact : TsWhy eighth 3 RoundUp (Exact 1) (partner (second 30)) × TsWhy eighth 3 RoundDown (Exact 1) (partner (second 30))
  pub between : TsWhy eighth 2 RoundUp (RoundedUp (Some 0) 1) (partner (second 30)) × TsWhy eighth 2 RoundDown (RoundedDown 0 (Some 1)) (partner (second 10))
  pub below_first : TsWhy eighth 0 RoundUp (RoundedUp None 0) (partner (second 10)) × TsWhy eighth 0 RoundDown BeforeFirst nothing
  pub above_last : TsWhy eighth 6 RoundUp AfterLast nothing × TsWhy eighth 6 RoundDown (RoundedDown 2 None) (partner (second 50))
  -- by second
  pub by_second : SeqWhy eighth 20 RoundUp (RoundedUp (Some 0) 1) (partner (seq_no 3)) × SeqWhy eighth 60 RoundUp AfterLast nothing × SeqWhy eighth 9 RoundDown BeforeFirst nothing
  -- table empty, whatever the rounding
  pub empty : TsWhy no_pairs 2 RoundUp Empty nothing × TsWhy no_pairs 2 RoundDown Empty nothing × SeqWhy no_pairs 20 RoundUp Empty nothing
  -- (1,10),(2,20),(3,20),(4,20),(5,30): of the equal seconds the lowest position up, the highest down; 21 lies between positions 3 and 4
  pub equals :
      SeqWhy equal_seconds 20 RoundUp (Exact 1) (partner (seq_no 2))
      × SeqWhy equal_seconds 20 RoundDown (Exact 3) (partner (seq_no 4))
      × SeqWhy equal_seconds 21 RoundDown (RoundedDown 3 (Some 4)) (partner (seq_no 4))
  -- what does not hold of P8's table and sequence 2 up: exact at a neighbour; neighbours with a kept pair between them; one neighbour where there are two; after the last; nor of sequence 0 up: before the first
  pub excluded :
      (Holds ltb 0 eighth.seqs 3 2 RoundUp (Exact 1) → ⊥)
      × (Holds ltb 0 eighth.seqs 3 2 RoundUp (RoundedUp (Some 0) 2) → ⊥)
      × (Holds ltb 0 eighth.seqs 3 2 RoundUp (RoundedUp None 1) → ⊥)
      × (Holds ltb 0 eighth.seqs 3 2 RoundUp AfterLast → ⊥)
      × (Holds ltb 0 eighth.seqs 3 0 RoundUp BeforeFirst → ⊥)
  -- a table whose arrays are not lent is refused with 14
  pub refusal : (why_ts unlent [] [] (seq_no 2) RoundUp ≡ refused (14 ∷ [])) × (why_seq unlent [] [] (second 2) RoundDown ≡ refused (14 ∷ []))
  -- the program, with P5's image
  pub prints :
      Prints "seq 100 up\n" "exact 0 0\n"
      × Prints "seq 130 down\n" "rounded-down 0 1 0\n"
      × Prints "seq 99 up\n" "rounded-up none 0 0\n"
      × Prints "time 61 down\n" "rounded-down 1 none 164\n"
      × Prints "time -1 down\n" "before-first none\n"
      × Prints "time 61 up\n" "after-last none\n"
      × (why_text (ascii "seq 1 up\n" ++ 0x01 ∷ replicate 12 0x00) ≡ ascii "empty none\n")
  -- numbers: zeros may come first, -0 is 0, and the ends of 64 bits are taken
  pub numbers :
      Prints "seq 00100 up\n" "exact 0 0\n"
      × Prints "time -0 up\n" "exact 0 100\n"
      × Prints "seq 18446744073709551615 down\n" "rounded-down 1 none 60\n"
      × Prints "time -9223372036854775808 up\n" "rounded-up none 0 100\n"
      × Prints "time 9223372036854775807 up\n" "after-last none\n"
  -- 36: no LF, CR before it, a plus, two spaces, a space at the end, a capital, no number, a minus before a sequence, a number out of range
  pub lines :
      Prints "seq 100 up" "refused 36\n"
      × Prints "seq 100 up\r\n" "refused 36\n"
      × Prints "seq +100 up\n" "refused 36\n"
      × Prints "seq  100 up\n" "refused 36\n"
      × Prints "seq 100 up \n" "refused 36\n"
      × Prints "Seq 100 up\n" "refused 36\n"
      × Prints "seq up\n" "refused 36\n"
      × Prints "seq -1 up\n" "refused 36\n"
      × Prints "seq 18446744073709551616 up\n" "refused 36\n"
      × Prints "time 9223372036854775808 up\n" "refused 36\n"
      × Prints "time -9223372036854775809 up\n" "refused 36\n"
  -- in order: 22 before 36, 36 before the restore's, then those
  pub refusals :
      (why_text (replicate 65537 0x02) ≡ ascii "refused 22\n")
      × (why_text (replicate 65536 0x02) ≡ ascii "refused 36\n")
      × (why_text [] ≡ ascii "refused 36\n")
      × (why_text (ascii "seq 100 sideways\n" ++ 0x02 ∷ []) ≡ ascii "refused 36\n")
      × (why_text (ascii "seq 100 up\n") ≡ ascii "refused 1\n")
      × (why_text (ascii "seq 100 up\n" ++ 0x02 ∷ []) ≡ ascii "refused 2\n")
      × (why_text (ascii "seq 100 up\n" ++ take 32 (fifth 0x00 0x00)) ≡ ascii "refused 8\n")
