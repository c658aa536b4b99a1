-- The cases of many questions, a part of the table in Cases.antt.
use Rattle.std.specs.Prelude.{ℕ, ◌≡◌, List, [], ◌∷◌, ◌++◌, map, pos, replicate, Ok}
use Rattle.told.specs.Told.{refused}
use Rattle.tracker.specs.declared.Seq.{Seq}
use Rattle.tracker.specs.declared.Second.{Second}
use Rattle.tracker.specs.declared.SequenceTracker.{SequenceTracker}
use Rattle.lookup.specs.Find.{Partner, partner, nothing}
use Rattle.lookup.specs.declared.FindOption.{FindOption}
use Rattle.lookup.specs.declared.FindOption.TheVariants.{RoundUp, RoundDown}
use Rattle.questions.specs.Stands.{ts_stands, seq_stands}
use Rattle.questions.specs.declared.TsAnswer.{TsAnswer}
use Rattle.questions.specs.declared.SeqAnswer.{SeqAnswer}
use Rattle.sheets.specs.Sheet.{sheet_rule, FindsTs16, FindsSeq16}
use Rattle.sheets.specs.declared.TsSheet.{TsSheet}
use Rattle.sheets.specs.declared.SeqSheet.{SeqSheet}
use Rattle.question_lists.specs.Each.{list_rule, FindsTsEach}
use Rattle.offers.specs.Whole.{Table}
use Rattle.fresh.specs.Fresh.{empty_table}
use Rattle.cases.specs.Given.{second, seq_no, offered_all, first_of}

-- P8's table: (1,10),(3,30),(5,50)
abbrev pub eighth : Table
eighth = offered_all 4 0 (first_of 5)

-- a table that 14 refuses, as no array is lent
abbrev pub unlent : SequenceTracker
unlent = empty_table 4 0

-- answers that are nobody's, and hold something
abbrev pub ts_own : TsAnswer
ts_own = record { found = 7; second = second 7 }

abbrev pub seq_own : SeqAnswer
seq_own = record { found = 7; seq = seq_no 7 }

-- a sheet of three questions: these answers stand in their places, and thirteen that are nobody's after them
abbrev pub ts_three : ℕ → ℕ → ℕ → List TsAnswer → TsSheet
ts_three a b c answers = record { keys = seq_no a ∷ seq_no b ∷ seq_no c ∷ replicate 13 (seq_no 9); answers = answers ++ replicate 13 ts_own; used = 3 }

abbrev pub seq_three : ℕ → ℕ → ℕ → List SeqAnswer → SeqSheet
seq_three a b c answers = record { keys = second a ∷ second b ∷ second c ∷ replicate 13 (second 9); answers = answers ++ replicate 13 seq_own; used = 3 }

-- asked of P8's table, it comes back so
abbrev pub TsComes : TsSheet → FindOption → TsSheet → Type 0
TsComes s opt back = FindsTs16 eighth.state eighth.seqs eighth.secs s opt (record { asked = Ok tt; sheet = back })

abbrev pub SeqComes : SeqSheet → FindOption → SeqSheet → Type 0
SeqComes s opt back = FindsSeq16 eighth.state eighth.seqs eighth.secs s opt (record { asked = Ok tt; sheet = back })

-- three answers in their places, by sequence and by second
abbrev pub ts3 : Partner Second → Partner Second → Partner Second → List TsAnswer
ts3 a b c = map ts_stands (a ∷ b ∷ c ∷ [])

abbrev pub seq3 : Partner Seq → Partner Seq → Partner Seq → List SeqAnswer
seq3 a b c = map seq_stands (a ∷ b ∷ c ∷ [])

abbrev pub three : {A : Type 0} → A → List A
three a = a ∷ a ∷ a ∷ []

pub record QuestionCases : Type 0 where
  -- P12's questions on one sheet: 2, 6 and 0 up are 30, nothing and 10, down 10, 50 and nothing; the thirteen other answers stay
  pub sheet :
      TsComes (ts_three 2 6 0 (three ts_own)) RoundUp (ts_three 2 6 0 (ts3 (partner (second 30)) nothing (partner (second 10))))
      × TsComes (ts_three 2 6 0 (three ts_own)) RoundDown (ts_three 2 6 0 (ts3 (partner (second 10)) (partner (second 50)) nothing))
  -- by second: 20, 60 and 9 up are 3, nothing and 1, down 1, 5 and nothing
  pub by_second :
      SeqComes (seq_three 20 60 9 (three seq_own)) RoundUp (seq_three 20 60 9 (seq3 (partner (seq_no 3)) nothing (partner (seq_no 1))))
      × SeqComes (seq_three 20 60 9 (three seq_own)) RoundDown (seq_three 20 60 9 (seq3 (partner (seq_no 1)) (partner (seq_no 5)) nothing))
  -- what may not come back: the first answer for all; the answers of the other rounding; nothing as 0 beside what stood there
  pub excluded :
      (TsComes (ts_three 2 6 0 (three ts_own)) RoundUp (ts_three 2 6 0 (three (ts_stands (partner (second 30))))) → ⊥)
      × (TsComes (ts_three 2 6 0 (three ts_own)) RoundUp (ts_three 2 6 0 (ts3 (partner (second 10)) (partner (second 50)) nothing)) → ⊥)
      × (TsComes (ts_three 2 6 0 (three ts_own)) RoundUp (ts_three 2 6 0 (ts_stands (partner (second 30)) ∷ record { found = 0; second = second 7 } ∷ ts_stands (partner (second 10)) ∷ [])) → ⊥)
  -- nor may an unused answer be cleared
  pub unused : TsComes (ts_three 2 6 0 (three ts_own)) RoundUp (record {
    keys = (ts_three 2 6 0 []).keys;
    answers = ts3 (partner (second 30)) nothing (partner (second 10)) ++ ts_stands nothing ∷ replicate 12 ts_own;
    used = 3;
  }) → ⊥
  -- 35 before 14: with 17 used a table that is not lent gives 35, with 16 it gives 14; P8's with 17 gives 35
  pub order : (sheet_rule unlent [] [] 17 ≡ refused (35 ∷ [])) × (sheet_rule unlent [] [] 16 ≡ refused (14 ∷ [])) × (sheet_rule eighth.state eighth.seqs eighth.secs 17 ≡ refused (35 ∷ []))
  -- the same questions in a list; a list of none is done; 18 before 14
  pub list :
      FindsTsEach eighth.state eighth.seqs eighth.secs (2 ∷ 6 ∷ 0 ∷ []) RoundUp (three (pos 7)) (three 7) (Ok tt) (pos 30 ∷ pos 0 ∷ pos 10 ∷ []) (1 ∷ 0 ∷ 1 ∷ [])
      × FindsTsEach eighth.state eighth.seqs eighth.secs [] RoundUp [] [] (Ok tt) [] []
  pub list_order : (list_rule unlent [] [] 1 0 1 ≡ refused (18 ∷ [])) × (list_rule unlent [] [] 1 1 0 ≡ refused (18 ∷ [])) × (list_rule unlent [] [] 1 1 1 ≡ refused (14 ∷ []))
