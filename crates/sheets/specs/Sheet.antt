-- One sheet, up to sixteen questions.
use Rattle.std.specs.Prelude.{ℕ, ◌≡◌, cond, List, [], ◌∷◌, ltb, ℤ, pos, length, get_or}
use Rattle.told.specs.Told.{Told, refused}
use Rattle.tracker.specs.Table.{check_of}
use Rattle.tracker.specs.declared.Seq.{Seq}
use Rattle.tracker.specs.declared.Second.{Second}
use Rattle.tracker.specs.declared.SequenceTracker.{SequenceTracker}
use Rattle.lookup.specs.Find.{Partner, nothing, find_ts, find_seq}
use Rattle.lookup.specs.declared.FindOption.{FindOption}
use Rattle.questions.specs.Stands.{ts_stands, seq_stands}
use Rattle.questions.specs.Asked.{told_asked, IfDone}
use Rattle.questions.specs.Answered.{Answered}
use Rattle.questions.specs.declared.TsAnswer.{TsAnswer}
use Rattle.questions.specs.declared.SeqAnswer.{SeqAnswer}
use Rattle.sheets.specs.declared.TsSheet.{TsSheet}
use Rattle.sheets.specs.declared.SeqSheet.{SeqSheet}
use Rattle.sheets.specs.declared.TsSheetBack.{TsSheetBack}
use Rattle.sheets.specs.declared.SeqSheetBack.{SeqSheetBack}

-- what is told: 35 for a used count above 16, before the table's refusals
abbrev pub sheet_rule : SequenceTracker → List ℕ → List ℤ → ℕ → Told (Unit {0})
sheet_rule table seqs secs used = cond (ltb 16 used) (refused (35 ∷ [])) (check_of table seqs secs)

-- a sheet, whatever its keys and answers are
pub record Sheet (K A : Type 0) : Type 0 where
  pub keys : List K
  pub answers : List A
  pub used : ℕ

abbrev pub ts_sheet : TsSheet → Sheet Seq TsAnswer
ts_sheet s = record { keys = s.keys; answers = s.answers; used = s.used }

abbrev pub seq_sheet : SeqSheet → Sheet Second SeqAnswer
seq_sheet s = record { keys = s.keys; answers = s.answers; used = s.used }

-- over a lookup `find` of any keys, whose answers stand in their places as `stands` says; k is what a key past the end would be
module _ {K P A : Type 0} (k : K) (find : K → Told (Partner P)) (stands : Partner P → A) where
  -- the sheet `back` is s with its first n questions answered as `find` answers them; all else is as it was
  pub record Filled (n : ℕ) (s back : Sheet K A) : Type 0 where
    pub same_keys : back.keys ≡ s.keys
    pub same_used : back.used ≡ s.used
    pub same_length : length back.answers ≡ length s.answers
    pub each : Answered find stands n (λ i. get_or s.keys i k) (λ i. get_or s.answers i (stands nothing)) (λ i. get_or back.answers i (stands nothing))

  -- the sheet that comes back after what is told: with its used questions answered, or, refused, as it went in
  abbrev pub ComesBack : Told (Unit {0}) → Sheet K A → Sheet K A → Type 0
  ComesBack told s back = IfDone told (Filled s.used s back) (back ≡ s)

-- by sequence the single lookup is `find_ts`, by second `find_seq`
abbrev pub TsBack : SequenceTracker → List ℕ → List ℤ → TsSheet → FindOption → TsSheet → Type 0
TsBack table seqs secs s opt back =
    ComesBack (record { 0 = 0 }) (λ key. find_ts table seqs secs key opt) ts_stands (sheet_rule table seqs secs s.used) (ts_sheet s) (ts_sheet back)

abbrev pub SeqBack : SequenceTracker → List ℕ → List ℤ → SeqSheet → FindOption → SeqSheet → Type 0
SeqBack table seqs secs s opt back =
    ComesBack (record { 0 = pos 0 }) (λ key. find_seq table seqs secs key opt) seq_stands (sheet_rule table seqs secs s.used) (seq_sheet s) (seq_sheet back)

-- `find_ts_16` and `find_seq_16`: what is told, and the sheet that comes back
abbrev pub FindsTs16 : SequenceTracker → List ℕ → List ℤ → TsSheet → FindOption → TsSheetBack → Type 0
FindsTs16 table seqs secs s opt r = (told_asked r.asked ≡ sheet_rule table seqs secs s.used) × TsBack table seqs secs s opt r.sheet

abbrev pub FindsSeq16 : SequenceTracker → List ℕ → List ℤ → SeqSheet → FindOption → SeqSheetBack → Type 0
FindsSeq16 table seqs secs s opt r = (told_asked r.asked ≡ sheet_rule table seqs secs s.used) × SeqBack table seqs secs s opt r.sheet
