-- What our own functions promise each other. No public statement cites this file.
use Rattle.std.specs.Prelude.{ℕ, List, ℤ, pos}
use Rattle.told.specs.Told.{gave}
use Rattle.lookup.specs.declared.FindOption.{FindOption}
use Rattle.questions.specs.Stands.{ts_stands, seq_stands}
use Rattle.questions.specs.Inner.{ts_partner, seq_partner}
use Rattle.sheets.specs.Sheet.{Filled, ts_sheet, seq_sheet}
use Rattle.sheets.specs.declared.TsSheet.{TsSheet}
use Rattle.sheets.specs.declared.SeqSheet.{SeqSheet}

-- the first i questions are answered, from the pairs
abbrev pub FilledTs : List ℕ → List ℤ → FindOption → ℕ → TsSheet → TsSheet → Type 0
FilledTs seqs secs opt i s back = Filled (record { 0 = 0 }) (λ key. gave (ts_partner seqs secs key opt)) ts_stands i (ts_sheet s) (ts_sheet back)

abbrev pub FilledSeq : List ℕ → List ℤ → FindOption → ℕ → SeqSheet → SeqSheet → Type 0
FilledSeq seqs secs opt i s back = Filled (record { 0 = pos 0 }) (λ key. gave (seq_partner seqs secs key opt)) seq_stands i (seq_sheet s) (seq_sheet back)
