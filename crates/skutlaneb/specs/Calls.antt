-- What the exported calls with long statements promise: what goes in, the answer, and what the lent arrays hold afterwards.
use Rattle.std.specs.Prelude.{ℕ, ◌≡◌, List, ℤ, length}
use Rattle.told.specs.Told.{Told}
use Rattle.told.specs.Over.{filled}
use Rattle.tracker.specs.declared.SequenceTracker.{SequenceTracker}
use Rattle.offers.specs.Whole.{Table, whole, Left, Leaves}
use Rattle.offers.specs.Offer.{offering}
use Rattle.offer_log.specs.Pairs.{pairs_log_of, extend_of}
use Rattle.gorilla.specs.Format.{image_bytes}
use Rattle.gorilla.specs.Reading.{pairs_read}
use Rattle.sheets.specs.Sheet.{sheet_rule, TsBack, SeqBack}
use Rattle.sheets.specs.declared.TsSheet.{TsSheet}
use Rattle.sheets.specs.declared.SeqSheet.{SeqSheet}
use Rattle.question_lists.specs.Each.{list_rule, TsLeft, SeqLeft}
use Rattle.saving.specs.Save.{kept_image}
use Rattle.restoring.specs.Restore.{read_table}
use Rattle.dates.specs.Write.{write_date, LeavesDate}
use Rattle.answers.specs.Answer.{of_count, of_check}
use Rattle.answers.specs.declared.Answer.{Answer}
use Rattle.states.specs.State.{table_of, round_of}
use Rattle.states.specs.declared.State.{State}
use Rattle.table_answers.specs.Table.{of_table, of_offer, of_log}
use Rattle.table_answers.specs.declared.TableAnswer.{TableAnswer}
use Rattle.call_answers.specs.declared.TsSheetAnswer.{TsSheetAnswer}
use Rattle.call_answers.specs.declared.SeqSheetAnswer.{SeqSheetAnswer}

-- an encoder by its rule
abbrev pub SkutEncodes : (List ℕ → List ℤ → ℕ → Told ℕ) → List ℕ → List ℤ → List ℕ → Answer → List ℕ → Type 0
SkutEncodes rule seqs secs out r out' = (r ≡ of_count (rule seqs secs (length out))) × (out' ≡ filled (rule seqs secs (length out)) (image_bytes seqs secs) out)

-- a date written
abbrev pub SkutWritesDate : ℤ → List ℕ → Answer → List ℕ → Type 0
SkutWritesDate z out r out' = (r ≡ of_count (write_date z (length out))) × LeavesDate (write_date z (length out)) z out out'

-- a save by its rule
abbrev pub SkutSaves : (SequenceTracker → List ℕ → List ℤ → ℕ → Told ℕ) → State → List ℕ → List ℤ → List ℕ → Answer → List ℕ → Type 0
SkutSaves rule s seqs secs out r out' =
    (r ≡ of_count (rule (table_of s) seqs secs (length out)))
    × (out' ≡ filled (rule (table_of s) seqs secs (length out)) (kept_image (table_of s) seqs secs) out)

-- a restore by its rule
abbrev pub SkutRestores : (List ℕ → List ℕ → List ℤ → Told SequenceTracker) → List ℕ → List ℕ → List ℤ → TableAnswer → List ℕ → List ℤ → Type 0
SkutRestores rule bytes seqs secs r seqs' secs' =
    (r ≡ of_table (rule bytes seqs secs))
    × (seqs' ≡ filled (rule bytes seqs secs) (pairs_read (read_table bytes)).seqs seqs)
    × (secs' ≡ filled (rule bytes seqs secs) (pairs_read (read_table bytes)).secs secs)

-- a call on a table, as it crosses: `of` makes the answer of what is told
abbrev pub Crosses : {A : Type 0} → (A → TableAnswer) → Left A → TableAnswer → List ℕ → List ℤ → Type 0
Crosses of left r seqs secs = Leaves (record { answer = of left.answer; table = left.table }) r seqs secs

abbrev pub table_in : State → List ℕ → List ℤ → Table
table_in s seqs secs = whole (table_of s) seqs secs

abbrev pub SkutOffers : State → List ℕ → List ℤ → ℕ → ℤ → TableAnswer → List ℕ → List ℤ → Type 0
SkutOffers s seqs secs seq sec = Crosses of_offer (offering (table_in s seqs secs) (record { 0 = seq }) (record { 0 = sec }))

abbrev pub SkutOffersPairs : State → List ℕ → List ℤ → List ℕ → List ℤ → TableAnswer → List ℕ → List ℤ → Type 0
SkutOffersPairs s seqs secs fromSeqs fromSecs = Crosses of_log (pairs_log_of (table_in s seqs secs) fromSeqs fromSecs)

abbrev pub SkutExtends : State → List ℕ → List ℤ → State → List ℕ → List ℤ → TableAnswer → List ℕ → List ℤ → Type 0
SkutExtends s seqs secs other otherSeqs otherSecs = Crosses of_log (extend_of (table_in s seqs secs) (table_in other otherSeqs otherSecs))

-- up to sixteen questions by sequence, and by second: the answer, and the sheet that comes back
abbrev pub SkutFindsTs16 : State → List ℕ → List ℤ → TsSheet → ℕ → TsSheetAnswer → Type 0
SkutFindsTs16 t seqs secs s round r = (r.answer ≡ of_check (sheet_rule (table_of t) seqs secs s.used)) × TsBack (table_of t) seqs secs s (round_of round) r.sheet

abbrev pub SkutFindsSeq16 : State → List ℕ → List ℤ → SeqSheet → ℕ → SeqSheetAnswer → Type 0
SkutFindsSeq16 t seqs secs s round r = (r.answer ≡ of_check (sheet_rule (table_of t) seqs secs s.used)) × SeqBack (table_of t) seqs secs s (round_of round) r.sheet

-- a list of questions by sequence, and by second: the answer, and the answers and their marks afterwards
abbrev pub SkutFindsTsEach : State → List ℕ → List ℤ → List ℕ → ℕ → List ℤ → List ℕ → Answer → List ℤ → List ℕ → Type 0
SkutFindsTsEach t seqs secs keys round answers found r answers' found' =
    (r ≡ of_check (list_rule (table_of t) seqs secs (length keys) (length answers) (length found))) × TsLeft (table_of t) seqs secs keys (round_of round) answers found answers' found'

abbrev pub SkutFindsSeqEach : State → List ℕ → List ℤ → List ℤ → ℕ → List ℕ → List ℕ → Answer → List ℕ → List ℕ → Type 0
SkutFindsSeqEach t seqs secs keys round answers found r answers' found' =
    (r ≡ of_check (list_rule (table_of t) seqs secs (length keys) (length answers) (length found))) × SeqLeft (table_of t) seqs secs keys (round_of round) answers found answers' found'
