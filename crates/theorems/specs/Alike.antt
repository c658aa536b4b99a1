-- What a table answers depends on the rest of its state, all of it but the totals, and on the pairs that it keeps, as long as the totals have room for the offers made.
use Rattle.std.specs.Prelude.{ℕ, ◌+◌, ◌≤◌, ◌≡◌, ◌↔◌, List, length, ℤ, Result}
use Rattle.told.specs.Told.{Told, gave}
use Rattle.told.specs.Over.{filled}
use Rattle.gorilla.specs.Reading.{Pairs}
use Rattle.totals.specs.Totals.{sum_of, most}
use Rattle.tracker.specs.Table.{kept}
use Rattle.tracker.specs.Rest.{rest_of}
use Rattle.tracker.specs.declared.Seq.{Seq}
use Rattle.tracker.specs.declared.Second.{Second}
use Rattle.tracker.specs.declared.TrackedSeq.{TrackedSeq}
use Rattle.lookup.specs.Find.{find_ts, find_seq}
use Rattle.lookup.specs.declared.FindOption.{FindOption}
use Rattle.explaining.specs.Why.{why_ts, why_seq}
use Rattle.questions.specs.declared.Refusal.{Refusal}
use Rattle.sheets.specs.Sheet.{FindsTs16, FindsSeq16}
use Rattle.sheets.specs.declared.TsSheet.{TsSheet}
use Rattle.sheets.specs.declared.SeqSheet.{SeqSheet}
use Rattle.sheets.specs.declared.TsSheetBack.{TsSheetBack}
use Rattle.sheets.specs.declared.SeqSheetBack.{SeqSheetBack}
use Rattle.question_lists.specs.Each.{FindsTsEach, FindsSeqEach}
use Rattle.offers.specs.Whole.{Table, check_in, Left}
use Rattle.offers.specs.Offer.{offering}
use Rattle.offers.specs.Rest.{offer_rest}
use Rattle.offer_log.specs.Log.{log_of}
use Rattle.offer_log.specs.Pairs.{pairs_log_of, extend_of}
use Rattle.offer_log.specs.Rest.{log_rest}
use Rattle.saving.specs.Save.{save_strict_of, save_of, kept_image}

-- the pairs that a table keeps
abbrev pub kept_in : Table → Pairs
kept_in w = record { seqs = kept w.state w.seqs; secs = kept w.state w.secs }

-- what `save_strict` tells, and what `save`, which is the Rust's, tells
abbrev pub strict_to : Table → List ℕ → Told ℕ
strict_to w out = save_strict_of w.state w.seqs w.secs (length out)

abbrev pub save_to : Table → List ℕ → Told ℕ
save_to w out = save_of w.state w.seqs w.secs (length out)

-- the image of the kept pairs, which a save writes
abbrev pub image_for : Table → List ℕ
image_for w = kept_image w.state w.seqs w.secs

-- two tables keep the same pairs; two tables are the same but for the totals, whole arrays and all
abbrev pub KeptAlike : Table → Table → Type 0
KeptAlike w v = kept_in w ≡ kept_in v

abbrev pub SameButTotals : Table → Table → Type 0
SameButTotals w v = (rest_of w.state ≡ rest_of v.state) × (w.seqs ≡ v.seqs) × (w.secs ≡ v.secs)

-- two tables are told the same but for the totals, and are so afterwards; `rest` is what is told without them
abbrev pub ToldAlike : {A : Type 0} → (Table → Table → Type 0) → (A → A) → Left A → Left A → Type 0
ToldAlike So rest l m = (rest l.answer ≡ rest m.answer) × So l.table m.table

-- each sheet and each list of questions comes to the same: what fits the statement for one table fits that for the other
pub record AskedAlike (w v : Table) (opt : FindOption) : Type 0 where
  pub by_ts_sheet : (s : TsSheet) (r : TsSheetBack) → FindsTs16 w.state w.seqs w.secs s opt r ↔ FindsTs16 v.state v.seqs v.secs s opt r
  pub by_seq_sheet : (s : SeqSheet) (r : SeqSheetBack) → FindsSeq16 w.state w.seqs w.secs s opt r ↔ FindsSeq16 v.state v.seqs v.secs s opt r
  pub ts_each : (keys : List ℕ) (answers : List ℤ) (found : List ℕ) (r : Result (Unit {0}) Refusal) (answers' : List ℤ) (found' : List ℕ)
      → FindsTsEach w.state w.seqs w.secs keys opt answers found r answers' found' ↔ FindsTsEach v.state v.seqs v.secs keys opt answers found r answers' found'
  pub seq_each : (keys : List ℤ) (answers : List ℕ) (found : List ℕ) (r : Result (Unit {0}) Refusal) (answers' : List ℕ) (found' : List ℕ)
      → FindsSeqEach w.state w.seqs w.secs keys opt answers found r answers' found' ↔ FindsSeqEach v.state v.seqs v.secs keys opt answers found r answers' found'

-- the law: two tables of which the check and the single lookups tell the same answer every sheet and every list so
abbrev pub AskedByLookups : Type 0
AskedByLookups = (w v : Table) → check_in w ≡ check_in v
    → ((x : Seq) (opt : FindOption) → find_ts w.state w.seqs w.secs x opt ≡ find_ts v.state v.seqs v.secs x opt)
    → ((x : Second) (opt : FindOption) → find_seq w.state w.seqs w.secs x opt ≡ find_seq v.state v.seqs v.secs x opt)
    → (opt : FindOption) → AskedAlike w v opt

-- two tables answer alike, where up to m more offers may come, and are so after these
pub record AnswerAlike (So : Table → Table → Type 0) (m : ℕ) (w v : Table) : Type 0 where
  pub by_check : check_in w ≡ check_in v
  -- an offer; each list of offers, as records and as two lists; each other table's pairs, and each other table that takes the pairs of this one
  pub by_offer : (seq : Seq) (ts : Second) → 1 ≤ m → ToldAlike So offer_rest (offering w seq ts) (offering v seq ts)
  pub by_log : (rs : List TrackedSeq) → length rs ≤ m → ToldAlike So log_rest (log_of w rs) (log_of v rs)
  pub by_pairs : (qs : List ℕ) (ss : List ℤ) → (length qs ≡ length ss → length qs ≤ m) → ToldAlike So log_rest (pairs_log_of w qs ss) (pairs_log_of v qs ss)
  pub by_other : (other : Table) → (check_in other ≡ gave tt → other.state.count ≤ m) → ToldAlike So log_rest (extend_of w other) (extend_of v other)
  pub as_other : (other : Table) → extend_of other w ≡ extend_of other v
  -- each lookup
  pub by_seq : (x : Seq) (opt : FindOption) → find_ts w.state w.seqs w.secs x opt ≡ find_ts v.state v.seqs v.secs x opt
  pub by_second : (x : Second) (opt : FindOption) → find_seq w.state w.seqs w.secs x opt ≡ find_seq v.state v.seqs v.secs x opt
  -- each lookup with its reason
  pub by_why_seq : (x : Seq) (opt : FindOption) → why_ts w.state w.seqs w.secs x opt ≡ why_ts v.state v.seqs v.secs x opt
  pub by_why_second : (x : Second) (opt : FindOption) → why_seq w.state w.seqs w.secs x opt ≡ why_seq v.state v.seqs v.secs x opt
  -- each sheet and each list of questions
  pub by_asked : (opt : FindOption) → AskedAlike w v opt
  -- each save, strict or not, and the buffer after it
  pub by_strict : (out : List ℕ) → (strict_to w out ≡ strict_to v out) × (filled (strict_to w out) (image_for w) out ≡ filled (strict_to v out) (image_for v) out)
  pub by_save : (out : List ℕ) → (save_to w out ≡ save_to v out) × (filled (save_to w out) (image_for w) out ≡ filled (save_to v out) (image_for v) out)

-- the totals of a table have room for m more offers
abbrev pub Room : ℕ → Table → Type 0
Room m w = sum_of w.state.totals + m ≤ most

-- the law: two tables, good or not, that are the same but for the totals answer alike, and stay so
abbrev pub RestAlone : Type 0
RestAlone = (m : ℕ) (w v : Table) → SameButTotals w v → Room m w → Room m v → AnswerAlike SameButTotals m w v
