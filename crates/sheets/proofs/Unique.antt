-- No second outcome fits the statement of a sheet.
use Prim.Native.Nat.{ℕ}
use mathlib.Core.Path.{◌≡◌, sym, ◌∙◌, ap}
use mathlib.Core.List.{List}
use lib.IntN.{ℤ}
use lib.Seq.{ext_get_or}
use Rattle.told.specs.Told.{Told, gave, refused}
use Rattle.tracker.specs.declared.Seq.{Seq}
use Rattle.tracker.specs.declared.Second.{Second}
use Rattle.tracker.specs.declared.SequenceTracker.{SequenceTracker}
use Rattle.lookup.specs.Find.{Partner, nothing}
use Rattle.lookup.specs.declared.FindOption.{FindOption}
use Rattle.questions.specs.declared.TsAnswer.{TsAnswer}
use Rattle.questions.specs.declared.SeqAnswer.{SeqAnswer}
use Rattle.questions.proofs.Answered.{answered_once}
use Rattle.questions.proofs.Unique.{one_asked}
use Rattle.sheets.specs.Sheet.{Sheet, Filled, ComesBack, sheet_rule, TsBack, SeqBack, FindsTs16, FindsSeq16, ts_sheet, seq_sheet}
use Rattle.sheets.specs.declared.TsSheet.{TsSheet}
use Rattle.sheets.specs.declared.SeqSheet.{SeqSheet}
use Rattle.sheets.specs.declared.TsSheetBack.{TsSheetBack}
use Rattle.sheets.specs.declared.SeqSheetBack.{SeqSheetBack}

-- two sheets with the same parts are the same
same-sheet : {K A : Type 0} (s t : Sheet K A) → s.keys ≡ t.keys → s.answers ≡ t.answers → s.used ≡ t.used → s ≡ t
same-sheet s t e f g = rw (e, f, g)

module _ {K P A : Type 0} (k : K) (find : K → Told (Partner P)) (stands : Partner P → A) where
  one-filled : (n : ℕ) (s b c : Sheet K A) → Filled k find stands n s b → Filled k find stands n s c → b ≡ c
  one-filled n s b c f g = same-sheet b c
      (f.same_keys ∙ sym g.same_keys)
      (ext_get_or (stands nothing) b.answers c.answers (f.same_length ∙ sym g.same_length) (λ i _. answered_once find stands _ _ n _ _ f.each g.each i))
      (f.same_used ∙ sym g.same_used)

  one-back : (told : Told (Unit {0})) (s b c : Sheet K A) → ComesBack k find stands told s b → ComesBack k find stands told s c → b ≡ c
  one-back (gave _) s b c f g = one-filled s.used s b c f g
  one-back (refused what) s b c f g = f ∙ sym g

-- a sheet is its three parts
ts_parts : (s t : TsSheet) → ts_sheet s ≡ ts_sheet t → s ≡ t
ts_parts s t e = ap (λ (u : Sheet Seq TsAnswer). record { keys = u.keys; answers = u.answers; used = u.used }) e

seq_parts : (s t : SeqSheet) → seq_sheet s ≡ seq_sheet t → s ≡ t
seq_parts s t e = ap (λ (u : Sheet Second SeqAnswer). record { keys = u.keys; answers = u.answers; used = u.used }) e

-- of what comes back
pub one_ts_back : (table : SequenceTracker) (seqs : List ℕ) (secs : List ℤ) (s : TsSheet) (opt : FindOption) (b₁ b₂ : TsSheet)
    → TsBack table seqs secs s opt b₁ → TsBack table seqs secs s opt b₂ → b₁ ≡ b₂
one_ts_back table seqs secs s opt b₁ b₂ f g = ts_parts b₁ b₂ (one-back _ _ _ (sheet_rule table seqs secs s.used) (ts_sheet s) (ts_sheet b₁) (ts_sheet b₂) f g)

pub one_seq_back : (table : SequenceTracker) (seqs : List ℕ) (secs : List ℤ) (s : SeqSheet) (opt : FindOption) (b₁ b₂ : SeqSheet)
    → SeqBack table seqs secs s opt b₁ → SeqBack table seqs secs s opt b₂ → b₁ ≡ b₂
one_seq_back table seqs secs s opt b₁ b₂ f g = seq_parts b₁ b₂ (one-back _ _ _ (sheet_rule table seqs secs s.used) (seq_sheet s) (seq_sheet b₁) (seq_sheet b₂) f g)

-- of `find_ts_16` and `find_seq_16`
pub one_ts_16 : (table : SequenceTracker) (seqs : List ℕ) (secs : List ℤ) (s : TsSheet) (opt : FindOption) (r₁ r₂ : TsSheetBack)
    → FindsTs16 table seqs secs s opt r₁ → FindsTs16 table seqs secs s opt r₂ → r₁ ≡ r₂
one_ts_16 table seqs secs s opt r₁ r₂ f g = rw (one_asked r₁.asked r₂.asked (f.0 ∙ sym g.0), one_ts_back table seqs secs s opt r₁.sheet r₂.sheet f.1 g.1)

pub one_seq_16 : (table : SequenceTracker) (seqs : List ℕ) (secs : List ℤ) (s : SeqSheet) (opt : FindOption) (r₁ r₂ : SeqSheetBack)
    → FindsSeq16 table seqs secs s opt r₁ → FindsSeq16 table seqs secs s opt r₂ → r₁ ≡ r₂
one_seq_16 table seqs secs s opt r₁ r₂ f g = rw (one_asked r₁.asked r₂.asked (f.0 ∙ sym g.0), one_seq_back table seqs secs s opt r₁.sheet r₂.sheet f.1 g.1)
