-- What comes back depends on the table by what is told and by the single lookups alone.
use Prim.Native.Nat.{ℕ}
use mathlib.Core.Path.{◌≡◌, subst, ◌∙◌}
use mathlib.Core.List.{List}
use lib.IntN.{ℤ}
use Rattle.told.specs.Told.{Told, gave, refused}
use Rattle.tracker.specs.Table.{check_of}
use Rattle.tracker.specs.declared.Seq.{Seq}
use Rattle.tracker.specs.declared.Second.{Second}
use Rattle.tracker.specs.declared.SequenceTracker.{SequenceTracker}
use Rattle.lookup.specs.Find.{Partner, find_ts, find_seq}
use Rattle.lookup.specs.declared.FindOption.{FindOption}
use Rattle.sheets.specs.Sheet.{Sheet, ComesBack, sheet_rule, FindsTs16, FindsSeq16}
use Rattle.sheets.specs.declared.TsSheet.{TsSheet}
use Rattle.sheets.specs.declared.SeqSheet.{SeqSheet}
use Rattle.sheets.specs.declared.TsSheetBack.{TsSheetBack}
use Rattle.sheets.specs.declared.SeqSheetBack.{SeqSheetBack}
use Rattle.sheets.proofs.Fill.{filled-by}

module _ {K P A : Type 0} (k : K) (find find' : K → Told (Partner P)) (stands : Partner P → A) (same : (x : K) → find x ≡ find' x) where
  back_by : (told told' : Told (Unit {0})) (s b : Sheet K A) → told ≡ told' → ComesBack k find stands told s b → ComesBack k find' stands told' s b
  back_by told told' s b e h = subst (λ (t : Told (Unit {0})). ComesBack k find' stands t s b) e (go told h)
    where
      go : (t : Told (Unit {0})) → ComesBack k find stands t s b → ComesBack k find' stands t s b
      go (gave _) f = filled-by k find find' stands s.used s b same f
      go (refused what) f = f

module _ (t t' : SequenceTracker) (seqs seqs' : List ℕ) (secs secs' : List ℤ) (check : check_of t seqs secs ≡ check_of t' seqs' secs') (opt : FindOption) where
  same-told : (used : ℕ) → sheet_rule t seqs secs used ≡ sheet_rule t' seqs' secs' used
  same-told used = rw check

  pub ts_alike : ((x : Seq) → find_ts t seqs secs x opt ≡ find_ts t' seqs' secs' x opt) → (s : TsSheet) (r : TsSheetBack) → FindsTs16 t seqs secs s opt r → FindsTs16 t' seqs' secs' s opt r
  ts_alike same s r f = (f.0 ∙ same-told s.used, back_by _ _ _ _ same _ _ _ _ (same-told s.used) f.1)

  pub seq_alike : ((x : Second) → find_seq t seqs secs x opt ≡ find_seq t' seqs' secs' x opt) → (s : SeqSheet) (r : SeqSheetBack) → FindsSeq16 t seqs secs s opt r → FindsSeq16 t' seqs' secs' s opt r
  seq_alike same s r f = (f.0 ∙ same-told s.used, back_by _ _ _ _ same _ _ _ _ (same-told s.used) f.1)
