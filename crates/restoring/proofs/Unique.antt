-- No second outcome fits: answers of which the same is told are the same. The table's refusals have the numbers from 11 on, the
-- reader's those up to 10. Assumes nothing.
use Prim.Native.Nat.{ℕ, ◌≤◌}
use mathlib.Core.Path.{◌≡◌, sym, ap, ◌∙◌}
use mathlib.Core.List.{List}
use native.Mathlib.Omega.{arith}
use lib.IntN.{ℤ}
use Rattle.std.specs.Prelude.{Result}
use Rattle.told.specs.Over.{filled}
use Rattle.gorilla.specs.Reading.{pairs_read}
use Rattle.told.proofs.Unique.{one_result}
use Rattle.tracker.proofs.Unique.{number, table-number, table-told}
use Rattle.code_reader.specs.Refusal as reader
use Rattle.code_reader.specs.declared.Refusal as dec
use Rattle.code_reader.specs.declared.Refusal.TheVariants as dv
use Rattle.code_reader.proofs.Unique.{one-refusal}
use Rattle.tracker.specs.declared.SequenceTracker.{SequenceTracker}
use Rattle.restoring.specs.Restore.{told_refusal, told_restore, read_table, RestoresAt}
use Rattle.restoring.specs.declared.Refusal.{Refusal}
use Rattle.restoring.specs.declared.Refusal.TheVariants.{Table, Decoder}

reader_number : (r : dec.Refusal) → number (reader.told r) ≤ 10
reader_number dv.Empty = omega arith
reader_number (dv.Version b) = omega arith
reader_number dv.Header = omega arith
reader_number (dv.CountCut a p) = omega arith
reader_number (dv.TooMany a) = omega arith
reader_number (dv.FirstCut a p) = omega arith
reader_number (dv.CodeEnd a i p) = omega arith
reader_number (dv.PrefixCut a i p) = omega arith
reader_number (dv.DiffCut a i w p) = omega arith
reader_number (dv.CountDiffers a) = omega arith

-- refusals of which the same is told are the same
refusal_told : (a b : Refusal) → told_refusal a ≡ told_refusal b → a ≡ b
refusal_told (Table r) (Table q) h = ap Table (table-told r q h)
refusal_told (Table r) (Decoder q) h = absurd (omega (arith, ap number h, (table-number r).0, reader_number q))
refusal_told (Decoder r) (Table q) h = absurd (omega (arith, ap number h, (table-number q).0, reader_number r))
refusal_told (Decoder r) (Decoder q) h = ap Decoder (one-refusal r q h)

pub one_restore : (interval : ℕ) (bytes seqs : List ℕ) (secs : List ℤ) (a b : Result SequenceTracker Refusal) (x x' : List ℕ) (y y' : List ℤ)
    → RestoresAt interval bytes seqs secs a x y → RestoresAt interval bytes seqs secs b x' y' → (a ≡ b) × (x ≡ x') × (y ≡ y')
one_restore interval bytes seqs secs a b x x' y y' f g =
    let e : a ≡ b = one_result told_refusal refusal_told a b (f.0 ∙ sym g.0) in (
      e,
      f.1 ∙ ap (λ (r : Result SequenceTracker Refusal). filled (told_restore r) (pairs_read (read_table bytes)).seqs seqs) e ∙ sym g.1,
      f.2 ∙ ap (λ (r : Result SequenceTracker Refusal). filled (told_restore r) (pairs_read (read_table bytes)).secs secs) e ∙ sym g.2,
    )
