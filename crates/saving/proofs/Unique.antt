-- No second outcome fits: answers of which the same is told are the same. The table's refusals have the numbers 11 to 17 and 31,
-- the encoder's those from 18 to 21. Assumes nothing.
use Prim.Native.Nat.{ℕ, ◌≤◌}
use mathlib.Core.Path.{◌≡◌, sym, ap, ◌∙◌}
use mathlib.Core.Logic.{⊎_elim}
use mathlib.Core.List.{List}
use native.Mathlib.Omega.{arith}
use lib.IntN.{ℤ}
use Rattle.std.specs.Prelude.{Result}
use Rattle.told.specs.Told.{Told}
use Rattle.told.specs.Over.{filled}
use Rattle.told.proofs.Unique.{one_result}
use Rattle.tracker.specs.Refusal.{told}
use Rattle.tracker.specs.declared.Refusal as tracker
use Rattle.tracker.specs.declared.SequenceTracker.{SequenceTracker}
use Rattle.tracker.proofs.Unique.{number, table-number, table-told}
use Rattle.encoder.specs.Encode as encoder
use Rattle.encoder.specs.declared.Refusal as enc
use Rattle.encoder.specs.declared.Refusal.TheVariants as ev
use Rattle.encoder.proofs.Unique.{refusal-told}
use Rattle.saving.specs.Save.{told_refusal, told_save, kept_image, Saves}
use Rattle.saving.specs.declared.Refusal.{Refusal}
use Rattle.saving.specs.declared.Refusal.TheVariants.{Table, Encoder}

encoder_number : (r : enc.Refusal) → (18 ≤ number (encoder.told r)) × (number (encoder.told r) ≤ 21)
encoder_number ev.LengthsDiffer = (omega arith, omega arith)
encoder_number ev.TooMany = (omega arith, omega arith)
encoder_number (ev.Wide a i) = (omega arith, omega arith)
encoder_number (ev.Room n) = (omega arith, omega arith)

two_layers : (r : tracker.Refusal) (q : enc.Refusal) → number (told r) ≡ number (encoder.told q) → ⊥
two_layers r q e =
    ⊎_elim (λ (h : number (told r) ≤ 17). omega (arith, e, h, (encoder_number q).0)) (λ (h : number (told r) ≡ 31). omega (arith, e, h, (encoder_number q).1)) (table-number r).1

-- refusals of which the same is told are the same
same_refusal : (a b : Refusal) → told_refusal a ≡ told_refusal b → a ≡ b
same_refusal (Table r) (Table q) h = ap Table (table-told r q h)
same_refusal (Table r) (Encoder q) h = absurd (two_layers r q (ap number h))
same_refusal (Encoder r) (Table q) h = absurd (two_layers q r (ap number (sym h)))
same_refusal (Encoder r) (Encoder q) h = ap Encoder (refusal-told r q h)

save-told : (a b : Result ℕ Refusal) → told_save a ≡ told_save b → a ≡ b
save-told a b h = one_result told_refusal same_refusal a b h

module _ (table : SequenceTracker) (seqs : List ℕ) (secs : List ℤ) (out : List ℕ) where
  same-buffer : (a b : Result ℕ Refusal) (x y : List ℕ) → a ≡ b → x ≡ filled (told_save a) (kept_image table seqs secs) out → y ≡ filled (told_save b) (kept_image table seqs secs) out → x ≡ y
  same-buffer a b x y e f g = f ∙ ap (λ (s : Result ℕ Refusal). filled (told_save s) (kept_image table seqs secs) out) e ∙ sym g

  -- `save` and `save_strict`, each by its rule
  pub one-save : (rule : SequenceTracker → List ℕ → List ℤ → ℕ → Told ℕ) (a b : Result ℕ Refusal) (x y : List ℕ) → Saves rule table seqs secs out a x → Saves rule table seqs secs out b y → (a ≡ b) × (x ≡ y)
  one-save rule a b x y f g = let e = save-told a b (f.0 ∙ sym g.0) in (e, same-buffer a b x y e f.1 g.1)
