-- No second outcome fits: answers of which the same is told are the same. Assumes nothing.
use Prim.Native.Nat.{ℕ}
use mathlib.Core.Path.{◌≡◌, refl, sym, ap, ◌∙◌}
use mathlib.Core.List.{List, [], ◌∷◌}
use native.Mathlib.Omega.{arith}
use lib.IntN.{ℤ}
use Rattle.std.specs.Prelude.{Result, Ok, Err}
use Rattle.told.specs.Told.{Told, told_by}
use Rattle.told.proofs.Unique.{given_not_refused, same-list, same_gift}
use Rattle.gorilla.specs.Array.{array_no}
use Rattle.gorilla.proofs.Unique.{array_told}
use Rattle.encoder.specs.Encode.{told, told_len, len_rule, Encodes}
use Rattle.encoder.specs.declared.Refusal.{Refusal}
use Rattle.encoder.specs.declared.Refusal.TheVariants as rv

-- the numbers of the refusals differ
abbrev number : List ℕ → ℕ
number [] = 0
number (n ∷ l) = n

apart : {X : Type 0} {k l : List ℕ} → k ≡ l → (number k ≡ number l → ⊥) → X
apart h f = absurd (f (ap number h))

pub refusal-told : (a b : Refusal) → told a ≡ told b → a ≡ b
refusal-told rv.LengthsDiffer rv.LengthsDiffer h = refl
refusal-told rv.LengthsDiffer rv.TooMany h = apart h (λ e. omega arith)
refusal-told rv.LengthsDiffer (rv.Wide a i) h = apart h (λ e. omega arith)
refusal-told rv.LengthsDiffer (rv.Room n) h = apart h (λ e. omega arith)
refusal-told rv.TooMany rv.LengthsDiffer h = apart h (λ e. omega arith)
refusal-told rv.TooMany rv.TooMany h = refl
refusal-told rv.TooMany (rv.Wide a i) h = apart h (λ e. omega arith)
refusal-told rv.TooMany (rv.Room n) h = apart h (λ e. omega arith)
refusal-told (rv.Wide a i) rv.LengthsDiffer h = apart h (λ e. omega arith)
refusal-told (rv.Wide a i) rv.TooMany h = apart h (λ e. omega arith)
refusal-told (rv.Wide a i) (rv.Wide b j) h =
    let n : array_no a ≡ array_no b = cc in
    let e : a ≡ b = array_told a b n in
    cc
refusal-told (rv.Wide a i) (rv.Room n) h = apart h (λ e. omega arith)
refusal-told (rv.Room n) rv.LengthsDiffer h = apart h (λ e. omega arith)
refusal-told (rv.Room n) rv.TooMany h = apart h (λ e. omega arith)
refusal-told (rv.Room n) (rv.Wide a i) h = apart h (λ e. omega arith)
refusal-told (rv.Room n) (rv.Room m) h = cc

-- what was given, and by what it was refused, back from what is told
pub one_told : (a b : Result ℕ Refusal) → told_by told a ≡ told_by told b → a ≡ b
one_told (Ok n) (Ok m) h = ap Ok (same_gift h)
one_told (Ok n) (Err r) h = given_not_refused h
one_told (Err r) (Ok m) h = given_not_refused (sym h)
one_told (Err r) (Err q) h = ap Err (refusal-told r q (same-list h))

-- `encoded_len`
pub one_len : (seqs : List ℕ) (secs : List ℤ) (a b : Result ℕ Refusal) → told_len a ≡ len_rule seqs secs → told_len b ≡ len_rule seqs secs → a ≡ b
one_len seqs secs a b h k = one_told a b (h ∙ sym k)

-- `encode` and `encode_strict`, each by its rule: its answer, and the buffer
pub one_encode : (rule : List ℕ → List ℤ → ℕ → Told ℕ) (seqs : List ℕ) (secs : List ℤ) (out : List ℕ) (a b : Result ℕ Refusal) (x y : List ℕ) → Encodes rule seqs secs out a x → Encodes rule seqs secs out b y
    → (a ≡ b) × (x ≡ y)
one_encode rule seqs secs out a b x y h k = (one_told a b (h.0 ∙ sym k.0), h.1 ∙ sym k.1)
