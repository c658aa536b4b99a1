-- No second outcome fits: answers of which the same is told are the same. Assumes nothing.
use Prim.Native.Nat.{ℕ}
use mathlib.Core.Path.{◌≡◌, sym, ap, ◌∙◌}
use mathlib.Core.List.{List}
use lib.IntN.{ℤ}
use Rattle.told.proofs.Unique.{given_not_refused, same-list, same_gift}
use Rattle.code_reader.proofs.Unique.{one-refusal}
use Rattle.decoder.specs.Decode.{Decodes, told_image_len, image_len_rule, rest_rule, rest_from, onwards}
use Rattle.std.specs.Prelude.{Result, Ok, Err}
use Rattle.code_reader.specs.Refusal.{told}
use Rattle.code_reader.specs.declared.Refusal.{Refusal}
use Rattle.told.specs.Told.{told_by}

-- `decode` and `image_len` tell their answers alike
same_told : (a b : Result ℕ Refusal) → told_by told a ≡ told_by told b → a ≡ b
same_told (Ok m) (Ok n) h = ap Ok (same_gift h)
same_told (Ok m) (Err s) h = given_not_refused h
same_told (Err r) (Ok n) h = given_not_refused (sym h)
same_told (Err r) (Err s) h = ap Err (one-refusal r s (same-list h))

-- `decode`: its answer, and both arrays
pub one_decode : (bytes seqs : List ℕ) (secs : List ℤ) (a b : Result ℕ Refusal) (x y : List ℕ) (u v : List ℤ) → Decodes bytes seqs secs a x u → Decodes bytes seqs secs b y v → (a ≡ b) × (x ≡ y) × (u ≡ v)
one_decode bytes seqs secs a b x y u v h k = (same_told a b (h.0 ∙ sym k.0), h.1 ∙ sym k.1, h.2 ∙ sym k.2)

-- `image_len`
pub one_image_len : (bytes : List ℕ) (a b : Result ℕ Refusal) → told_image_len a ≡ image_len_rule bytes → told_image_len b ≡ image_len_rule bytes → a ≡ b
one_image_len bytes a b h k = same_told a b (h ∙ sym k)

-- `rest`: its bytes, and where they stand, in a caller's bytes at p
pub one-rest : (bytes : List ℕ) (p : ℕ × ℕ) (x y : List ℕ) (q r : ℕ × ℕ)
    → (x ≡ rest_rule bytes) × (q ≡ onwards p (rest_from bytes)) → (y ≡ rest_rule bytes) × (r ≡ onwards p (rest_from bytes)) → (x ≡ y) × (q ≡ r)
one-rest bytes p x y q r h k = (h.0 ∙ sym k.0, h.1 ∙ sym k.1)
