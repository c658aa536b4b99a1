-- No second outcome fits: answers of which the same is told are the same. Assumes nothing.
use Prim.Native.Nat.{ℕ}
use mathlib.Core.Path.{◌≡◌, refl, sym, ap, ◌∙◌}
use mathlib.Core.List.{List}
use native.Mathlib.Omega.{arith}
use Rattle.told.proofs.Unique.{given_not_refused, same_gift}
use Rattle.bits.specs.Read.{Piece, told_read, read_rule}
use Rattle.bits.specs.Write.{told_write, Writes}
use Rattle.bits.specs.declared.Place.{Place}
use Rattle.bits.specs.declared.ReadRefusal.{ReadRefusal}
use Rattle.bits.specs.declared.ReadRefusal.TheVariants as rv
use Rattle.bits.specs.declared.WriteRefusal.{WriteRefusal}
use Rattle.bits.specs.declared.WriteRefusal.TheVariants as wv
use Rattle.std.specs.Prelude.{Result, Ok, Err}

read_told : (a b : Result (ℕ × Place) ReadRefusal) → told_read a ≡ told_read b → a ≡ b
read_told (Ok a) (Ok b) h =
    let e : ◌≡◌ {A = Piece} (record { value = a.0; next = a.1 }) (record { value = b.0; next = b.1 }) = same_gift h in
    ap {B = Result (ℕ × Place) ReadRefusal} (λ (x : Piece). Ok (x.value, x.next)) e
read_told (Ok a) (Err e) h = given_not_refused h
read_told (Err e) (Ok b) h = given_not_refused (sym h)
read_told (Err rv.Width) (Err rv.Width) h = refl
read_told (Err rv.Width) (Err (rv.Short n)) h = let z : ◌≡◌ {A = ℕ} 23 24 = cc in absurd (omega arith)
read_told (Err (rv.Short n)) (Err rv.Width) h = let z : ◌≡◌ {A = ℕ} 24 23 = cc in absurd (omega arith)
read_told (Err (rv.Short n)) (Err (rv.Short m)) h = cc

write_told : (a b : Result Place WriteRefusal) → told_write a ≡ told_write b → a ≡ b
write_told (Ok p) (Ok q) h = cc
write_told (Ok p) (Err e) h = given_not_refused h
write_told (Err e) (Ok q) h = given_not_refused (sym h)
write_told (Err wv.Width) (Err wv.Width) h = refl
write_told (Err wv.Width) (Err (wv.Short n)) h = let z : ◌≡◌ {A = ℕ} 23 21 = cc in absurd (omega arith)
write_told (Err (wv.Short n)) (Err wv.Width) h = let z : ◌≡◌ {A = ℕ} 21 23 = cc in absurd (omega arith)
write_told (Err (wv.Short n)) (Err (wv.Short m)) h = cc

-- `read_bits`, and `read_from`, whose statement is the same
pub one-read : (s : List ℕ) (at : Place) (n : ℕ) (a b : Result (ℕ × Place) ReadRefusal) → told_read a ≡ read_rule s at n → told_read b ≡ read_rule s at n → a ≡ b
one-read s at n a b h k = read_told a b (h ∙ sym k)

-- `write_bits`: its answer, and the buffer
pub one_write : (s : List ℕ) (at : Place) (v n : ℕ) (a b : Result Place WriteRefusal) (x y : List ℕ) → Writes s at v n a x → Writes s at v n b y → (a ≡ b) × (x ≡ y)
one_write s at v n a b x y h k = (write_told a b (h.0 ∙ sym k.0), h.1 ∙ sym k.1)
