-- No second outcome fits: the answer can be had back from what is told, and the output follows from it. Assumes nothing.
use Prim.Native.Nat.{ℕ}
use mathlib.Core.Path.{◌≡◌, refl, sym, ap, ◌∙◌}
use mathlib.Core.Bool.{cond}
use mathlib.Core.List.{List}
use lib.IntN.{ℤ}
use Rattle.std.specs.Prelude.{Result, Ok, Err}
use Rattle.tracker.specs.declared.Second.{Second}
use lib.Dec.{eqb}
use lib.ListN.{length, get_or}
use Rattle.told.specs.Told.{Told, gave, refused}
use Rattle.told.specs.Over.{over}
use Rattle.tracker.proofs.Unique.{undone}
use Rattle.date_writer.proofs.Texts.{one_text}
use Rattle.dates.specs.Refusal.{told, told_written, told_read}
use Rattle.dates.specs.Read.{read_date}
use Rattle.dates.specs.Write.{write_date, LeavesDate, WritesDate}
use Rattle.dates.specs.declared.Refusal.{Refusal}
use Rattle.dates.specs.declared.Refusal.TheVariants as rv

abbrev refusal_of : List ℕ → Refusal
refusal_of l =
    let number = get_or l 0 0 in
    cond (eqb number 25) rv.NotTheGrammar
    (cond (eqb number 26) rv.NoSuchTime
    (cond (eqb number 27) rv.Outside (rv.Room (get_or l 1 0))))

refusal-back : (r : Refusal) → refusal_of (told r) ≡ r
refusal-back rv.NotTheGrammar = refl
refusal-back rv.NoSuchTime = refl
refusal-back rv.Outside = refl
refusal-back (rv.Room bytes) = refl

abbrev written_of : Told ℕ → Result ℕ Refusal
written_of (gave n) = Ok n
written_of (refused l) = Err (refusal_of l)

written_back : (a : Result ℕ Refusal) → written_of (told_written a) ≡ a
written_back (Ok n) = refl
written_back (Err r) = ap Err (refusal-back r)

abbrev read_of : Told ℤ → Result Second Refusal
read_of (gave z) = Ok (record { 0 = z })
read_of (refused l) = Err (refusal_of l)

read_back_lem : (a : Result Second Refusal) → read_of (told_read a) ≡ a
read_back_lem (Ok s) = refl
read_back_lem (Err r) = ap Err (refusal-back r)

-- `write_date`: its answer, and the output
pub one_left : (t : Told ℕ) (z : ℤ) (out x y : List ℕ) → LeavesDate t z out x → LeavesDate t z out y → x ≡ y
one_left (gave n) z out x y h k = h.2 ∙ ap (λ t. over t out) (one_text z h.0 k.0 h.1 k.1) ∙ sym k.2
one_left (refused l) z out x y h k = h ∙ sym k

pub one_written : (z : ℤ) (out : List ℕ) (a b : Result ℕ Refusal) (x y : List ℕ) → WritesDate z out a x → WritesDate z out b y → (a ≡ b) × (x ≡ y)
one_written z out a b x y h k = (undone told_written written_of written_back a b (h.0 ∙ sym k.0), one_left (write_date z (length out)) z out x y h.1 k.1)

-- `read_date`
pub one-read : (s : List ℕ) (a b : Result Second Refusal) → told_read a ≡ read_date s → told_read b ≡ read_date s → a ≡ b
one-read s a b h k = undone told_read read_of read_back_lem a b (h ∙ sym k)
