-- No second answer fits a statement: the answer can be had back from what is told. A table's refusals have the numbers 11 to 17 and 31,
-- so that none is another layer's.
use mathlib.Core.Path.{◌≡◌, refl, sym, ap, ◌∙◌}
use mathlib.Core.Logic.{◌⊎◌, inl, inr}
use mathlib.Core.Bool.{cond}
use mathlib.Core.List.{List}
use Prim.Native.Nat.{ℕ, ◌≤◌}
use native.Mathlib.Omega.{arith}
use lib.Dec.{eqb}
use lib.ListN.{get_or}
use Rattle.std.specs.Prelude.{Result, Ok, Err}
use Rattle.told.specs.Told.{Told, refused, told_by}
use Rattle.told.proofs.Unique.{same-list, same_gift, given_not_refused}
use Rattle.tracker.specs.Refusal.{told, told_check}
use Rattle.tracker.specs.declared.Refusal.{Refusal}
use Rattle.tracker.specs.declared.Refusal.TheVariants.{Disagrees, SequenceDrops, SecondDrops, SecondOutside, Settings, OfferedOutside, OfferedDrops, TotalsFull}

-- where f can be undone, equal values come from equal ones
pub undone : {A B : Type 0} (f : A → B) (g : B → A) → ((a : A) → g (f a) ≡ a) → (a b : A) → f a ≡ f b → a ≡ b
undone f g back a b e = sym (back a) ∙ ap g e ∙ back b

abbrev pub refusal_of : List ℕ → Refusal
refusal_of l =
    let number = get_or l 0 0 in
    let index = get_or l 1 0 in
    cond (eqb number 11) (SequenceDrops index)
    (cond (eqb number 12) (SecondDrops index)
    (cond (eqb number 13) (SecondOutside index)
    (cond (eqb number 14) Disagrees
    (cond (eqb number 15) Settings
    (cond (eqb number 16) OfferedOutside
    (cond (eqb number 17) OfferedDrops TotalsFull))))))

pub refusal-back : (r : Refusal) → refusal_of (told r) ≡ r
refusal-back (SequenceDrops i) = refl
refusal-back (SecondDrops i) = refl
refusal-back (SecondOutside i) = refl
refusal-back Disagrees = refl
refusal-back Settings = refl
refusal-back OfferedOutside = refl
refusal-back OfferedDrops = refl
refusal-back TotalsFull = refl

pub table-told : (a b : Refusal) → told a ≡ told b → a ≡ b
table-told a b h = undone told refusal_of refusal-back a b h

-- a refusal's number
abbrev pub number : List ℕ → ℕ
number l = get_or l 0 0

pub table-number : (r : Refusal) → (11 ≤ number (told r)) × ((number (told r) ≤ 17) ⊎ (number (told r) ≡ 31))
table-number (SequenceDrops i) = (omega arith, inl (omega arith))
table-number (SecondDrops i) = (omega arith, inl (omega arith))
table-number (SecondOutside i) = (omega arith, inl (omega arith))
table-number Disagrees = (omega arith, inl (omega arith))
table-number Settings = (omega arith, inl (omega arith))
table-number OfferedOutside = (omega arith, inl (omega arith))
table-number OfferedDrops = (omega arith, inl (omega arith))
table-number TotalsFull = (omega arith, inr refl)

-- refusals of two layers are two
pub apart : {X : Type 0} {A : Type 0} (k l : List ℕ) → (number k ≡ number l → ⊥) → ◌≡◌ {A = Told A} (refused k) (refused l) → X
apart k l differ e = absurd (differ (ap number (same-list e)))

-- what was given, and by what it was refused, back from what is told
pub one_told : {A : Type 0} (a b : Result A Refusal) → told_by told a ≡ told_by told b → a ≡ b
one_told (Ok a) (Ok b) e = ap Ok (same_gift e)
one_told (Ok a) (Err b) e = given_not_refused e
one_told (Err a) (Ok b) e = given_not_refused (sym e)
one_told (Err a) (Err b) e = ap Err (table-told a b (same-list e))

pub one-check : (a b : Result (Unit {0}) Refusal) → told_check a ≡ told_check b → a ≡ b
one-check = one_told
