-- No second answer fits what a call on many questions tells: the answer can be had back from it.
use mathlib.Core.Path.{◌≡◌, refl, sym, ap}
use mathlib.Core.Bool.{cond}
use mathlib.Core.List.{List}
use Prim.Native.Nat.{ℕ}
use lib.Dec.{eqb}
use Rattle.std.specs.Prelude.{Result, Ok, Err}
use Rattle.told.proofs.Unique.{same-list, same_gift, given_not_refused}
use Rattle.tracker.specs.Refusal as table
use Rattle.tracker.specs.declared.Refusal as tracker
use Rattle.tracker.specs.declared.Refusal.TheVariants.{Disagrees, SequenceDrops, SecondDrops, SecondOutside, Settings, OfferedOutside, OfferedDrops, TotalsFull}
use Rattle.tracker.proofs.Unique.{undone, refusal_of, number}
use Rattle.questions.specs.Asked.{told, told_asked}
use Rattle.questions.specs.declared.Refusal.{Refusal}
use Rattle.questions.specs.declared.Refusal.TheVariants.{TooMany, LengthsDiffer, Table}

why_of : List ℕ → Refusal
why_of l = cond (eqb (number l) 35) TooMany (cond (eqb (number l) 18) LengthsDiffer (Table (refusal_of l)))

asked-told : (a b : Refusal) → told a ≡ told b → a ≡ b
unfolding why_of
asked-told = undone told why_of (λ a. back a)
  where
    of-table : (r : tracker.Refusal) → why_of (table.told r) ≡ Table r
    of-table (SequenceDrops i) = refl
    of-table (SecondDrops i) = refl
    of-table (SecondOutside i) = refl
    of-table Disagrees = refl
    of-table Settings = refl
    of-table OfferedOutside = refl
    of-table OfferedDrops = refl
    of-table TotalsFull = refl

    back : (a : Refusal) → why_of (told a) ≡ a
    back TooMany = refl
    back LengthsDiffer = refl
    back (Table r) = of-table r

pub one_asked : (a b : Result (Unit {0}) Refusal) → told_asked a ≡ told_asked b → a ≡ b
one_asked (Ok a) (Ok b) e = ap Ok (same_gift e)
one_asked (Ok a) (Err b) e = given_not_refused e
one_asked (Err a) (Ok b) e = given_not_refused (sym e)
one_asked (Err a) (Err b) e = ap Err (asked-told a b (same-list e))
