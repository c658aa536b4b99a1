-- No second answer fits a lookup's statement: the answer can be had back from what is told.
use mathlib.Core.Path.{◌≡◌, refl, sym, ap}
use Rattle.std.specs.Prelude.{Option, Some, None, Result, Ok, Err}
use Rattle.told.proofs.Unique.{same_gift, same-list, given_not_refused}
use Rattle.tracker.proofs.Unique.{undone, table-told}
use Rattle.tracker.specs.declared.Refusal.{Refusal}
use Rattle.tracker.specs.declared.Seq.{Seq}
use Rattle.tracker.specs.declared.Second.{Second}
use Rattle.lookup.specs.Find.{Partner, partner, nothing}
use Rattle.lookup.specs.Found.{partner_of, told_found, told_ts, told_seq}

option_of : {A : Type 0} → Partner A → Option A
option_of (partner a) = Some a
option_of nothing = None

-- the partner determines what was found
pub one_partner : {A : Type 0} (a b : Option A) → partner_of a ≡ partner_of b → a ≡ b
unfolding option_of
one_partner = undone partner_of option_of (λ o. back o)
  where
    back : {A : Type 0} (o : Option A) → option_of (partner_of o) ≡ o
    back (Some a) = refl
    back None = refl

pub one_found : {A : Type 0} (a b : Result (Option A) Refusal) → told_found a ≡ told_found b → a ≡ b
one_found (Ok a) (Ok b) e = ap Ok (one_partner a b (same_gift e))
one_found (Ok a) (Err b) e = given_not_refused e
one_found (Err a) (Ok b) e = given_not_refused (sym e)
one_found (Err a) (Err b) e = ap Err (table-told a b (same-list e))

pub one_ts : (a b : Result (Option Second) Refusal) → told_ts a ≡ told_ts b → a ≡ b
one_ts = one_found

pub one_seq : (a b : Result (Option Seq) Refusal) → told_seq a ≡ told_seq b → a ≡ b
one_seq = one_found
