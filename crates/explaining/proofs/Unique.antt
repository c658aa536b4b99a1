-- No second answer fits the statement of `why_ts` or of `why_seq`: the answer can be had back from what is told.
use mathlib.Core.Path.{◌≡◌, sym, ap, ap₂}
use Rattle.std.specs.Prelude.{Result, Ok, Err, Option}
use Rattle.told.proofs.Unique.{same_gift, same-list, given_not_refused}
use Rattle.tracker.specs.declared.Refusal.{Refusal}
use Rattle.tracker.specs.declared.Seq.{Seq}
use Rattle.tracker.specs.declared.Second.{Second}
use Rattle.tracker.proofs.Unique.{table-told}
use Rattle.lookup.proofs.Unique.{one_partner}
use Rattle.explaining.specs.Why.{Why, told_why, told_why_ts, told_why_seq}
use Rattle.explaining.specs.declared.Reason.{Reason}
use Rattle.explaining.specs.declared.Why as answered

whole : {A : Type 0} → Reason → Option A → answered.Why A
whole r a = record { reason = r; answer = a }

pub one_why : {A : Type 0} (a b : Result (answered.Why A) Refusal) → told_why a ≡ told_why b → a ≡ b
unfolding whole
one_why (Ok a) (Ok b) e = ap Ok (ap₂ whole (ap (λ (w : Why _). w.reason) (same_gift e)) (one_partner a.answer b.answer (ap (λ (w : Why _). w.answer) (same_gift e))))
one_why (Ok a) (Err b) e = given_not_refused e
one_why (Err a) (Ok b) e = given_not_refused (sym e)
one_why (Err a) (Err b) e = ap Err (table-told a b (same-list e))

pub one_why_ts : (a b : Result (answered.Why Second) Refusal) → told_why_ts a ≡ told_why_ts b → a ≡ b
one_why_ts = one_why

pub one_why_seq : (a b : Result (answered.Why Seq) Refusal) → told_why_seq a ≡ told_why_seq b → a ≡ b
one_why_seq = one_why
