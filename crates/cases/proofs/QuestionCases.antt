-- The cases of many questions, by computation at each place; and what may not come back.
use mathlib.Core.Path.{◌≡◌, refl, sym, ◌∙◌, ap}
use Prim.Native.Nat.{ℕ, zero, suc, ◌≤◌, ◌<◌}
use native.Mathlib.Omega.{arith}
use lib.Signed.{mag}
use Rattle.told.specs.Told.{Told, gave}
use Rattle.told.proofs.Unique.{same_gift}
use Rattle.order.specs.First.{first_from, last_or}
use Rattle.lookup.specs.Find.{Partner, partner, nothing}
use Rattle.questions.specs.Answered.{Answered}
use Rattle.questions.specs.declared.TsAnswer.{TsAnswer}
use Rattle.keeping.specs.Keep.{evens}
use Rattle.offer_log.specs.Pairs.{records_of}
use Rattle.theorems.specs.Run.{step, ran_to}
use Rattle.cases.specs.Given.{second}
use Rattle.cases.specs.QuestionCases.{QuestionCases}

module _ {K P A : Type 0} (find : K → Told (Partner P)) (stands : Partner P → A) (key : ℕ → K) (before after : ℕ → A) where
  -- three questions, one by one
  of_three : (a b c : Partner P) → find (key 0) ≡ gave a → find (key 1) ≡ gave b → find (key 2) ≡ gave c
      → after 0 ≡ stands a → after 1 ≡ stands b → after 2 ≡ stands c → ((i : ℕ) → after (suc (suc (suc i))) ≡ before (suc (suc (suc i))))
      → Answered find stands 3 key before after
  of_three a b c fa fb fc ea eb ec others = record { used = λ i l. at i l; unused = λ i l. past i l }
    where
      at : (i : ℕ) → i < 3 → (p : Partner P) × (find (key i) ≡ gave p) × (after i ≡ stands p)
      at zero l = (a, fa, ea)
      at (suc zero) l = (b, fb, eb)
      at (suc (suc zero)) l = (c, fc, ec)
      at (suc (suc (suc i))) l = absurd (omega arith)

      past : (i : ℕ) → 3 ≤ i → after i ≡ before i
      past zero l = absurd (omega arith)
      past (suc zero) l = absurd (omega arith)
      past (suc (suc zero)) l = absurd (omega arith)
      past (suc (suc (suc i))) l = others i

  -- what has to stand in a place
  answer_is : (n i : ℕ) (p : Partner P) → Answered find stands n key before after → i < n → find (key i) ≡ gave p → after i ≡ stands p
  answer_is n i p h l e = let u = h.used i l in u.2 ∙ ap stands (same_gift (sym u.1 ∙ e))

-- the second of an answer, from 0 up
amount : TsAnswer → ℕ
amount a = mag a.second.0

pub question_cases : QuestionCases
unfolding amount ran_to step records_of first_from last_or evens
question_cases = record {
  sheet = (
    (refl, record { same_keys = refl; same_used = refl; same_length = refl; each = of_three _ _ _ _ _ _ _ _ refl refl refl refl refl refl (λ i. refl) }),
    (refl, record { same_keys = refl; same_used = refl; same_length = refl; each = of_three _ _ _ _ _ _ _ _ refl refl refl refl refl refl (λ i. refl) }),
  );
  by_second = (
    (refl, record { same_keys = refl; same_used = refl; same_length = refl; each = of_three _ _ _ _ _ _ _ _ refl refl refl refl refl refl (λ i. refl) }),
    (refl, record { same_keys = refl; same_used = refl; same_length = refl; each = of_three _ _ _ _ _ _ _ _ refl refl refl refl refl refl (λ i. refl) }),
  );
  excluded = (
    λ h. omega (arith, ap amount (answer_is _ _ _ _ _ 3 2 (partner (second 10)) h.1.each (omega arith) refl)),
    λ h. omega (arith, ap amount (answer_is _ _ _ _ _ 3 0 (partner (second 30)) h.1.each (omega arith) refl)),
    λ h. omega (arith, ap amount (answer_is _ _ _ _ _ 3 1 nothing h.1.each (omega arith) refl)),
  );
  unused = λ h. omega (arith, ap amount (h.1.each.unused 3 (omega arith)));
  order = (refl, refl, refl);
  list = (
    (refl, record { same_answers = refl; same_found = refl; each = of_three _ _ _ _ _ _ _ _ refl refl refl refl refl refl (λ i. refl) }),
    (refl, record { same_answers = refl; same_found = refl; each = record { used = λ i l. absurd (omega arith); unused = λ i l. refl } }),
  );
  list_order = (refl, refl, refl);
}
