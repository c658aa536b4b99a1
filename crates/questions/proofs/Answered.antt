-- Questions answered one after the other.
use Prim.Native.Nat.{ℕ, ◌+◌, ◌≤◌, ◌<◌}
use native.Mathlib.Omega.{arith}
use mathlib.Core.Path.{◌≡◌, refl, sym, ◌∙◌, ap}
use mathlib.Core.Logic.{⊎_elim}
use Rattle.told.specs.Told.{Told, gave}
use Rattle.told.proofs.Unique.{same_gift}
use Rattle.order.proofs.Bools.{below_or}
use Rattle.lookup.specs.Find.{Partner}
use Rattle.questions.specs.Answered.{Answered}

module _ {K P A : Type 0} (find : K → Told (Partner P)) (stands : Partner P → A) (key : ℕ → K) (before : ℕ → A) where
  pub answered_none : Answered find stands 0 key before before
  answered_none = record { used = λ i l. absurd (omega arith); unused = λ i _. refl }

  -- one more answer, in its place alone
  pub answered_more : (n : ℕ) (after next : ℕ → A) (p : Partner P) → find (key n) ≡ gave p → next n ≡ stands p → ((i : ℕ) → (i ≡ n → ⊥) → next i ≡ after i)
      → Answered find stands n key before after → Answered find stands (n + 1) key before next
  answered_more n after next p told here others a = record {
    used = λ i l. ⊎_elim
        (λ (b : i < n). let u = a.used i b in (u.0, u.1, others i (λ e. omega arith) ∙ u.2))
        (λ (b : n ≤ i). let e : i ≡ n = omega arith in (p, rw e told, rw e here))
        (below_or i n);
    unused = λ i l. others i (λ e. omega arith) ∙ a.unused i (omega arith);
  }

  -- what stands in a place is determined
  pub answered_once : (n : ℕ) (after after' : ℕ → A) → Answered find stands n key before after → Answered find stands n key before after' → (i : ℕ) → after i ≡ after' i
  answered_once n after after' a b i = ⊎_elim
      (λ (l : i < n).
      let u = a.used i l in
      let v = b.used i l in
      u.2 ∙ ap stands (same_gift (sym u.1 ∙ v.1)) ∙ sym v.2)
      (λ (l : n ≤ i). a.unused i l ∙ sym (b.unused i l))
      (below_or i n)

-- by a lookup that gives the same to the questions that are asked
pub answered_by : {K P A : Type 0} (find find' : K → Told (Partner P)) (stands : Partner P → A) (n : ℕ) (key : ℕ → K) (before after : ℕ → A)
    → ((x : K) → find x ≡ find' x) → Answered find stands n key before after → Answered find' stands n key before after
answered_by find find' stands n key before after same a = record {
  used = λ i l. let u = a.used i l in (u.0, sym (same (key i)) ∙ u.1, u.2);
  unused = a.unused;
}
