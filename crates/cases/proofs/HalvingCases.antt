-- The cases of halving, by computation; and what may not be kept.
use mathlib.Core.Path.{◌≡◌, refl, ap, ◌∙◌}
use mathlib.Core.List.{List, [], ◌∷◌}
use Prim.Native.Nat.{ℕ, zero, suc, ◌-◌, ◌≤◌, ◌<◌}
use native.Mathlib.Omega.{arith}
use lib.ListN.{length}
use Rattle.order.specs.First.{first_from, last_or}
use Rattle.tracker.specs.declared.TrackedSeq.{TrackedSeq}
use Rattle.keeping.specs.Keep.{evens}
use Rattle.offer_log.specs.Pairs.{records_of}
use Rattle.theorems.specs.Run.{step, ran_to}
use Rattle.halving.specs.History.{recorded_of, halvings_of}
use Rattle.halving.specs.Coarse.{pair_at, Places, Coarse}
use Rattle.cases.specs.Given.{pair, first_of}
use Rattle.cases.specs.HalvingCases.{past, HalvingCases}

-- the sequence at a place
seq_at : List TrackedSeq → ℕ → ℕ
seq_at pairs i = (pair_at pairs i).seq.0

-- the first kept pair is the first recorded one, and the last the newest
module _ (rec kept : List TrackedSeq) (P : Places rec kept) (some : 0 < length rec) where
  first_is : seq_at kept 0 ≡ seq_at rec 0
  unfolding seq_at
  first_is = let f = P.first some in ap (λ r. r.seq.0) ((P.each 0 f.0).1 ∙ ap (pair_at rec) f.1)

  last_is : seq_at kept (length kept - 1) ≡ seq_at rec (length rec - 1)
  unfolding seq_at
  last_is = let f = P.first some in ap (λ r. r.seq.0) ((P.each (length kept - 1) (omega (arith, f.0))).1 ∙ ap (pair_at rec) (P.newest some))

pub halving_cases : HalvingCases
unfolding seq_at ran_to step recorded_of halvings_of records_of first_from last_or evens
halving_cases = record {
  none = refl;
  one = refl;
  two = refl;
  asked = (refl, refl);
  four = (refl, refl, refl);
  fresh = refl;
  counts = (refl, refl, refl, refl, refl);
  odd = (refl, λ c. omega (arith, last_is (first_of 2) (pair 1 10 ∷ []) c.places (omega arith)));
  odd_order = refl;
  zero = (refl, λ c. omega (arith, last_is (first_of 2) (pair 1 10 ∷ []) c.places (omega arith)));
  excluded = (
    λ c. omega (arith, first_is (first_of 5) (pair 2 20 ∷ pair 4 40 ∷ []) c.places (omega arith)),
    λ c. omega (arith, last_is (first_of 5) (pair 1 10 ∷ pair 3 30 ∷ []) c.places (omega arith)),
    λ c. omega (arith, c.near 0 (omega arith), (c.places.first (omega arith)).1, c.places.newest (omega arith)),
  );
  narrower = λ c. near_first c (c.places.at 1) refl (omega (arith, c.near 0 (omega arith), (c.places.first (omega arith)).1));
}
  where
    near_first : (c : Coarse (past 4 1 (first_of 7) (pair 1 10 ∷ pair 5 50 ∷ pair 7 70 ∷ []))) (x : ℕ) → c.places.at 1 ≡ x → x ≤ 2 → ⊥
    near_first c x e h = there x h (ap (λ r. r.seq.0) (c.places.each 1 (omega arith)).1 ∙ ap (seq_at (first_of 7)) e)
      where
        there : (x : ℕ) → x ≤ 2 → 5 ≡ seq_at (first_of 7) x → ⊥
        there zero h e = omega arith
        there (suc zero) h e = omega arith
        there (suc (suc zero)) h e = omega arith
        there (suc (suc (suc x))) h e = omega arith
