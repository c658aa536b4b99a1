-- The search for a difference of deltas that is not strict. A walk over the array holds a value with its delta, t, and the
-- index i of the value x that is next. Assumes nothing.
use Rattle.std.proofs.Common.{◌≡◌, ℕ, ◌+◌, ◌≤◌, Bool, true, false, cond, List, ◌∷◌, [], map, length, drop, ℤ, sym, refl, ap, ◌∙◌, arith, drop_of_length-le}
use lib.ListN.{length-map}
use Rattle.told.specs.Told.{gave, refused}
use Rattle.gorilla.specs.declared.Track.{Track}
use Rattle.gorilla.specs.declared.Coded.{Coded}
use Rattle.gorilla.specs.Rows.{strict}
use Rattle.gorilla.specs.Inner.{advanced}
use Rattle.gorilla.specs.Wide.{wide_after, wide_in}

pub wide_none : {A : Type 0} (a : ℕ) (f : A → ℤ) (xs : List A) → length xs ≡ 0 → gave tt ≡ wide_in a (map f xs)
unfolding wide_in
wide_none a f [] h = refl
wide_none a f (x ∷ xs) h = absurd (omega (arith, h))

pub wide_end : {A : Type 0} (a j i : ℕ) (p e : ℤ) (f : A → ℤ) (xs : List A) → length xs ≤ i → gave tt ≡ wide_after a j p e (drop i (map f xs))
unfolding wide_after
wide_end a j i p e f xs h = let k : length (map f xs) ≤ i = omega (arith, h, length-map xs f) in rw (drop_of_length-le (map f xs) k)

module _ (a i : ℕ) (t : Track) (x : ℤ) (xs : List ℤ) (c : Coded) (z : ℤ) (e : c ≡ advanced t x) (f : z ≡ c.dod) where
  step : wide_after a i t.prev t.delta (x ∷ xs) ≡ cond (strict z) (wide_after a (i + 1) c.next.prev c.next.delta xs) (refused (20 ∷ a ∷ i ∷ []))
  unfolding wide_after
  step = ap (λ (k : Coded). cond (strict k.dod) (wide_after a (i + 1) k.next.prev k.next.delta xs) (refused (20 ∷ a ∷ i ∷ []))) (sym e)
      ∙ ap (λ (y : ℤ). cond (strict y) (wide_after a (i + 1) c.next.prev c.next.delta xs) (refused (20 ∷ a ∷ i ∷ []))) (sym f)

  pub wide_next : strict z ≡ true → wide_after a (i + 1) c.next.prev c.next.delta xs ≡ wide_after a i t.prev t.delta (x ∷ xs)
  wide_next s = sym (step ∙ ap (λ (b : Bool). cond b (wide_after a (i + 1) c.next.prev c.next.delta xs) (refused (20 ∷ a ∷ i ∷ []))) s)

  pub wide_here : strict z ≡ false → refused (20 ∷ a ∷ i ∷ []) ≡ wide_after a i t.prev t.delta (x ∷ xs)
  wide_here s = sym (step ∙ ap (λ (b : Bool). cond b (wide_after a (i + 1) c.next.prev c.next.delta xs) (refused (20 ∷ a ∷ i ∷ []))) s)
