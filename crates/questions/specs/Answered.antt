-- Many questions, answered place by place.
use Rattle.std.specs.Prelude.{ℕ, ◌≤◌, ◌<◌, ◌≡◌}
use Rattle.told.specs.Told.{Told, gave}
use Rattle.lookup.specs.Find.{Partner}

-- `key` has the question of each place, `before` and `after` what stands there before and after the call. To each of the first n questions
-- the single lookup `find` gives an answer, and that stands in its place; the places from n on are untouched
pub record Answered {K P A : Type 0} (find : K → Told (Partner P)) (stands : Partner P → A) (n : ℕ) (key : ℕ → K) (before after : ℕ → A) : Type 0 where
  pub used : (i : ℕ) → i < n → (p : Partner P) × (find (key i) ≡ gave p) × (after i ≡ stands p)
  pub unused : (i : ℕ) → n ≤ i → after i ≡ before i
