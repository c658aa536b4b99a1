-- A rule over the first n pairs, by the first place that breaks it.
use mathlib.Core.Path.{◌≡◌}
use mathlib.Core.Bool.{Bool}
use mathlib.Core.List.{[], ◌∷◌}
use Prim.Native.Nat.{ℕ}
use borrow.Author.Tests.{lt-ltb, le-ltb}
use Rattle.std.specs.Prelude.{Some, None}
use Rattle.told.specs.Told.{Told, refused}
use Rattle.order.specs.First.{first, found}
use Rattle.order.proofs.Taken.{found_at, not_found}
use Rattle.tracker.specs.Table.{broken_at}

module _ (number : ℕ) (t : ℕ → Bool) (n : ℕ) (next : Told (Unit {0})) where
  pub broken : (i : ℕ) → Some i ≡ found t n → refused (number ∷ i ∷ []) ≡ broken_at number (first t n) n next
  broken i h = let at = found_at t n i h in rw (← at.1, lt-ltb i n at.0)

  pub unbroken : None ≡ found t n → broken_at number (first t n) n next ≡ next
  unbroken h = rw (le-ltb (first t n) n (not_found t n h))
