-- Refusal 20: the first difference of deltas outside -2^31..2^31-1, sequences before seconds, told with its array and its index.
-- Array 0 is the sequences, and array 1 the seconds.
use Rattle.std.specs.Prelude.{ℕ, ◌+◌, cond, List, [], ◌∷◌, map, ℤ, pos}
use Rattle.told.specs.Told.{Told, gave, refused, if_good}
use Rattle.signed.specs.Signed.{signed, sub_s}
use Rattle.gorilla.specs.Rows.{strict}

-- among xs, the values of array a from index i on, which follow the value p, reached by the delta e
unfoldable pub wide_after : ℕ → ℕ → ℤ → ℤ → List ℤ → Told (Unit {0})
wide_after a i p e [] = gave tt
wide_after a i p e (x ∷ xs) = cond (strict (sub_s (sub_s x p) e)) (wide_after a (i + 1) x (sub_s x p) xs) (refused (20 ∷ a ∷ i ∷ []))

unfoldable pub wide_in : ℕ → List ℤ → Told (Unit {0})
wide_in a [] = gave tt
wide_in a (x ∷ xs) = wide_after a 1 x (pos 0) xs

unfoldable pub wide_of : List ℕ → List ℤ → Told (Unit {0})
wide_of seqs secs = if_good (wide_in 0 (map signed seqs)) (wide_in 1 secs)
