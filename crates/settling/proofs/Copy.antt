-- Copying the front of a list over another.
use mathlib.Core.Path.{◌≡◌, sym}
use mathlib.Core.List.{List, [], ◌∷◌, append_assoc}
use Prim.Native.Nat.{ℕ, suc, ◌+◌, ◌<◌}
use native.Mathlib.Numerals.{add-one}
use native.Mathlib.Omega.{arith}
use lib.ListN.{length, get_or, take, drop, set}
use lib.Seq.{drop-cons, set_at, take-suc, length-take-le}
use Rattle.told.specs.Over.{over}

module _ {A : Type 0} (d : A) (l xs : List A) where
  pub copy_more : (i : ℕ) → i < length l → i < length xs → set (over (take i l) xs) i (get_or l i d) ≡ over (take (i + 1) l) xs
  copy_more i h k =
      let p : length (take i l) ≡ i = length-take-le i l (omega arith) in
      let q : length (take (suc i) l) ≡ suc i = length-take-le (suc i) l h in
      rw (add-one, p, q, drop-cons xs i d k, set_at (take i l) (get_or xs i d) (drop (suc i) xs) (get_or l i d) i p, take-suc l i d h)
      (sym (append_assoc (take i l) (get_or l i d ∷ []) (drop (suc i) xs)))
