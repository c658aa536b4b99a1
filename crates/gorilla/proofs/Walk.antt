-- A walk over an array, whose values are stored as numbers by f. Assumes nothing.
use Rattle.std.proofs.Common.{◌≡◌, ℕ, ◌+◌, ◌<◌, List, ◌∷◌, map, length, get_or, drop, ℤ, sym, ap, ap₂, ◌∙◌, arith, add-one, drop-cons}
use lib.ListN.{length-map, get_or-map}

-- what is stored of the values from index i on begins with what is stored of the value there
pub stored_at : {A : Type 0} (f : A → ℤ) (xs : List A) (i : ℕ) (x : A) → i < length xs → x ≡ get_or xs i x → drop i (map f xs) ≡ f x ∷ drop (i + 1) (map f xs)
stored_at f xs i x h e =
    drop-cons (map f xs) i (f x) (omega (arith, h, length-map xs f))
    ∙ ap₂ (λ (z : ℤ) (n : ℕ). z ∷ drop n (map f xs)) (get_or-map f xs i x ∙ ap f (sym e)) (sym (add-one i))
