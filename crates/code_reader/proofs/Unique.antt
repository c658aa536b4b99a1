-- Refusals of which the same is told are the same. Assumes nothing.
use Prim.Native.Nat.{ℕ, ◌+◌}
use mathlib.Core.Path.{◌≡◌, refl, sym, ap, ◌∙◌}
use mathlib.Core.Bool.{cond}
use mathlib.Core.List.{List}
use lib.Dec.{eqb}
use lib.ListN.{get_or}
use Rattle.bits.specs.declared.Place.{Place}
use Rattle.gorilla.specs.declared.Array.{Array}
use Rattle.gorilla.proofs.Unique.{array_of, array_back}
use Rattle.code_reader.specs.Refusal.{told}
use Rattle.code_reader.specs.declared.Refusal.{Refusal}
use Rattle.code_reader.specs.declared.Refusal.TheVariants.{Empty, Version, Header, CountCut, TooMany, FirstCut, CodeEnd, PrefixCut, DiffCut, CountDiffers}

-- the place that two numbers of a list are, from the k-th on
abbrev place_from : List ℕ → ℕ → Place
place_from l k = record { byte = get_or l k 0; bit = get_or l (k + 1) 0 }

-- the refusal that a number and what it tells are
abbrev refusal_of : List ℕ → Refusal
refusal_of k =
    cond (eqb (get_or k 0 0) 1) Empty
    (cond (eqb (get_or k 0 0) 2) (Version (get_or k 1 0))
    (cond (eqb (get_or k 0 0) 3) Header
    (cond (eqb (get_or k 0 0) 4) (CountCut (array_of (get_or k 1 0)) (place_from k 2))
    (cond (eqb (get_or k 0 0) 5) (FirstCut (array_of (get_or k 1 0)) (place_from k 2))
    (cond (eqb (get_or k 0 0) 6) (CodeEnd (array_of (get_or k 1 0)) (get_or k 2 0) (place_from k 3))
    (cond (eqb (get_or k 0 0) 7) (PrefixCut (array_of (get_or k 1 0)) (get_or k 2 0) (place_from k 3))
    (cond (eqb (get_or k 0 0) 8) (DiffCut (array_of (get_or k 1 0)) (get_or k 2 0) (get_or k 3 0) (place_from k 4))
    (cond (eqb (get_or k 0 0) 9) (CountDiffers (array_of (get_or k 1 0)))
    (TooMany (array_of (get_or k 1 0)))))))))))

refusal-back : (r : Refusal) → refusal_of (told r) ≡ r
refusal-back Empty = refl
refusal-back (Version b) = refl
refusal-back Header = refl
refusal-back (CountCut a p) = ap (λ (x : Array). CountCut x p) (array_back a)
refusal-back (FirstCut a p) = ap (λ (x : Array). FirstCut x p) (array_back a)
refusal-back (CodeEnd a i p) = ap (λ (x : Array). CodeEnd x i p) (array_back a)
refusal-back (PrefixCut a i p) = ap (λ (x : Array). PrefixCut x i p) (array_back a)
refusal-back (DiffCut a i w p) = ap (λ (x : Array). DiffCut x i w p) (array_back a)
refusal-back (CountDiffers a) = ap CountDiffers (array_back a)
refusal-back (TooMany a) = ap TooMany (array_back a)

-- refusals of which the same is told are the same
pub one-refusal : (a b : Refusal) → told a ≡ told b → a ≡ b
one-refusal a b h = sym (refusal-back a) ∙ ap refusal_of h ∙ refusal-back b
