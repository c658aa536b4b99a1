-- What holds of each element that a table keeps, whatever the elements are; d stands past a list's end.
use mathlib.Core.Path.{◌≡◌}
use mathlib.Core.Logic.{⊎_elim}
use mathlib.Core.Bool.{Bool, true, false, cond}
use mathlib.Core.List.{List}
use Prim.Native.Nat.{ℕ, ◌+◌, ◌/◌, ◌≤◌, ◌<◌}
use native.Mathlib.Nat.{eq-or-lt_of_le}
use native.Mathlib.Omega.{arith}
use lib.Dec.{ltb}
use lib.IntN.{ℤ}
use lib.ListN.{length, get_or}
use mir.Syntax.{w64}
use mir.Val.{SFits}
use Rattle.told.specs.Over.{over}
use Rattle.limits.specs.Domain.{outside}
use Rattle.keeping.specs.Keep.{appended, thinned}
use Rattle.keeping.specs.Inner.{count_with}
use Rattle.order.proofs.Domain.{inside_mag}
use Rattle.keeping.proofs.Thinned.{appended_old, appended-new}
use Rattle.offers.proofs.Rise.{selected}

-- what holds of n elements and of one more holds of each that stays
pub kept-all : {A : Type 0} (d : A) (P : A → Type 0) (n : ℕ) (xs : List A) (x : A) (cap : ℕ) → n ≤ length xs
    → ((j : ℕ) → j < n → P (get_or xs j d)) → P x → (j : ℕ) → j < count_with cap n → P (get_or (over (thinned cap (appended n xs x)) xs) j d)
kept-all d P n xs x cap fit old new j h =
    let s = selected d n xs x cap fit in
    let w : s.from j ≤ n = omega (arith, s.within j h) in
    rw (s.at j h)
    (⊎_elim (λ (e : s.from j ≡ n). rw (e, appended-new n xs x fit d) new)
    (λ (l : s.from j < n). rw (appended_old n xs x fit d (s.from j) l) (old (s.from j) l))
    (eq-or-lt_of_le w))

-- something stays
pub some-kept : (cap n : ℕ) → 0 < count_with cap n
some-kept cap n = go (ltb n cap)
  where
    go : (b : Bool) → 0 < cond b (n + 1) (n / 2 + 1)
    go true = omega arith
    go false = omega arith

-- a second of the domain is an i64
pub inside-fits : (s : ℤ) → outside s ≡ false → SFits w64 s
inside-fits s e = record { sfits = omega (arith, inside_mag s e) }
