-- A place in a row of parts, and back. Assumes nothing.
use mathlib.Core.Path.{◌≡◌, refl, ap}
use mathlib.Core.Bool.{Bool, true, false, cond}
use mathlib.Core.List.{List, [], ◌∷◌}
use Prim.Native.Nat.{ℕ, zero, suc, ◌+◌, ◌-◌, ◌<◌}
use native.Mathlib.Omega.{arith}
use borrow.Author.Tests.{lt-ltb, le-ltb, ltb-true, ltb-false}
use lib.Dec.{ltb}
use lib.ListN.{take, get_or, length}
use Rattle.calendar.specs.Calendar.{summed}
use Rattle.calendar.specs.Inner.{part, further}

-- what stands before the part, and the rest, are the place
pub part-sum : (ns : List ℕ) (d : ℕ) → summed (take (part ns d).index ns) + (part ns d).rest ≡ d
unfolding part summed
part-sum [] d = omega arith
part-sum (n ∷ ns) d = go (ltb d n) (part-sum ns (d - n)) refl
  where
    go : (b : Bool) → summed (take (part ns (d - n)).index ns) + (part ns (d - n)).rest ≡ d - n → ltb d n ≡ b → summed (take (cond b (record { index = 0; rest = d }) (further (part ns (d - n)))).index (n ∷ ns)) + (cond b (record { index = 0; rest = d }) (further (part ns (d - n)))).rest ≡ d
    go true i e = omega arith
    go false i e = omega (arith, ltb-false d n e)

-- it is one of the parts, and the place is inside it
pub part_in : (ns : List ℕ) (d : ℕ) → d < summed ns → ((part ns d).index < length ns) × ((part ns d).rest < get_or ns (part ns d).index 0)
unfolding part summed
part_in [] d h = absurd (omega arith)
part_in (n ∷ ns) d h = go (ltb d n) (part_in ns (d - n)) refl
  where
    go : (b : Bool) → (d - n < summed ns → ((part ns (d - n)).index < length ns) × ((part ns (d - n)).rest < get_or ns (part ns (d - n)).index 0)) → ltb d n ≡ b → ((cond b (record { index = 0; rest = d }) (further (part ns (d - n)))).index < length (n ∷ ns)) × ((cond b (record { index = 0; rest = d }) (further (part ns (d - n)))).rest < get_or (n ∷ ns) (cond b (record { index = 0; rest = d }) (further (part ns (d - n)))).index 0)
    go true f e = (omega arith, ltb-true d n e)
    go false f e =
        let i = f (omega (arith, ltb-false d n e)) in
        (omega (arith, i.0), i.1)

-- each place inside a part is told as that
pub part_at : (ns : List ℕ) (i r : ℕ) → i < length ns → r < get_or ns i 0 → part ns (summed (take i ns) + r) ≡ record { index = i; rest = r }
unfolding part summed
part_at [] i r h k = absurd (omega arith)
part_at (n ∷ ns) zero r h k = let e : 0 + r ≡ r = omega arith in rw (e, lt-ltb r n k)
part_at (n ∷ ns) (suc i) r h k =
    let e : n + summed (take i ns) + r - n ≡ summed (take i ns) + r = omega arith in
    rw (le-ltb (n + summed (take i ns) + r) n (omega arith), e) (ap further (part_at ns i r (omega arith) k))

-- a place inside a part is before the end of the row
pub part-below : (ns : List ℕ) (i r : ℕ) → i < length ns → r < get_or ns i 0 → summed (take i ns) + r < summed ns
unfolding summed
part-below [] i r h k = absurd (omega arith)
part-below (n ∷ ns) zero r h k = omega arith
part-below (n ∷ ns) (suc i) r h k = omega (arith, part-below ns i r (omega arith) k)
