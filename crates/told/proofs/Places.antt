-- The places of a lent array that a call fills from the start. Assumes nothing.
use Prim.Native.Nat.{ℕ}
use mathlib.Core.Path.{◌≡◌, refl}
use mathlib.Core.List.{List}
use lib.ListN.{length, take, drop}
use lib.Seq.{take_at, drop_at}
use Rattle.told.specs.Told.{refused}
use Rattle.told.specs.Over.{over, filled}

-- the values stand at its start, and past them what stood there
pub over_starts : {A : Type 0} (l xs : List A) → take (length l) (over l xs) ≡ l
over_starts l xs = take_at l _ (length l) refl

pub over_keeps : {A : Type 0} (l xs : List A) → drop (length l) (over l xs) ≡ drop (length l) xs
over_keeps l xs = drop_at l _ (length l) refl

-- refused, it is as before
pub refused_keeps : {A : Type 0} (B : Type 0) (what : List ℕ) (values old : List A) → filled {B = B} (refused what) values old ≡ old
refused_keeps B what values old = refl
