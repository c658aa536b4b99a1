-- What is told determines what was given, and by what it was refused. Assumes nothing.
use Prim.Native.Nat.{ℕ}
use mathlib.Core.Path.{◌≡◌, sym, ap}
use mathlib.Core.List.{List}
use native.Mathlib.Omega.{arith}
use Rattle.std.specs.Prelude.{Result, Ok, Err}
use Rattle.told.specs.Told.{Told, gave, refused, told_by}

-- what is given is never a refusal, and refusals of two numbers are two
pub given_not_refused : {A X : Type 0} {a : A} {l : List ℕ} → gave a ≡ refused l → X
given_not_refused h = let z : ◌≡◌ {A = ℕ} 0 1 = cc in absurd (omega arith)

pub same-list : {A : Type 0} {k l : List ℕ} → ◌≡◌ {A = Told A} (refused k) (refused l) → k ≡ l
same-list h = cc

pub same_gift : {A : Type 0} {a b : A} → gave a ≡ gave b → a ≡ b
same_gift h = cc

-- a `Result` can be had back from what it tells, where its error can
pub one_result : {A E : Type 0} (numbers : E → List ℕ) → ((a b : E) → numbers a ≡ numbers b → a ≡ b) → (a b : Result A E) → told_by numbers a ≡ told_by numbers b → a ≡ b
one_result numbers one (Ok a) (Ok b) e = ap Ok (same_gift e)
one_result numbers one (Ok a) (Err b) e = given_not_refused e
one_result numbers one (Err a) (Ok b) e = given_not_refused (sym e)
one_result numbers one (Err a) (Err b) e = ap Err (one a b (same-list e))
