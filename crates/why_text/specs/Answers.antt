-- What the kinds of number prove of themselves. No public statement cites this file. Assumes nothing.
use Prim.Native.Nat.{ℕ, ◌≤◌}
use native.Mathlib.Omega.{arith}
use lib.ListN.{length}
use Rattle.text.specs.Text.{decimal, signed_decimal}
use Rattle.text.proofs.Numbers.{decimal-length, signed-length}
use Rattle.tracker.specs.declared.Seq.{Seq}
use Rattle.tracker.specs.declared.Second.{Second}

pub second-short : (s : Second) → length (signed_decimal s.0) ≤ 21
second-short s = signed-length s.0

pub position-short : (n : ℕ) → length (decimal n) ≤ 21
position-short n = omega (arith, decimal-length n)

pub seq-short : (q : Seq) → length (decimal q.0) ≤ 21
seq-short q = position-short q.0
