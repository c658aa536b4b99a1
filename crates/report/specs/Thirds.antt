-- What the two kinds of third field prove of themselves. No public statement cites this file. Assumes nothing.
use Prim.Native.Nat.{◌≤◌}
use mathlib.Core.Path.{◌≡◌, refl}
use mathlib.Core.Bool.{false}
use mathlib.Core.List.{List}
use native.Mathlib.Omega.{arith}
use borrow.Author.Tests.{ltb-false}
use lib.IntN.{ℤ}
use lib.ListN.{length}
use Rattle.calendar.specs.Inner.{date_of, moment_at}
use Rattle.limits.specs.Domain.{outside}
use Rattle.order.specs.First.{first}
use Rattle.order.specs.Order.{sec_outside}
use Rattle.order.proofs.First.{first_out}
use Rattle.date_writer.specs.Inner.{date_text}
use Rattle.date_writer.proofs.Texts.{text_length}
use Rattle.report.specs.Dated.{some_outside}
use Rattle.report.specs.Inner.{NoneLacks}

pub date-short : (z : ℤ) → length (date_text z) ≤ 21
date-short z = omega (arith, text_length (date_of (moment_at z)))

pub all-dated : (secs : List ℤ) → some_outside secs (length secs) ≡ false → NoneLacks outside secs
all-dated secs h = let n = length secs in first_out (sec_outside secs) n (ltb-false (first (sec_outside secs) n) n h)

pub none-lacking : (secs : List ℤ) → false ≡ false → NoneLacks (λ sec. false) secs
none-lacking secs h i l = refl
