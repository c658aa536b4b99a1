use native.Mathlib.Omega.{arith}
use mathlib.Core.Path.{◌≡◌, ap, ◌∙◌}
use Prim.Native.Nat.{◌+◌}
use lib.ListN.{length}
use mir.Facts.{to_z-of_z}
use Rattle.gorilla.specs.declared.Row.{Row}
use Rattle.gorilla.specs.Rows.{row_of}
use Rattle.gorilla.specs.Format.{code_bits}
use Rattle.gorilla.proofs.Putting.{length-code, narrow}
use Rattle.lengths.proofs.len.code_len.Goals as goal
use Rattle.lengths.proofs.len.code_len.Goals.{After-row_of-row}

row_is : (r : After-row_of-row) → r.row_of-row.result ≡ row_of r.args.dod
row_is r = rw (to_z-of_z r.ranges.dod) at r.row_of-row.ensures

len_is : (r : After-row_of-row) → r.row_of-row.result.prefix_bits + r.row_of-row.result.width ≡ length (code_bits r.args.dod)
len_is r = ap (λ (x : Row). x.prefix_bits + x.width) (row_is r) ∙ omega (arith, length-code r.args.dod)

pub overflow_add-row : goal.overflow_add-row
overflow_add-row c = let d = c.args.dod in omega (arith, len_is (goal.at.overflow_add-row c).After-row_of-row, length-code d, narrow d)

pub returns : goal.returns
returns c = c.from.ensures ∙ len_is (goal.at.returns c).After-row_of-row
