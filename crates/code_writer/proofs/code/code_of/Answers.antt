use Rattle.std.proofs.Common.{◌≡◌, ℤ, ap, ◌∙◌, arith, to_z-of_z}
use Rattle.gorilla.specs.Rows.{row_of}
use Rattle.code_writer.specs.declared.Held.{Held}
use Rattle.code_writer.proofs.Once.{row_sizes, low_lt, joined_bits, joined_fits, code_joined}
use Rattle.code_writer.proofs.code.code_of.Goals as goal
use Rattle.code_writer.proofs.code.code_of.Goals.{After-row_of-row}

row_is : (c : After-row_of-row) → c.row_of-row.result ≡ row_of c.args.dod
row_is c = rw (to_z-of_z c.ranges.dod) at c.row_of-row.ensures

pub low_bits-low-requires : goal.low_bits-low-requires
low_bits-low-requires c = omega (arith, row_sizes c.args.dod _ (row_is c))

pub joined-requires : goal.joined-requires
joined-requires c =
    let r = row_is (goal.at.joined-requires c).After-row_of-row in
    let s = row_sizes c.args.dod _ r in
    let low = rw (to_z-of_z c.ranges.dod) at c.low_bits-low.ensures in
    (s.0, low_lt c.args.dod _ r _ low, omega (arith, s), omega (arith, s))

pub returns : goal.returns
returns c =
    let d : ℤ = c.args.dod in
    let r = row_is (goal.at.returns c).After-row_of-row in
    let s = row_sizes d _ r in
    let low = rw (to_z-of_z c.ranges.dod) at c.low_bits-low.ensures in
    let a : Held = record { value = c.row_of-row.result.prefix; width = c.row_of-row.result.prefix_bits } in
    let b : Held = record { value = c.low_bits-low.result; width = c.row_of-row.result.width } in
    let e = c.joined.ensures in record {
      bits = joined_bits a b c.joined.result s.0 (low_lt d _ r _ low) e ∙ code_joined d c.row_of-row.result c.low_bits-low.result r low;
      size = (joined_fits a b c.joined.result s.0 (low_lt d _ r _ low) e, omega (arith, ap (λ (x : Held). x.width) e, s));
    }
