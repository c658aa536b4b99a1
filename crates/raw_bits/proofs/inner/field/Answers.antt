use native.Mathlib.Omega.{arith}
use Prim.Native.Nat.{ℕ, ◌-◌, ◌/◌, ◌^◌}
use mathlib.Core.Path.{ap, ◌∙◌}
use lib.Pow.{pow_pos}
use lib.Bits.{bit_and, and_mask}
use Rattle.raw_bits.proofs.Bits.{one_shl}
use Rattle.raw_bits.proofs.inner.field.Goals as goal

pub overflow_sub-result : goal.overflow_sub-result
overflow_sub-result c = omega (arith, one_shl c.args.t (omega arith), pow_pos c.args.t)

pub returns : goal.returns
returns c = ap (λ (u : ℕ). bit_and (c.args.x / 2 ^ c.args.low) (u - 1)) (one_shl c.args.t (omega arith)) ∙ and_mask _ c.args.t
