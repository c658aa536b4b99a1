use native.Mathlib.Omega.{arith}
use borrow.Author.Rules.{rules}
use Prim.Native.Nat.{◌+◌, ◌*◌}
use mathlib.Core.Path.{◌≡◌, ap, ◌∙◌}
use Rattle.raw_bits.specs.Inner.{bits_at}
use Rattle.raw_bits.proofs.Bits.{take-some, bits_at-fits}
use Rattle.raw_bits.proofs.inner.take_bits.Goals as goal

pub loop-k-init : goal.loop-k-init
unfolding bits_at
loop-k-init c = search rules

pub overflow_add-v : goal.overflow_add-v
overflow_add-v c =
    let l = c.loop-k in
    let a = c.args in
    let t = c.min-t.result in
    omega (
      arith,
      take-some a.s.now (a.from * 8 + a.first) l.k l.byte l.bit t l.invariant.3 l.invariant.0 (search rules) (search rules) c.from.ensures c.field.ensures,
      bits_at-fits a.s.now (a.from * 8 + a.first) (l.k + t) (omega arith),
    )

pub loop-k-preserved : goal.loop-k-preserved
loop-k-preserved c =
    let l = c.loop-k in
    let t = c.min-t.result in (
      search rules,
      search rules,
      search rules,
      take-some _ _ l.k l.byte l.bit t l.invariant.3 l.invariant.0 (search rules) (search rules) c.from.ensures c.field.ensures,
    )

pub returns : goal.returns
returns c =
    let e : c.loop-k.k ≡ c.args.width = omega arith in
    c.loop-k.invariant.3 ∙ ap (bits_at _ _) e
