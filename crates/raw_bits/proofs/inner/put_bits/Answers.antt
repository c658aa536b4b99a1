use native.Mathlib.Omega.{arith}
use borrow.Author.Rules.{rules}
use Prim.Native.Nat.{ℕ, ◌+◌, ◌-◌, ◌*◌, ◌/◌, ◌%◌, ◌^◌, ◌≤◌, ◌<◌}
use mathlib.Core.Path.{◌≡◌, refl, sym, ap, ◌∙◌, subst}
use mathlib.Core.List.{List}
use native.Mathlib.Nat.{le_refl, mod-lt}
use lib.Pow.{pow_pos}
use lib.ListN.{length, set, length-set}
use Rattle.raw_bits.specs.Inner.{put_bits}
use Rattle.raw_bits.proofs.Bits.{put_left, put_total, put_none, put_first, put_all, byte-set}
use Rattle.raw_bits.proofs.inner.put_bits.Goals as goal
use Rattle.raw_bits.proofs.inner.put_bits.Goals.{After-merge-x}

abbrev t_of : After-merge-x → ℕ
t_of mg = mg.min-t.result

abbrev rest_of : After-merge-x → ℕ
rest_of mg = mg.args.width - t_of mg

abbrev buf_of : After-merge-x → List ℕ
buf_of mg = set mg.args.buf.now mg.args.from mg.merge-x.result

Sizes : After-merge-x → Type 0
Sizes mg = (mg.args.first + t_of mg ≤ 8) × (0 < t_of mg) × (t_of mg ≤ mg.args.width) × (mg.args.from < length mg.args.buf.now)
    × ((mg.args.from + 1) * 8 + rest_of mg ≤ length mg.args.buf.now * 8) × (rest_of mg < 64)
    × (0 < rest_of mg → (mg.args.from + 1) * 8 ≡ mg.args.from * 8 + mg.args.first + t_of mg)

sizes : (mg : After-merge-x) → Sizes mg
unfolding Sizes
sizes mg =
    let e = mg.min-t.ensures in
    let n = mg.if-t-eq0.false in
    let p = mg.requires in
    let a : mg.args.first + t_of mg ≤ 8 = omega (arith, e, p) in
    let b : 0 < t_of mg = omega (arith, n) in
    let d : t_of mg ≤ mg.args.width = omega (arith, e) in
    let f : mg.args.from < length mg.args.buf.now = omega (arith, b, d, p) in
    (a, b, d, f, omega (arith, e, p, f), omega (arith, b, d, p), λ h. omega (arith, e, p, h))

first_is : (mg : After-merge-x) → buf_of mg ≡ put_bits mg.args.buf.now (mg.args.from * 8 + mg.args.first) (mg.args.value / 2 ^ rest_of mg) (t_of mg)
unfolding Sizes
first_is mg =
    let z = sizes mg in
    put_first mg.args.buf.now mg.args.value mg.args.width mg.args.from mg.args.first (t_of mg) z.0 z.1 z.2 z.3 mg.field.ensures mg.merge-x.ensures

-- all of it
total_is : (mg : After-merge-x) → put_bits (buf_of mg) ((mg.args.from + 1) * 8) mg.args.value (rest_of mg)
    ≡ put_bits mg.args.buf.now (mg.args.from * 8 + mg.args.first) mg.args.value mg.args.width
unfolding Sizes
total_is mg =
    let z = sizes mg in
    let p : ℕ = mg.args.from * 8 + mg.args.first in
    let e : t_of mg + rest_of mg ≡ mg.args.width = omega (arith, z.2) in
    put_total mg.args.buf.now (buf_of mg) p mg.args.value (t_of mg) (rest_of mg) ((mg.args.from + 1) * 8) (first_is mg) z.6 ∙ ap (put_bits mg.args.buf.now p mg.args.value) e

pub returns-then-t-eq0 : goal.returns-then-t-eq0
returns-then-t-eq0 c = put_none _ _ _ _ (omega (arith, c.min-t.ensures, c.if-t-eq0.true, c.requires.0))

pub merge-x-requires : goal.merge-x-requires
merge-x-requires c =
    (omega (arith, c.min-t.ensures, c.requires.0), subst (λ (u : ℕ). u < 2 ^ c.min-t.result) (sym c.field.ensures) (mod-lt _ (pow_pos c.min-t.result)))

pub loop-left-init : goal.loop-left-init
unfolding Sizes
loop-left-init c =
    let z = sizes c in
    let y : c.merge-x.result < 256 = search rules in (
      le_refl (rest_of c),
      refl,
      refl,
      byte-set c.args.buf.now c.args.from c.merge-x.result (λ j. omega (arith, c.slice_known-2-1.given j)) y,
      put_none _ _ _ _ (omega arith),
      simp length-set z.4,
      z.5,
    )

pub loop-left-preserved : goal.loop-left-preserved
loop-left-preserved c =
    let l = c.loop-left in
    let y : c.merge-y.result < 256 = search rules in
    let n : length l.buf ≡ length c.args.buf.now = l.invariant.2 ∙ simp length-set in (
      omega (arith, l.invariant.0),
      omega (arith, l.invariant.1, c.loop-left-test.true),
      simp length-set n,
      byte-set l.buf l.byte c.merge-y.result l.invariant.3 y,
      put_left (buf_of (goal.at.loop-left-preserved c).After-merge-x) l.buf ((c.args.from + 1) * 8) c.args.value (rest_of (goal.at.loop-left-preserved c).After-merge-x) l.left l.byte 8 l.invariant.0 c.loop-left-test.true (omega arith) (omega arith) l.invariant.1 l.invariant.4
          (omega (arith, l.invariant.1, l.invariant.5, l.invariant.2, c.loop-left-test.true)) (l.invariant.3 l.byte) c.field-in-loop-left.ensures c.merge-y.ensures,
      l.invariant.5,
      l.invariant.6,
    )

pub merge-z-requires : goal.merge-z-requires
merge-z-requires c =
    (omega (arith, c.loop-left-test.false), subst (λ (u : ℕ). u < 2 ^ c.loop-left.left) (sym c.field-then-left-gt0.ensures) (mod-lt _ (pow_pos c.loop-left.left)))

pub shape_of-buf-then-left-gt0 : goal.shape_of-buf-then-left-gt0
shape_of-buf-then-left-gt0 c = simp length-set (c.loop-left.invariant.2 ∙ simp length-set)

pub returns-then-left-gt0 : goal.returns-then-left-gt0
returns-then-left-gt0 c =
    let l = c.loop-left in
    let e : 0 ≡ l.left - l.left = omega arith in
    put_left (buf_of (goal.at.returns-then-left-gt0 c).After-merge-x) l.buf ((c.args.from + 1) * 8) c.args.value (rest_of (goal.at.returns-then-left-gt0 c).After-merge-x) l.left l.byte l.left l.invariant.0 (le_refl l.left) (omega (arith, c.loop-left-test.false)) c.if-left-gt0.true l.invariant.1 l.invariant.4
    (omega (arith, l.invariant.1, l.invariant.5, l.invariant.2, c.if-left-gt0.true)) (l.invariant.3 l.byte) (c.field-then-left-gt0.ensures ∙ ap (λ (u : ℕ). c.args.value / 2 ^ u % 2 ^ l.left) e) c.merge-z.ensures
    ∙ put_all (buf_of (goal.at.returns-then-left-gt0 c).After-merge-x) ((c.args.from + 1) * 8) c.args.value (rest_of (goal.at.returns-then-left-gt0 c).After-merge-x) (sym e) ∙ total_is (goal.at.returns-then-left-gt0 c).After-merge-x

pub shape_of-buf-else-left-gt0 : goal.shape_of-buf-else-left-gt0
shape_of-buf-else-left-gt0 c = c.loop-left.invariant.2 ∙ simp length-set

pub returns-else-left-gt0 : goal.returns-else-left-gt0
returns-else-left-gt0 c =
    let l = c.loop-left in
    let e : l.left ≡ 0 = omega (arith, c.if-left-gt0.false) in
    l.invariant.4 ∙ put_all (buf_of (goal.at.returns-else-left-gt0 c).After-merge-x) ((c.args.from + 1) * 8) c.args.value (rest_of (goal.at.returns-else-left-gt0 c).After-merge-x) e ∙ total_is (goal.at.returns-else-left-gt0 c).After-merge-x
