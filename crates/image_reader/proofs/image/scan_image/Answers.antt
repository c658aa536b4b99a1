use native.Mathlib.Omega.{arith}
use mathlib.Core.Path.{◌≡◌, sym, ◌∙◌}
use Rattle.std.proofs.Common.{◌<◌, length}
use Rattle.image_reader.proofs.Header.{head_empty, head_version, head_short, head_is}
use Rattle.image_reader.proofs.image.scan_image.Goals as goal

pub returns-then-is_empty : goal.returns-then-is_empty
returns-then-is_empty c =
    let h : length c.args.s.now ≡ 0 = grind arith in
    (λ room agrees. sym (head_empty room c.args.s.now (λ j. omega (arith, c.type_inv.s j)) h), tt)

pub returns-then-v-ne1 : goal.returns-then-v-ne1
returns-then-v-ne1 c =
    let h : 0 < length c.args.s.now = grind arith in
    (λ room agrees. sym (head_version room c.args.s.now (λ j. omega (arith, c.type_inv.s j)) h c.if-v-ne1.true), tt)

pub returns-then-s-lt5 : goal.returns-then-s-lt5
returns-then-s-lt5 c =
    let h : 0 < length c.args.s.now = grind arith in
    (λ room agrees. sym (head_short room c.args.s.now (λ j. omega (arith, c.type_inv.s j)) h (omega arith) (omega (arith, c.if-v-ne1.false))), tt)

pub returns : goal.returns
returns c = (
  λ room agrees. c.scan_arrays.ensures.0 room agrees
      ∙ sym (head_is room c.args.s.now (λ j. omega (arith, c.type_inv.s j)) c.header_count.result (omega (arith, c.if-s-lt5.false)) (omega (arith, c.if-v-ne1.false)) c.header_count.ensures),
  c.scan_arrays.ensures.1,
)
