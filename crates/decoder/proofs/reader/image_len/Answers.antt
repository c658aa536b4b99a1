use mathlib.Core.Path.{◌≡◌, ap, ◌∙◌}
use native.Mathlib.Omega.{arith}
use Rattle.std.specs.Prelude.{Err}
use mathlib.Core.Bool.{true}
use Rattle.told.specs.Told.{gave}
use Rattle.decoder.specs.Decode.{image_len_of, image_len_rule}
use Rattle.decoder.proofs.Lengths.{no_limit, less_left}
use Rattle.decoder.proofs.reader.image_len.Goals as goal

pub returns : goal.returns
unfolding image_len_rule
returns c =
    ap gave (less_left c.args.bytes.now c.in_ok-p.p.secs.end c.in_ok-p.ensures.1.4) ∙ ap (image_len_of c.args.bytes.now) (c.in_ok-p.ensures.0 (λ n. true) no_limit)

pub returns-in_err-p : goal.returns-in_err-p
unfolding image_len_rule
returns-in_err-p c =
    let e : c.from_residual.result ≡ Err c.in_err-p.field-0.0 = grind arith in
    rw e (ap (image_len_of c.args.bytes.now) (c.in_err-p.ensures.0 (λ n. true) no_limit))
