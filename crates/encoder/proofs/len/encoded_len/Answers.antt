use Rattle.std.proofs.Common.{length, sym, ap, ◌∙◌, arith}
use Rattle.std.proofs.lemmas.Result.{err_from_is_err_and}
use Rattle.told.specs.Told.{gave}
use Rattle.gorilla.specs.Format.{image_bytes}
use Rattle.encoder.proofs.Rules.{len_given, len_refused, passed}
use Rattle.encoder.proofs.len.encoded_len.Goals as goal

pub returns-in_err-most_bytes : goal.returns-in_err-most_bytes
returns-in_err-most_bytes c =
    let s = c.args.seqs.now in
    let t = c.args.secs.now in
    let e = err_from_is_err_and c.from_residual.result c.from_residual.ensures.1 in
    rw (e.1, e.2) (len_refused s t _ _ (gave (length (image_bytes s t))) c.in_err-most_bytes.ensures)

pub image_bytes-requires : goal.image_bytes-requires
image_bytes-requires c =
    let p = len_given c.args.seqs.now c.args.secs.now _ _ c.in_ok-most_bytes.ensures in
    (p.few, omega (arith, p.same, p.few))

pub returns : goal.returns
returns c =
    let s = c.args.seqs.now in
    let t = c.args.secs.now in
    let p = len_given s t _ _ c.in_ok-most_bytes.ensures in
    ap gave c.image_bytes.ensures ∙ sym (passed s t (gave (length (image_bytes s t))) p.same p.few)
