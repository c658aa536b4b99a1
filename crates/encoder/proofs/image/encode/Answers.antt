use Rattle.std.proofs.Common.{ℕ, length, sym, ap, ◌∙◌}
use Rattle.std.proofs.lemmas.Result.{err_from_is_err_and}
use Rattle.told.specs.Told.{Told}
use Rattle.told.specs.Over.{filled}
use Rattle.told.specs.Room.{room_rule}
use Rattle.gorilla.specs.Format.{image_bytes}
use Rattle.encoder.proofs.Rules.{len_given, len_refused, passed}
use Rattle.encoder.proofs.image.encode.Goals as goal

pub returns-in_err-most : goal.returns-in_err-most
returns-in_err-most c =
    let s = c.args.seqs.now in
    let t = c.args.secs.now in
    let out = c.args.out.now in
    let e = err_from_is_err_and c.from_residual.result c.from_residual.ensures.1 in
    let r = len_refused s t _ _ (room_rule (length (image_bytes s t)) (length out)) c.in_err-most.ensures in
    (rw (e.1, e.2) r, ap (λ (u : Told ℕ). filled u (image_bytes s t) out) r)

pub write_if_room-requires : goal.write_if_room-requires
write_if_room-requires c =
    let p = len_given c.args.seqs.now c.args.secs.now _ _ c.in_ok-most.ensures in
    (p.same, p.few, p.bytes_are)

pub returns : goal.returns
returns c =
    let s = c.args.seqs.now in
    let t = c.args.secs.now in
    let out = c.args.out.now in
    let p = len_given s t _ _ c.in_ok-most.ensures in
    let r = sym (passed s t (room_rule (length (image_bytes s t)) (length out)) p.same p.few) in
    (c.write_if_room.ensures.0 ∙ r, c.write_if_room.ensures.1 ∙ ap (λ (u : Told ℕ). filled u (image_bytes s t) out) r)
