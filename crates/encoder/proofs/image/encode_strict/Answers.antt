use Rattle.std.proofs.Common.{ℕ, ◌≡◌, List, length, ℤ, sym, ap, ◌∙◌}
use Rattle.std.proofs.lemmas.Result.{err_from_is_err_and}
use Rattle.told.specs.Told.{Told, if_good}
use Rattle.told.specs.Over.{filled}
use Rattle.told.specs.Room.{room_rule}
use Rattle.gorilla.specs.Format.{image_bytes}
use Rattle.gorilla.specs.Wide.{wide_of}
use Rattle.encoder.specs.Encode.{strict_rule}
use Rattle.encoder.proofs.Rules.{Passed, len_given, len_refused, passed}
use Rattle.encoder.proofs.image.encode_strict.Goals as goal

-- 20, or what follows, is what the rule tells
strict_is : (s : List ℕ) (t : List ℤ) (room most n : ℕ) → Passed s t most n → (w : Told (Unit {0})) → w ≡ wide_of s t
    → if_good w (room_rule (length (image_bytes s t)) room) ≡ strict_rule s t room
strict_is s t room most n p w h = ap (λ (v : Told (Unit {0})). if_good v (room_rule (length (image_bytes s t)) room)) h ∙ sym (passed s t _ p.same p.few)

pub returns-in_err-most : goal.returns-in_err-most
returns-in_err-most c =
    let s = c.args.seqs.now in
    let t = c.args.secs.now in
    let out = c.args.out.now in
    let r = len_refused s t _ _ (if_good (wide_of s t) (room_rule (length (image_bytes s t)) (length out))) c.in_err-most.ensures in
    let e = err_from_is_err_and c.from_residual.result c.from_residual.ensures.1 in
    (rw (e.1, e.2) r, ap (λ (u : Told ℕ). filled u (image_bytes s t) out) r)

pub returns-in-Some : goal.returns-in-Some
returns-in-Some c =
    let s = c.args.seqs.now in
    let t = c.args.secs.now in
    let out = c.args.out.now in
    let p = len_given s t _ _ c.in_ok-most.ensures in
    let r = strict_is s t (length out) _ _ p _ c.in-Some.ensures in
    (r, ap (λ (u : Told ℕ). filled u (image_bytes s t) out) r)

pub write_if_room-requires : goal.write_if_room-requires
write_if_room-requires c =
    let p = len_given c.args.seqs.now c.args.secs.now _ _ c.in_ok-most.ensures in
    (p.same, p.few, p.bytes_are)

pub returns : goal.returns
returns c =
    let s = c.args.seqs.now in
    let t = c.args.secs.now in
    let out = c.args.out.now in
    let p = len_given s t _ _ c.in_ok-most.ensures in
    let r = strict_is s t (length out) _ _ p _ c.in_default.ensures in
    (c.write_if_room.ensures.0 ∙ r, c.write_if_room.ensures.1 ∙ ap (λ (u : Told ℕ). filled u (image_bytes s t) out) r)
