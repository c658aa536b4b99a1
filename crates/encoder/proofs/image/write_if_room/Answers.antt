use Rattle.std.proofs.Common.{ℕ, ◌≤◌, ◌≡◌, List, length, ap, ◌∙◌, arith}
use Rattle.told.specs.Told.{Told, gave}
use Rattle.told.specs.Over.{filled}
use Rattle.gorilla.specs.Format.{image_bytes}
use Rattle.told.specs.Room.{room_rule}
use Rattle.told.proofs.Room.{no_room, enough}
use Rattle.lengths.proofs.Whole.{image_most}
use Rattle.encoder.proofs.image.write_if_room.Goals as goal
use Rattle.encoder.proofs.image.write_if_room.Goals.{then-most-out+else-out-bytes, else-most-out}

-- the buffer, once told what the rule tells
settled : (image out : List ℕ) (t : Told ℕ) → t ≡ room_rule (length image) (length out) → filled t image out ≡ filled (room_rule (length image) (length out)) image out
settled image out t r = ap (λ (u : Told ℕ). filled u image out) r

pub returns-then-out-bytes : goal.returns-then-out-bytes
returns-then-out-bytes c =
    let out : List ℕ = c.args.out.now in
    let r = no_room c.image_bytes-bytes.result (length out) c.if-out-bytes.true ∙ ap (λ (n : ℕ). room_rule n (length out)) c.image_bytes-bytes.ensures in
    (r, settled (image_bytes c.args.seqs.now c.args.secs.now) out _ r)

pub write_image-requires : goal.write_image-requires
write_image-requires c =
    elim c.if-most-out.branch [
      | then-most-out+else-out-bytes w ↦ omega (arith, w.image_bytes-bytes.ensures)
      | else-most-out w ↦ omega (arith, image_most c.args.seqs.now c.args.secs.now c.requires.0)
    ]

pub returns : goal.returns
returns c =
    let image : List ℕ = image_bytes c.args.seqs.now c.args.secs.now in
    let out : List ℕ = c.args.out.now in
    let holds : length image ≤ length out = elim c.if-most-out.branch [
      | then-most-out+else-out-bytes w ↦ omega (arith, w.image_bytes-bytes.ensures)
      | else-most-out w ↦ omega (arith, image_most c.args.seqs.now c.args.secs.now c.requires.0)
    ]
    in
    let r = enough (length image) (length out) holds in
    (ap gave c.write_image.ensures.bytes ∙ r, c.write_image.ensures.out ∙ settled image out _ r)
