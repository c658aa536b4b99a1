use native.Mathlib.Omega.{arith}
use Prim.Native.Nat.{ℕ, ◌+◌, ◌-◌, ◌*◌, ◌≤◌, ◌<◌, min}
use mathlib.Core.Path.{◌≡◌}
use lib.ListN.{length}
use Rattle.bits.specs.Place.{pos_of}
use Rattle.code_reader.proofs.Windows.{pos-at, pos-past, pos_wide, word_held, none_held}
use Rattle.code_reader.proofs.window.window_at.Goals as goal
use Rattle.code_reader.proofs.window.window_at.Goals.{else-byte-s-via-then-byte-s+else-bit-lt8, else-byte-s-via-else-byte-s}

pub returns-then-bit-lt8 : goal.returns-then-bit-lt8
returns-then-bit-lt8 c =
    let s = c.args.s.now in
    let n : ℕ = length s in
    let b : ℕ = c.args.at.byte in
    let r : ℕ = c.args.at.bit in
    let f : ℕ = c.min-from.result in
    let h : b < n = c.if-byte-s.true in
    let k : r < 8 = c.if-bit-lt8.true in
    let g : 8 ≤ n = c.requires in
    let m : f ≡ min b (n - 8) = c.min-from.ensures in
    let q : pos_of n c.args.at ≡ b * 8 + r = pos-at n b r k h in
    let e : pos_of n c.args.at ≡ f * 8 + ((b - f) * 8 + r) = omega arith in
    word_held s f ((b - f) * 8 + r) (pos_of n c.args.at) c.word_at.ensures e (omega arith) (omega arith) (λ l. omega arith)

pub returns-else-byte-s : goal.returns-else-byte-s
returns-else-byte-s c =
    let n : ℕ = length c.args.s.now in
    let b : ℕ = c.args.at.byte in
    let r : ℕ = c.args.at.bit in
    none_held c.args.s.now (pos_of n c.args.at) (
    elim c.else-byte-s.branch [
      | else-byte-s-via-then-byte-s+else-bit-lt8 w ↦ pos_wide n b r w.if-byte-s.true w.if-bit-lt8.false
      | else-byte-s-via-else-byte-s w ↦ pos-past n b r w.if-byte-s.false
    ]
    )
