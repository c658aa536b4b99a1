use borrow.Author.Rules.{rules}
use Rattle.bits.proofs.Answers.{read_width, read_short, read-value}
use Prim.Native.Nat.{◌+◌, ◌*◌}
use Rattle.bits.proofs.read.read_bits.Goals as goal

pub returns-then-width-gt64 : goal.returns-then-width-gt64
returns-then-width-gt64 c = read_width _ _ _ c.if-width-gt64.true

pub returns-then-s-n : goal.returns-then-s-n
returns-then-s-n c =
    let p = c.settle-p.result in
    read_short _ _ _ (p.byte * 8 + p.bit) (search rules) c.settle-p.ensures.pos c.settle-p.ensures.within (search rules) c.left_at.ensures

pub returns : goal.returns
returns c =
    let p = c.settle-p.result in
    read-value _ _ _ (p.byte * 8 + p.bit) (search rules) c.settle-p.ensures.pos (search rules)
    c.take_bits-v.ensures c.after.ensures
