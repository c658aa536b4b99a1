use borrow.Author.Rules.{rules}
use Prim.Native.Nat.{◌+◌, ◌*◌}
use Rattle.bits.proofs.Answers.{write_width, write_short, write_done}
use Rattle.bits.proofs.write.write_bits.Goals as goal

pub returns-then-width-gt64 : goal.returns-then-width-gt64
returns-then-width-gt64 c = write_width _ _ _ _ c.if-width-gt64.true

pub returns-then-buf-n : goal.returns-then-buf-n
returns-then-buf-n c =
    let p = c.settle-p.result in
    write_short _ _ _ _ (p.byte * 8 + p.bit) (search rules) c.settle-p.ensures.pos (search rules) c.needed-n.ensures

pub returns : goal.returns
returns c =
    let p = c.settle-p.result in
    write_done _ _ _ _ _ (p.byte * 8 + p.bit) (search rules) (search rules) c.settle-p.ensures.pos (search rules)
    c.after.ensures c.put_bits.ensures
