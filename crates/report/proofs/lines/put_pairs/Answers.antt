use Rattle.std.proofs.Common.{length, arith}
use Rattle.text.specs.Ascii.{ascii}
use Rattle.text.proofs.Putting.{then, put_length}
use Rattle.text.proofs.Numbers.{word-length}
use Rattle.report.specs.Lines.{entries_text}
use Rattle.report.proofs.lines.put_pairs.Goals as goal

pub put_lines-requires-clause-room : goal.put_lines-requires-clause-room
put_lines-requires-clause-room g c =
    let put = c.put_word_line-p.ensures in
    omega (arith, put.ends, put_length put, word-length (ascii "entries ") (length c.args.secs.now))

pub returns : goal.returns
unfolding entries_text
returns g c = rw (← c.some_lacks.ensures, c.if-some_lacks.false) (then c.put_word_line-p.ensures c.put_lines.ensures)
