use Rattle.text.specs.Inner.{Put}
use Rattle.report.specs.Lines.{lines}
use Rattle.report.proofs.lines.put_lines.Given as goal

abbrev pub invariant-loop-i : goal.invariant-loop-i
invariant-loop-i g l = Put l.initial.out l.at (lines g.T.Third.text l.seqs l.secs l.i) l.out l.p
