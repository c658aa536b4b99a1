use Rattle.std.proofs.Common.{arith}
use Rattle.code_reader.proofs.Windows.{zero_in}
use Rattle.code_reader.proofs.window.zeros.Goals as goal

pub returns-then-w-eq0 : goal.returns-then-w-eq0
returns-then-w-eq0 c = (omega arith, omega arith, λ xs q h j l. zero_in h c.if-w-eq0.true j (omega arith))
