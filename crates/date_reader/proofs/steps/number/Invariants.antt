use Rattle.date_reader.proofs.Counted.{Partly}
use Rattle.date_reader.proofs.steps.number.Given as goal

abbrev pub invariant-digits : goal.invariant-digits
invariant-digits l = Partly l.s l.k l.n l.rest l.counter
