use Rattle.std.proofs.Common.{◌≡◌, ◌-◌}
use Rattle.date_reader.specs.Grammar.{up_to}
use Rattle.date_reader.proofs.steps.up_to.Given as goal

abbrev pub invariant-digits : goal.invariant-digits
invariant-digits l = up_to l.k l.s ≡ up_to (l.k - l.counter) l.rest
