use Rattle.std.proofs.Common.{take, ◌≡◌, ◌-◌, length}
use Rattle.std.specs.Io.KnownBytes.{Consumes}
use Rattle.input.specs.Inner.{ReadingOf}
use Rattle.input.proofs.read_all.Given as goal

abbrev pub invariant-loop-next : goal.invariant-loop-next
invariant-loop-next g l =
    record {
      reading : ReadingOf l.at l.buf;
      same : length l.buf ≡ length l.initial.buf;
      given : Consumes (g.R.Read.remaining l.initial.from) (g.R.Read.remaining l.from) (take l.at.bytes l.buf);
    }

abbrev pub decreases-loop-next : goal.decreases-loop-next
decreases-loop-next g l = l.at.room - l.at.bytes
