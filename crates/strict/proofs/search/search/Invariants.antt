use Rattle.std.proofs.Common.{◌≡◌, ◌+◌, map, drop}
use Rattle.gorilla.specs.Array.{array_no}
use Rattle.gorilla.specs.Wide.{wide_after, wide_in}
use Rattle.strict.proofs.search.search.Given as goal

abbrev pub invariant-loop-i : goal.invariant-loop-i
invariant-loop-i g l =
    wide_after (array_no l.array) (l.i + 1) l.t.prev l.t.delta (drop l.i (map g.T.Stored.as_z l.rest)) ≡ wide_in (array_no l.array) (map g.T.Stored.as_z l.values)
