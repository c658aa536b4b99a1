use mathlib.Core.Path.{◌≡◌}
use mathlib.Core.Bool.{true, false}
use lib.IntN.{negsuc}
use lib.Signed.{lt_z}
use mir.Facts.{to_z-of_z}
use Rattle.limits.proofs.inner.out_of_domain.Goals as goal

pub returns-then-s-lt-FIRST_SECOND : goal.returns-then-s-lt-FIRST_SECOND
returns-then-s-lt-FIRST_SECOND c =
    let e : lt_z c.args.s (negsuc 62135596799) ≡ true = rw (to_z-of_z c.ranges.s) at c.if-s-lt-FIRST_SECOND.true in
    rw e

pub returns : goal.returns
returns c =
    let e : lt_z c.args.s (negsuc 62135596799) ≡ false = rw (to_z-of_z c.ranges.s) at c.if-s-lt-FIRST_SECOND.false in
    rw (to_z-of_z c.ranges.s, e)
