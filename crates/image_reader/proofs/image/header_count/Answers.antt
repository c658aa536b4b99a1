use native.Mathlib.Omega.{arith}
use Prim.Native.Nat.{ℕ, ◌+◌, ◌*◌, ◌<◌}
use mathlib.Core.Path.{◌≡◌, subst}
use mathlib.Core.Bool.{true}
use lib.ListN.{get_or}
use Rattle.image_reader.specs.Inner.{HeaderCount}
use Rattle.image_reader.proofs.Header.{le_is}
use Rattle.image_reader.proofs.image.header_count.Goals as goal

pub returns : goal.returns
returns c =
    let s = c.args.s.now in
    let b : (j : ℕ) → get_or s j 0 < 256 = λ j. omega (arith, c.type_inv.s j) in
    let k : get_or s 1 0 + 256 * (get_or s 2 0 + 256 * (get_or s 3 0 + 256 * get_or s 4 0)) ≡ c.from_le_bytes.result = omega (arith, c.from_le_bytes.ensures) in
    subst (HeaderCount s) k (le_is (λ n. true) s b c.requires)
