use Rattle.std.proofs.Common.{rules, false, ◌≡◌, ◌-◌, length}
use native.Mathlib.Nat.{le_refl}
use Rattle.order.specs.Order.{sec_outside}
use Rattle.order.proofs.First.{found-none}
use Rattle.order.proofs.Fours.{between}
use Rattle.order.proofs.inner.sec_outside.Goals as goal

pub returns-then-not-out_of_domain-2 : goal.returns-then-not-out_of_domain-2
returns-then-not-out_of_domain-2 c =
    let low : sec_outside c.args.secs.now 0 ≡ false = search rules in
    let high : sec_outside c.args.secs.now (length c.args.secs.now - 1) ≡ false = search rules in
    found-none _ _ _ (le_refl _) (between c.args.secs.now _ c.requires low high)
