use Rattle.std.proofs.Common.{◌≡◌, true, false, rules}
use Rattle.std.proofs.lemmas.Iterator.{IsFirst-from_position, YieldsList-from_slice}
use Rattle.limits.specs.Domain.{outside}
use Rattle.order.proofs.First.{found_by}
use Rattle.order.proofs.inner.first_outside.Goals as goal

pub returns : goal.returns
returns c =
    found_by outside c.args.secs.now _ _
    (IsFirst-from_position _ _ _ (λ z. outside z ≡ true) (λ z. outside z ≡ false) c.position.ensures.ran (YieldsList-from_slice _ c.iter.ensures.rest) (λ x q k. search rules) (λ x q k. search rules))
