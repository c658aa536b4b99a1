use native.Mathlib.Nat.{pos_of_ne-zero}
use native.Mathlib.Omega.{arith}
use mathlib.Core.Path.{◌≡◌, sym, ◌∙◌, ap}
use mathlib.Core.Bool.{not, true}
use Prim.Native.Nat.{◌<◌}
use borrow.Author.Tests.{lt-ltb}
use lib.Arith.{lt_of_le-ne}
use Rattle.std.specs.Prelude.{Some, unwrap_or}
use Rattle.order.proofs.First.{first-within}
use Rattle.search.specs.Inner.{among}
use Rattle.search.specs.Keys.{smaller, first_not_below}
use Rattle.lookup.proofs.Taken.{in_order_taken, first_taken}
use Rattle.lookup.specs.Laws.{equal}
use Rattle.lookup.specs.Find.{place}
use Rattle.explaining.specs.Reason.{reason_of, beside}
use Rattle.explaining.specs.Laws.{Parts}
use Rattle.explaining.specs.declared.Reason.TheVariants.{Exact}
use Rattle.explaining.proofs.Parts.{equal-reason, equal-answers, parts-reason, parts-past, parts-there, equal-there}
use Rattle.explaining.proofs.inner.reason.Given.{Over}
use Rattle.explaining.proofs.inner.reason.Goals as goal
use Rattle.explaining.proofs.inner.reason.Goals.{After-first_not_below-p, After-place-at}

pub invariant_of-sorted : goal.invariant_of-sorted
invariant_of-sorted g c = record { in_order = in_order_taken g.K.Key.lt g.K.Key.zero c.args.keys.now c.args.n c.requires.0 c.requires.1 }

first_found : (g : Over) (c : After-first_not_below-p g)
    → let m = g.K.Key in let a = c.args in c.first_not_below-p.result ≡ first_not_below m.lt m.zero a.keys.now a.n a.x
first_found g c = let m = g.K.Key in let a = c.args in c.first_not_below-p.ensures ∙ first_taken m.lt m.zero a.keys.now a.n c.requires.0 a.x

-- where the keys part at the position found, the reason is the one beside it
parted : (g : Over) (c : After-first_not_below-p g)
    → let m = g.K.Key in let a = c.args in let p = c.first_not_below-p.result in Parts m.lt m.zero a.keys.now a.n a.x p
    → beside a.find_opt p a.n ≡ reason_of m.lt m.zero a.find_opt a.keys.now a.n a.x
parted g c P =
    let m = g.K.Key in
    let a = c.args in
    sym (parts-reason m.lt g.met.K.Key.order m.zero a.keys.now a.n a.x c.first_not_below-p.result P (pos_of_ne-zero c.if-n-eq0.false) a.find_opt)

pub returns-then-p-n : goal.returns-then-p-n
returns-then-p-n g c =
    let m = g.K.Key in
    let a = c.args in
    let found = (goal.at.returns-then-p-n g c).After-first_not_below-p in
    c.beside.ensures
    ∙ parted g found (parts-past m.lt g.met.K.Key.order m.zero a.keys.now a.n a.x c.requires.1 c.first_not_below-p.result (first_found g found) c.if-p-n.true)

inside : (g : Over) (c : After-first_not_below-p g) → (c.first_not_below-p.result ≡ c.args.n → ⊥) → c.first_not_below-p.result < c.args.n
inside g c other =
    let m = g.K.Key in
    let a = c.args in
    lt_of_le-ne (rw (first_found g c) (first-within (λ i. not (smaller m.lt m.zero a.keys.now a.x i)) a.n)) other

pub above-requires : goal.above-requires
above-requires g c = omega (arith, inside g (goal.at.above-requires g c).After-first_not_below-p c.if-p-n.false, c.requires.0)

pub returns-then-above : goal.returns-then-above
returns-then-above g c =
    let m = g.K.Key in
    let a = c.args in
    let found = (goal.at.returns-then-above g c).After-first_not_below-p in
    let p = c.first_not_below-p.result in
    let b = sym c.above.ensures ∙ c.if-above.true in
    c.beside-then-above.ensures
    ∙ parted g found (parts-there m.lt g.met.K.Key.order m.zero a.keys.now a.n a.x c.requires.1 p (first_found g found) (inside g found c.if-p-n.false) b)

-- where they do not part there, a key equals, so that a position answers
key_equals : (g : Over) (c : After-place-at g) → let m = g.K.Key in let a = c.args in equal m.lt m.zero a.keys.now a.x c.first_not_below-p.result ≡ true
key_equals g c =
    let m = g.K.Key in
    let a = c.args in
    let found = (goal.at.unwrap-requires g c).After-first_not_below-p in
    equal-there m.lt g.met.K.Key.order m.zero a.keys.now a.n a.x c.requires.1 c.first_not_below-p.result (first_found g found) (inside g found c.if-p-n.false) (sym c.above.ensures ∙ c.if-above.false)

answers : (g : Over) (c : After-place-at g) → let m = g.K.Key in let a = c.args in c.place-at.result ≡ Some (place m.lt m.zero a.find_opt a.keys.now a.n a.x)
answers g c =
    let m = g.K.Key in
    let a = c.args in
    let l = inside g (goal.at.unwrap-requires g c).After-first_not_below-p c.if-p-n.false in
    let p = place m.lt m.zero a.find_opt a.keys.now a.n a.x in
    let here : among a.n p ≡ Some p = rw (lt-ltb p a.n (equal-answers m.lt g.met.K.Key.order m.zero a.keys.now a.n a.x c.first_not_below-p.result l (key_equals g c) a.find_opt)) in
    c.place-at.ensures ∙ here

pub unwrap-requires : goal.unwrap-requires
unwrap-requires g c = rw (answers g c)

pub returns : goal.returns
returns g c =
    let m = g.K.Key in
    let a = c.args in
    let at = (goal.at.returns g c).After-place-at in
    let l = inside g (goal.at.returns g c).After-first_not_below-p c.if-p-n.false in
    ap Exact (ap (λ o. unwrap_or o a.n) (sym c.unwrap.ensures ∙ answers g at))
    ∙ sym (equal-reason m.lt g.met.K.Key.order m.zero a.keys.now a.n a.x c.first_not_below-p.result l (key_equals g at) a.find_opt)
