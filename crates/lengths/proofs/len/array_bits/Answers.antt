use Rattle.std.proofs.Common.{◌≡◌, ◌+◌, List, map, length, ℕ, refl, sym, ap, ◌∙◌, arith, rules, to_z, of_z, to_z-of_z, w64, SFits}
use borrow.Author.Rules.{sfits_of}
use lib.ListN.{length-map}
use Rattle.gorilla.specs.Inner.{advanced}
use Rattle.bit_lists.specs.BitList.{nat_bits}
use Rattle.gorilla.specs.Format.{code_bits, codes_bits}
use Rattle.bit_lists.proofs.Lists.{length-nat_bits}
use Rattle.code_writer.specs.Inner.{Leads}
use Rattle.code_writer.proofs.Once.{zero-code}
use Rattle.code_writer.proofs.Codes.{leads_one, Counted, none_mapped, code-most, count_first, count_next, count_last}
use Rattle.lengths.proofs.len.array_bits.Given as given
use Rattle.lengths.proofs.len.array_bits.Goals as goal
use Rattle.lengths.proofs.len.array_bits.Goals.{After-advance-c}

-- where the value that is read leads
leads : (g : given.Over) (c : After-advance-c g) (bs : List ℕ) → bs ≡ code_bits (to_z w64 (of_z w64 c.advance-c.result.dod))
    → Leads (map g.T.Stored.as_z c.loop-value.rest.now) c.loop-value.t bs (map g.T.Stored.as_z c.in-Some-split_first.after.now) c.advance-c.result.next
leads g c bs b =
    let s = c.to_signed-in-Some-split_first in
    let d : SFits w64 c.advance-c.result.dod = search rules in
    ap (λ (l : List g.row.T.Denot). codes_bits c.loop-value.t.prev c.loop-value.t.delta (map g.T.Stored.as_z l)) c.in-Some-split_first.ensures.cases.0
    ∙ leads_one _ _ c.loop-value.t c.advance-c.result _ (c.advance-c.ensures ∙ ap (advanced c.loop-value.t) (to_z-of_z {w = w64} (sfits_of s.type_inv) ∙ s.ensures)) (to_z-of_z d) bs b

one_fewer : (g : given.Over) (c : After-advance-c g) → length (map g.T.Stored.as_z c.in-Some-split_first.after.now) + 1 ≡ length (map g.T.Stored.as_z c.loop-value.rest.now)
one_fewer g c =
    omega (arith, length-map c.in-Some-split_first.after.now g.T.Stored.as_z, length-map c.loop-value.rest.now g.T.Stored.as_z, c.in-Some-split_first.ensures.cases.1)

-- after a zero code
zero_counted : (g : given.Over) (c : After-advance-c g) → of_z w64 c.advance-c.result.dod ≡ 0
    → Counted (map g.T.Stored.as_z c.args.values.now) c.advance-c.result.next (c.loop-value.total + 1) (map g.T.Stored.as_z c.in-Some-split_first.after.now)
zero_counted g c e =
    count_next (nat_bits 1 0) 1 c.loop-value.invariant (leads g c (nat_bits 1 0) (zero-code _ (ap (to_z w64) e))) (sym (length-nat_bits 1 0)) (omega (arith, one_fewer g c))

pub returns-in_default : goal.returns-in_default
returns-in_default g c = sym (none_mapped g.T.Stored.as_z c.args.values.now c.in_default.ensures.cases)

pub loop-value-init : goal.loop-value-init
loop-value-init g c =
    count_first g.T.Stored.as_z c.args.values.now c.in-Some.rest.now c.in-Some.first.now _ c.in-Some.ensures.cases.0 (to_z-of_z {w = w64} (sfits_of c.to_signed.type_inv) ∙ c.to_signed.ensures)

pub overflow_add-total : goal.overflow_add-total
overflow_add-total g c = omega (arith, code-most (to_z w64 (of_z w64 c.advance-c.result.dod)), c.loop-value.invariant.most, length-map c.args.values.now g.T.Stored.as_z)

pub loop-value-preserved-then-c-ne0 : goal.loop-value-preserved-then-c-ne0
loop-value-preserved-then-c-ne0 g c =
    let z = to_z w64 (of_z w64 c.advance-c.result.dod) in
    count_next (code_bits z) c.code_len-total.result c.loop-value.invariant (leads g ((goal.at.loop-value-preserved-then-c-ne0 g c).After-advance-c) (code_bits z) refl) c.code_len-total.ensures
    (omega (arith, code-most z, one_fewer g ((goal.at.loop-value-preserved-then-c-ne0 g c).After-advance-c)))

pub loop-value-preserved-in-Some-take_run : goal.loop-value-preserved-in-Some-take_run
loop-value-preserved-in-Some-take_run g c =
    let r = c.in-Some-take_run.ensures in
    count_next (nat_bits 7 0) 7 (zero_counted g ((goal.at.loop-value-preserved-in-Some-take_run g c).After-advance-c) c.if-c-ne0.false) r.1 (sym (length-nat_bits 7 0)) (omega (arith, r.0))

pub loop-value-preserved : goal.loop-value-preserved
loop-value-preserved g c = zero_counted g ((goal.at.loop-value-preserved g c).After-advance-c) c.if-c-ne0.false

pub returns : goal.returns
returns g c = count_last g.T.Stored.as_z c.loop-value.rest.now c.in_default-split_first.ensures.cases c.loop-value.invariant
