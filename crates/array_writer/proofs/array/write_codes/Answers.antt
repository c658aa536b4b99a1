use Rattle.std.proofs.Common.{◌≡◌, ℕ, ◌+◌, ◌*◌, List, map, pos, ap, ◌∙◌, arith, rules, to_z, of_z, to_z-of_z, w64, SFits}
use borrow.Author.Rules.{sfits_of}
use Rattle.gorilla.specs.Inner.{advanced}
use Rattle.bit_lists.specs.BitList.{nat_bits}
use Rattle.gorilla.specs.Format.{code_bits, codes_bits}
use Rattle.code_writer.specs.Inner.{Leads}
use Rattle.code_writer.proofs.Once.{zero-code}
use Rattle.code_writer.proofs.Codes.{leads_one}
use Rattle.array_writer.proofs.Holding.{Holding, hold_first, hold_more, hold_put, hold_last}
use Rattle.array_writer.proofs.array.write_codes.Given as given
use Rattle.array_writer.proofs.array.write_codes.Goals as goal
use Rattle.array_writer.proofs.array.write_codes.Goals.{After-advance-c, After-joined-held}

-- where the value that is read leads
leads : (g : given.Over) (c : After-advance-c g) (bs : List ℕ) → bs ≡ code_bits (to_z w64 (of_z w64 c.advance-c.result.dod))
    → Leads (map g.T.Stored.as_z c.loop-value.rest.now) c.loop-value.t bs (map g.T.Stored.as_z c.in-Some.after.now) c.advance-c.result.next
leads g c bs b =
    let s = c.to_signed in
    let d : SFits w64 c.advance-c.result.dod = search rules in
    ap (λ (l : List g.row.T.Denot). codes_bits c.loop-value.t.prev c.loop-value.t.delta (map g.T.Stored.as_z l)) c.in-Some.ensures.cases.0
    ∙ leads_one _ _ c.loop-value.t c.advance-c.result _ (c.advance-c.ensures ∙ ap (advanced c.loop-value.t) (to_z-of_z {w = w64} (sfits_of s.type_inv) ∙ s.ensures)) (to_z-of_z d) bs b

-- after a zero code
zero_held : (g : given.Over) (c : After-joined-held g) → Leads (map g.T.Stored.as_z c.loop-value.rest.now) c.loop-value.t (nat_bits 1 0) (map g.T.Stored.as_z c.in-Some.after.now) c.advance-c.result.next
    → Holding (codes_bits (to_z w64 (of_z w64 c.args.first)) (pos 0) (map g.T.Stored.as_z c.args.values.now)) c.args.buf.now (c.args.at.byte * 8 + c.args.at.bit) c.loop-value.buf c.loop-value.p
    c.joined-held.result c.advance-c.result.next (map g.T.Stored.as_z c.in-Some.after.now)
zero_held g c l =
    hold_more c.loop-value.invariant (record { value = 0; width = 1 }) (omega arith) l c.joined-held.result (omega (arith, (c.takes_zero.ensures c.if-takes_zero.true).0)) c.joined-held.ensures

pub loop-value-init : goal.loop-value-init
loop-value-init g c = hold_first c.args.buf.now c.args.at _ (map g.T.Stored.as_z c.args.values.now) c.requires.0

pub loop-value-preserved-in-Some-take_run : goal.loop-value-preserved-in-Some-take_run
loop-value-preserved-in-Some-take_run g c =
    let at = goal.at.loop-value-preserved-in-Some-take_run g c in
    let z = leads g at.After-advance-c (nat_bits 1 0) (zero-code _ (c.takes_zero.ensures c.if-takes_zero.true).1) in
    hold_more (zero_held g at.After-joined-held z) (record { value = 0; width = 7 }) (omega arith) c.in-Some-take_run.ensures.1 c.joined-held-in-Some-take_run.result (omega arith)
    c.joined-held-in-Some-take_run.ensures

pub loop-value-preserved-in_default-take_run : goal.loop-value-preserved-in_default-take_run
loop-value-preserved-in_default-take_run g c =
    let at = goal.at.loop-value-preserved-in_default-take_run g c in
    zero_held g at.After-joined-held (leads g at.After-advance-c (nat_bits 1 0) (zero-code _ (c.takes_zero.ensures c.if-takes_zero.true).1))

pub loop-value-preserved-else-held-run-le64 : goal.loop-value-preserved-else-held-run-le64
loop-value-preserved-else-held-run-le64 g c =
    let at = goal.at.loop-value-preserved-else-held-run-le64 g c in
    zero_held g at.After-joined-held (leads g at.After-advance-c (nat_bits 1 0) (zero-code _ (c.takes_zero.ensures c.if-takes_zero.true).1))

pub loop-value-preserved-then-held-code-le64 : goal.loop-value-preserved-then-held-code-le64
loop-value-preserved-then-held-code-le64 g c =
    let l = leads g ((goal.at.loop-value-preserved-then-held-code-le64 g c).After-advance-c) _ c.code_of-code.ensures.bits in
    hold_more c.loop-value.invariant c.code_of-code.result c.code_of-code.ensures.size.0 l c.joined-held-then-held-code-le64.result (omega arith) c.joined-held-then-held-code-le64.ensures

pub loop-value-preserved : goal.loop-value-preserved
loop-value-preserved g c =
    let l = leads g ((goal.at.loop-value-preserved g c).After-advance-c) _ c.code_of-code.ensures.bits in
    hold_put c.loop-value.invariant c.code_of-code.result c.code_of-code.ensures.size.0 l c.put-p.new.buf c.put-p.result (omega arith) c.put-p.ensures.place c.put-p.ensures.buf

pub returns : goal.returns
returns g c =
    let f : SFits w64 c.args.first = search rules in
    rw (to_z-of_z f) at (hold_last g.T.Stored.as_z c.loop-value.rest.now c.in_default.ensures.cases c.loop-value.invariant c.put.new.buf c.put.result c.put.ensures.place c.put.ensures.buf)
