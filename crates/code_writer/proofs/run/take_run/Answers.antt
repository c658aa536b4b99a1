use Rattle.std.proofs.Common.{◌≡◌, ◌++◌, sym, ap, ap₂, ◌∙◌, arith, rules, to_z, to_z-of_z, w64, SFits, take-append-drop}
use borrow.Author.Rules.{sfits_of}
use Rattle.signed.specs.Signed.{add_s}
use Rattle.code_writer.proofs.Runs.{run_first, run_next, run_last}
use Rattle.code_writer.proofs.run.take_run.Goals as goal
use Rattle.code_writer.proofs.run.take_run.Goals.{In_ok-run}

-- the values are those of the run, and the others after them
cut : (g : Rattle.code_writer.proofs.run.take_run.Given.Over) (c : In_ok-run g) → c.args.values.now ≡ c.in_ok-run.run'.now ++ c.in_ok-run.rest.now
cut g c = sym (take-append-drop 7 c.args.values.now) ∙ ap₂ ◌++◌ (sym c.in_ok-run.ensures.cases.1) (sym c.in_ok-run.ensures.cases.2)

pub loop-value-init : goal.loop-value-init
loop-value-init g c =
    let p : SFits w64 c.args.t.prev = search rules in
    run_first g.T.Stored.as_z c.args.values.now c.in_ok-run.run'.now c.in_ok-run.rest.now (cut g ((goal.at.loop-value-init g c).In_ok-run)) c.args.t _ p (to_z-of_z p)

pub loop-value-preserved : goal.loop-value-preserved
loop-value-preserved g c =
    let d : SFits w64 c.args.t.delta = search rules in
    let v = to_z-of_z {w = w64} (sfits_of c.wrapping_add-v.type_inv) in
    let x = to_z-of_z {w = w64} (sfits_of c.to_signed.type_inv) in
    run_next g.T.Stored.as_z c.args.values.now c.in_ok-run.run'.now c.in_ok-run.rest.now (cut g ((goal.at.loop-value-preserved g c).In_ok-run)) c.args.t c.loop-value.value-index _ _ c.value-item.result
    c.loop-value-test.true c.value-item.is c.loop-value.invariant d
    (sym c.to_signed.ensures ∙ sym x ∙ ap (to_z w64) c.if-to_signed-v.false)
    (v ∙ c.wrapping_add-v.ensures ∙ ap (add_s (to_z w64 c.loop-value.v-bits)) (to_z-of_z d))

pub returns : goal.returns
returns g c =
    let d : SFits w64 c.args.t.delta = search rules in
    let run = run_last g.T.Stored.as_z c.args.values.now c.in_ok-run.run'.now c.in_ok-run.rest.now (cut g ((goal.at.returns g c).In_ok-run)) c.args.t c.loop-value.value-index (to_z w64 c.loop-value.v-bits)
    c.in_ok-run.ensures.cases.3 (omega (arith, c.in_ok-run.ensures.cases.3)) c.loop-value.invariant in
    rw (to_z-of_z d) run
