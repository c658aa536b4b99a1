use Rattle.std.proofs.Common.{pos, sym, ◌∙◌}
use lib.Dec.{ltb}
use lib.ListN.{take}
use lib.Signed.{lt_z}
use Rattle.order.specs.Order.{drops, sec_outside}
use Rattle.order.proofs.First.{first_out}
use Rattle.order.proofs.Taken.{drop_taken, outside_taken, not_found}
use Rattle.tracker.proofs.Broken.{broken, unbroken}
use Rattle.tracker.proofs.inner.pairs.Goals as goal

pub returns-in-Some : goal.returns-in-Some
returns-in-Some c =
    let a = c.args in
    broken 11 (drops ltb 0 a.seqs.now) a.n _ _ (sym c.in-Some.is ∙ c.first_drop.ensures ∙ drop_taken a.n ltb 0 a.seqs.now c.requires.0)

pub returns-in-Some-first_drop : goal.returns-in-Some-first_drop
returns-in-Some-first_drop c =
    let a = c.args in
    broken 12 (drops lt_z (pos 0) a.secs.now) a.n _ _ (sym c.in-Some-first_drop.is ∙ c.first_drop-2.ensures ∙ drop_taken a.n lt_z (pos 0) a.secs.now c.requires.1)
    ∙ sym (unbroken 11 (drops ltb 0 a.seqs.now) a.n _ (sym c.in_default.is ∙ c.first_drop.ensures ∙ drop_taken a.n ltb 0 a.seqs.now c.requires.0))

pub sec_outside-requires : goal.sec_outside-requires
sec_outside-requires c =
    first_out _ _ (not_found (drops lt_z (pos 0) (take c.args.n c.args.secs.now)) _ (sym c.in_default-first_drop.is ∙ c.first_drop-2.ensures))

pub returns-in-Some-sec_outside : goal.returns-in-Some-sec_outside
returns-in-Some-sec_outside c =
    let a = c.args in
    broken 13 (sec_outside a.secs.now) a.n _ _ (sym c.in-Some-sec_outside.is ∙ c.sec_outside.ensures ∙ outside_taken a.n a.secs.now c.requires.1)
    ∙ sym (unbroken 12 (drops lt_z (pos 0) a.secs.now) a.n _ (sym c.in_default-first_drop.is ∙ c.first_drop-2.ensures ∙ drop_taken a.n lt_z (pos 0) a.secs.now c.requires.1))
    ∙ sym (unbroken 11 (drops ltb 0 a.seqs.now) a.n _ (sym c.in_default.is ∙ c.first_drop.ensures ∙ drop_taken a.n ltb 0 a.seqs.now c.requires.0))

pub returns : goal.returns
returns c =
    let a = c.args in
    sym (unbroken 13 (sec_outside a.secs.now) a.n _ (sym c.in_default-sec_outside.is ∙ c.sec_outside.ensures ∙ outside_taken a.n a.secs.now c.requires.1))
    ∙ sym (unbroken 12 (drops lt_z (pos 0) a.secs.now) a.n _ (sym c.in_default-first_drop.is ∙ c.first_drop-2.ensures ∙ drop_taken a.n lt_z (pos 0) a.secs.now c.requires.1))
    ∙ sym (unbroken 11 (drops ltb 0 a.seqs.now) a.n _ (sym c.in_default.is ∙ c.first_drop.ensures ∙ drop_taken a.n ltb 0 a.seqs.now c.requires.0))
