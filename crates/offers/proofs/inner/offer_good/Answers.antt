use borrow.Author.Rules.{rules}
use mathlib.Core.Path.{◌≡◌, refl, sym, ◌∙◌}
use mathlib.Core.Bool.{true, false}
use mir.Syntax.{w64}
use mir.Val.{to_z, of_z}
use Rattle.limits.specs.Domain.{outside}
use Rattle.totals.specs.Totals.{full}
use Rattle.skipping.specs.Reasons.{goes_back, comes_too_soon, skips}
use Rattle.keeping.proofs.Thinned.{thinned-length}
use Rattle.skipping.proofs.Reasons.{else_soon, not_skipped}
use Rattle.tracker.proofs.Good.{fine, count-seqs, count-secs, capacity-secs}
use Rattle.offers.specs.Whole.{whole}
use Rattle.offers.proofs.Unique.{left_by_lem}
use Rattle.offers.proofs.inner.offer_good.Goals as goal
use Rattle.offers.proofs.inner.offer_good.Goals.{After-low_seq, After-went_back}

-- what the tests before the last one told: the totals are not full, the second is in the domain, and the offer is not skipped
passed : (c : After-low_seq) → let a = c.args in
    (full a.table.totals ≡ false) × (outside a.ts.0 ≡ false) × (goes_back a.table.last_recorded_ts a.ts.0 ≡ false)
    × (comes_too_soon a.table.last_recorded_ts a.table.interval_secs a.ts.0 ≡ false)
passed c =
    let a = c.args in
    let r : to_z w64 (of_z w64 a.ts.0) ≡ a.ts.0 = search rules in
    let skip = not_skipped a.table.last_recorded_ts a.table.interval_secs a.ts.0 (rw (← r) (sym c.skips.ensures ∙ c.if-skips.false)) in
    (sym c.full.ensures ∙ c.if-full.false, rw (← r) (sym c.out_of_domain.ensures ∙ c.if-out_of_domain.false), skip.0, skip.1)

-- a skipped offer: what the tests told, and how its reason was found
skipped : (c : After-went_back) → let a = c.args in
    (full a.table.totals ≡ false) × (outside a.ts.0 ≡ false) × (skips a.table.last_recorded_ts a.table.interval_secs a.ts.0 ≡ true)
    × (c.went_back.result ≡ goes_back a.table.last_recorded_ts a.ts.0)
skipped c =
    let a = c.args in
    let r : to_z w64 (of_z w64 a.ts.0) ≡ a.ts.0 = search rules in (
      sym c.full.ensures ∙ c.if-full.false,
      rw (← r) (sym c.out_of_domain.ensures ∙ c.if-out_of_domain.false),
      rw (← r) (sym c.skips.ensures ∙ c.if-skips.true),
      rw r at c.went_back.ensures,
    )

pub returns-then-went_back : goal.returns-then-went_back
returns-then-went_back c =
    let a = c.args in
    let p = skipped (goal.at.returns-then-went_back c).After-went_back in
    left_by_lem (whole a.table a.seqs.now a.secs.now) a.seq a.ts (rw (c.requires, p.0, p.1, sym p.3 ∙ c.if-went_back.true)) refl refl

pub returns-then-skips : goal.returns-then-skips
returns-then-skips c =
    let a = c.args in
    let p = skipped (goal.at.returns-then-skips c).After-went_back in
    let e = sym p.3 ∙ c.if-went_back.false in
    left_by_lem (whole a.table a.seqs.now a.secs.now) a.seq a.ts
    (rw (c.requires, p.0, p.1, e, else_soon a.table.last_recorded_ts a.table.interval_secs a.ts.0 p.2 e)) refl refl

pub returns-then-low_seq : goal.returns-then-low_seq
returns-then-low_seq c =
    let a = c.args in
    let p = passed (goal.at.returns-then-low_seq c).After-low_seq in
    left_by_lem (whole a.table a.seqs.now a.secs.now) a.seq a.ts (rw (c.requires, p.0, p.1, p.2, p.3, sym c.low_seq.ensures ∙ c.if-low_seq.true)) refl refl

pub keep-requires : goal.keep-requires
keep-requires c =
    let a = (fine c.args.table c.args.seqs.now c.args.secs.now c.requires).state in
    (count-secs _ _ _ a, (capacity-secs _ _ _ a).0, (capacity-secs _ _ _ a).1)

pub returns : goal.returns
returns c =
    let a = c.args in
    let p = passed (goal.at.returns c).After-low_seq in
    let r : to_z w64 (of_z w64 a.ts.0) ≡ a.ts.0 = search rules in
    let state = (fine a.table a.seqs.now a.secs.now c.requires).state in
    let length-is = thinned-length a.table.count a.seqs.now a.seq.0 (count-seqs _ _ _ state) a.table.capacity in
    left_by_lem (whole a.table a.seqs.now a.secs.now) a.seq a.ts
    (rw (c.requires, p.0, p.1, p.2, p.3, sym c.low_seq.ensures ∙ c.if-low_seq.false, length-is, ← c.keep-count.ensures.count))
    c.keep-count.ensures.items
    (rw r at c.keep.ensures.items)
