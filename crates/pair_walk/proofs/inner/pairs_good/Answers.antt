use Rattle.std.proofs.Common.{◌≡◌, ◌<◌, Err, length, get_or, pos, refl, sym, ◌∙◌, arith, rules}
use Rattle.std.proofs.lemmas.List.{length_push}
use Rattle.std.proofs.lemmas.Slice.Zip.{zip_turn, zip_end}
use Rattle.offer_log.specs.Pairs.{pair_of, records_of}
use Rattle.offer_log.proofs.Run.{no_record, next, stops, ended}
use Rattle.offer_log.proofs.Records.{records-length, records-at}
use Rattle.pair_walk.proofs.inner.pairs_good.Goals as goal
use Rattle.pair_walk.proofs.inner.pairs_good.Goals.{In-Some}

-- the position is below the number of records, and the pair is the record there
turn : (c : In-Some) → let rs = records_of c.args.from_seqs.now c.args.from_secs.now in
    (length c.loop-q.yielded < length rs) × (pair_of c.in-Some.q.now c.in-Some.s.now ≡ get_or rs (length c.loop-q.yielded) no_record)
turn c =
    let a = c.args in
    let t = zip_turn a.from_seqs.now a.from_secs.now c.loop-q.yielded c.into_iter-q-iterator.result c.loop-q.q-iterator c.next.new.self c.next.result (cc) (cc) c.loop-q.yielded_by (c.in-Some.q, c.in-Some.s) c.in-Some.is c.next.ensures.steps in
    let n = records-length (length a.from_seqs.now) a.from_seqs.now a.from_secs.now refl (sym c.requires.1) in
    (omega (arith, n, t.0), rw (t.2 0, t.3 (pos 0)) (sym (records-at a.from_seqs.now a.from_secs.now _ t.0 t.1)))

pub loop-q-preserved : goal.loop-q-preserved
loop-q-preserved c =
    let t = turn (goal.at.loop-q-preserved c).In-Some in
    rw (length_push c.loop-q.yielded (c.in-Some.q, c.in-Some.s)) (next c.loop-q.invariant t.0 _ (c.pair_of-pair.ensures ∙ t.1) c.in_ok-p.p _ _ (rw c.in_ok-p.was at c.step.ensures))

pub returns-in_err-p : goal.returns-in_err-p
returns-in_err-p c =
    let t = turn (goal.at.returns-in_err-p c).In-Some in
    let e : c.from_residual.result ≡ Err c.in_err-p.field-0.0 = search rules in
    rw e (stops c.loop-q.invariant t.0 _ (c.pair_of-pair.ensures ∙ t.1) c.in_err-p.field-0.0 _ _ (rw c.in_err-p.was at c.step.ensures))

pub returns : goal.returns
returns c =
    let a = c.args in
    let n = records-length (length a.from_seqs.now) a.from_seqs.now a.from_secs.now refl (sym c.requires.1) in
    let z = zip_end a.from_seqs.now a.from_secs.now c.loop-q.yielded c.into_iter-q-iterator.result c.loop-q.q-iterator c.next.new.self c.next.result (cc) (cc) c.loop-q.yielded_by c.in-None.is c.next.ensures.steps in
    ended c.loop-q.invariant (omega (arith, n, z))
