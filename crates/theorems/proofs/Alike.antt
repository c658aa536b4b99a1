-- Two tables that are alike answer alike; so do two whose states are the same but for the totals.
use mathlib.Core.Path.{◌≡◌, refl, sym, subst, ◌∙◌}
use mathlib.Core.Bool.{Bool, true, false, cond}
use mathlib.Core.List.{List, [], ◌∷◌}
use Prim.Native.Nat.{ℕ, ◌+◌, ◌≤◌}
use native.Mathlib.Omega.{arith}
use lib.Dec.{eqb}
use lib.IntN.{ℤ}
use lib.ListN.{length}
use Rattle.told.specs.Told.{Told, gave, refused}
use Rattle.told.specs.Over.{over}
use Rattle.totals.specs.Totals.{sum_of, most}
use Rattle.totals.specs.declared.Totals.{Totals}
use Rattle.tracker.specs.Rest.{with_totals}
use Rattle.tracker.specs.Table.{check_of}
use Rattle.tracker.specs.declared.Seq.{Seq}
use Rattle.tracker.specs.declared.Second.{Second}
use Rattle.tracker.specs.declared.SequenceTracker.{SequenceTracker}
use Rattle.tracker.proofs.Good.{fine}
use Rattle.tracker.proofs.Rest.{by-rest, with_rest, fit_check}
use Rattle.keeping.specs.Keep.{kept_with}
use Rattle.lookup.specs.Find.{find_ts, find_seq}
use Rattle.lookup.specs.Laws as lookups
use Rattle.lookup.specs.declared.FindOption.{FindOption}
use Rattle.lookup.proofs.Laws.{kept_ts, kept_seq}
use Rattle.explaining.specs.Why.{why_ts, why_seq}
use Rattle.explaining.proofs.Laws.{kept_why_ts, kept_why_seq}
use Rattle.sheets.proofs.Alike as sheets
use Rattle.question_lists.proofs.Alike as lists
use Rattle.offers.specs.Whole.{Table, whole, check_in, leaving}
use Rattle.offers.specs.Offer.{recorded, went_back, too_soon, pair_refused}
use Rattle.offers.proofs.Alike.{Alike, same_count, same-capacity, kept-seqs, kept-secs, same_rooms}
use Rattle.offer_log.specs.Rest.{log_rest}
use Rattle.theorems.specs.Alike.{KeptAlike, SameButTotals, ToldAlike, AskedByLookups, AnswerAlike, Room, RestAlone}
use Rattle.theorems.proofs.Logged.{kept_same, KeptUp, offer-alike, log_alike, pairs-alike, extend-alike, extend-by-alike}

-- ---- many questions: where the check and the single lookups tell the same

pub asked_alike : AskedByLookups
asked_alike w v check ts seq opt = record {
  by_ts_sheet = λ s r. (
    sheets.ts_alike w.state v.state w.seqs v.seqs w.secs v.secs check opt (λ x. ts x opt) s r,
    sheets.ts_alike v.state w.state v.seqs w.seqs v.secs w.secs (sym check) opt (λ x. sym (ts x opt)) s r,
  );
  by_seq_sheet = λ s r. (
    sheets.seq_alike w.state v.state w.seqs v.seqs w.secs v.secs check opt (λ x. seq x opt) s r,
    sheets.seq_alike v.state w.state v.seqs w.seqs v.secs w.secs (sym check) opt (λ x. sym (seq x opt)) s r,
  );
  ts_each = λ keys a f r a' f'. (
    lists.ts_alike w.state v.state w.seqs v.seqs w.secs v.secs check opt (λ x. ts x opt) keys a f r a' f',
    lists.ts_alike v.state w.state v.seqs w.seqs v.secs w.secs (sym check) opt (λ x. sym (ts x opt)) keys a f r a' f',
  );
  seq_each = λ keys a f r a' f'. (
    lists.seq_alike w.state v.state w.seqs v.seqs w.secs v.secs check opt (λ x. seq x opt) keys a f r a' f',
    lists.seq_alike v.state w.state v.seqs w.seqs v.secs w.secs (sym check) opt (λ x. sym (seq x opt)) keys a f r a' f',
  );
}

-- ---- two good tables that are alike, with room for m more offers

module _ (Still So : Table → Table → Type 0) (keeps : KeptUp Still) (so : (w v : Table) → Alike w v → Still w v → So w v)
    (m : ℕ) (w v : Table) (g : check_in w ≡ gave tt) (g' : check_in v ≡ gave tt) (a : Alike w v) (b : Still w v) (room : Room m w) (room' : Room m v) where
  same-places : lookups.SameKept w.state w.seqs v.seqs w.secs v.secs
  same-places = record { same_seqs = kept-seqs a; same_secs = kept-secs a; room_seqs = (same_rooms a).0; room_secs = (same_rooms a).1 }

  -- in the arrays of the second, the check of both states is the same
  same_check : check_of w.state v.seqs v.secs ≡ check_of (with_totals v.state.totals w.state) v.seqs v.secs
  same_check = fit_check w.state v.state.totals v.seqs v.secs (omega (arith, room)) (omega (arith, room'))

  same_ts : (x : Seq) (opt : FindOption) → find_ts w.state w.seqs w.secs x opt ≡ find_ts v.state v.seqs v.secs x opt
  same_ts x opt =
      kept_ts w.state w.seqs v.seqs w.secs v.secs x opt same-places
      ∙ by-rest (λ (u : SequenceTracker). find_ts w.state v.seqs v.secs x opt ≡ find_ts u v.seqs v.secs x opt) w.state v.state a.same_rest (rw same_check)

  same_seq : (x : Second) (opt : FindOption) → find_seq w.state w.seqs w.secs x opt ≡ find_seq v.state v.seqs v.secs x opt
  same_seq x opt =
      kept_seq w.state w.seqs v.seqs w.secs v.secs x opt same-places
      ∙ by-rest (λ (u : SequenceTracker). find_seq w.state v.seqs v.secs x opt ≡ find_seq u v.seqs v.secs x opt) w.state v.state a.same_rest (rw same_check)

  same_why_ts : (x : Seq) (opt : FindOption) → why_ts w.state w.seqs w.secs x opt ≡ why_ts v.state v.seqs v.secs x opt
  same_why_ts x opt =
      kept_why_ts w.state w.seqs v.seqs w.secs v.secs x opt same-places
      ∙ by-rest (λ (u : SequenceTracker). why_ts w.state v.seqs v.secs x opt ≡ why_ts u v.seqs v.secs x opt) w.state v.state a.same_rest (rw same_check)

  same_why_seq : (x : Second) (opt : FindOption) → why_seq w.state w.seqs w.secs x opt ≡ why_seq v.state v.seqs v.secs x opt
  same_why_seq x opt =
      kept_why_seq w.state w.seqs v.seqs w.secs v.secs x opt same-places
      ∙ by-rest (λ (u : SequenceTracker). why_seq w.state v.seqs v.secs x opt ≡ why_seq u v.seqs v.secs x opt) w.state v.state a.same_rest (rw same_check)

  pub answer-alike : AnswerAlike So m w v
  answer-alike = record {
    by_check = g ∙ sym g';
    by_offer = λ seq ts one. offer-alike Still So keeps so w v a b seq ts (omega (arith, room, one)) (omega (arith, room', one));
    by_log = log_alike Still So keeps so w v g g' a b m room room';
    by_pairs = pairs-alike Still So keeps so w v g g' a b m room room';
    by_other = extend-alike Still So keeps so w v g g' a b m room room';
    as_other = extend-by-alike w v g g' a;
    by_seq = same_ts;
    by_second = same_seq;
    by_why_seq = same_why_ts;
    by_why_second = same_why_seq;
    by_asked = asked_alike w v (g ∙ sym g') same_ts same_seq;
    by_strict = λ out. rw (g, g', a.same_seqs, a.same_secs) (refl, refl);
    by_save = λ out. rw (g, g', a.same_seqs, a.same_secs) (refl, refl);
  }

-- after offers two alike tables keep the same pairs
pub kept-alike : (m : ℕ) (w v : Table) → check_in w ≡ gave tt → check_in v ≡ gave tt → Alike w v → Room m w → Room m v → AnswerAlike KeptAlike m w v
kept-alike m w v g g' a room room' = answer-alike (λ w v. Unit {0}) KeptAlike (λ w v a b seq ts o m. tt) (λ w v a b. kept_same w v a) m w v g g' a tt room room'

-- ---- one table with other totals, good or not

-- arrays that are the same, whole
abbrev SameArrays : Table → Table → Type 0
SameArrays w v = (w.seqs ≡ v.seqs) × (w.secs ≡ v.secs)

-- recorded, the same is kept of both, and past it stands the same
over-same : {A : Type 0} (w v : Table) (xs ys : List A) (x : A) → Alike w v → xs ≡ ys → over (kept_with w.state xs x) xs ≡ over (kept_with v.state ys x) ys
over-same w v xs ys x a e = rw (e, same-capacity a, same_count a)

arrays_keep : KeptUp SameArrays
arrays_keep w v a b seq ts (gave (recorded t)) m = (over-same w v w.seqs v.seqs seq.0 a b.0, over-same w v w.secs v.secs ts.0 a b.1)
arrays_keep w v a b seq ts (gave (went_back t)) m = b
arrays_keep w v a b seq ts (gave (too_soon t)) m = b
arrays_keep w v a b seq ts (gave (pair_refused what t)) m = b
arrays_keep w v a b seq ts (refused what) m = b

module _ (m : ℕ) (t : SequenceTracker) (n : Totals) (seqs : List ℕ) (secs : List ℤ) (room : sum_of t.totals + m ≤ most) (room' : sum_of n + m ≤ most) where
  abbrev own : Table
  own = whole t seqs secs

  abbrev other_totals : Table
  other_totals = whole (with_totals n t) seqs secs

  fits : check_in own ≡ check_in other_totals
  fits = fit_check t n seqs secs (omega (arith, room)) (omega (arith, room'))

  good_ones : check_in own ≡ gave tt → AnswerAlike SameButTotals m own other_totals
  good_ones g =
      let ok = (fine t seqs secs g).state in
      answer-alike SameArrays SameButTotals arrays_keep (λ w v a b. (a.same_rest, b.0, b.1)) m own other_totals g (sym fits ∙ g)
      (record { same_rest = refl; same_seqs = refl; same_secs = refl; room_seqs = ok.fit_seqs; room_seqs' = ok.fit_seqs; room_secs = ok.fit_secs; room_secs' = ok.fit_secs })
      (refl, refl) room room'

  -- a table that is refused is refused by every call
  bad_ones : (what : List ℕ) → check_in own ≡ refused what → AnswerAlike SameButTotals m own other_totals
  bad_ones what h =
      let h' = sym fits ∙ h in
      let stays : SameButTotals own other_totals = (refl, refl, refl) in
      record {
        by_check = fits;
        by_offer = λ seq ts one. rw (h, h') (refl, stays);
        by_log = λ rs few. rw (h, h') (refl, stays);
        by_pairs = λ qs ss few. rw (h, h') (by_lengths (eqb (length qs) (length ss)));
        by_other = λ other few. rw (h, h') (refl, stays);
        as_other = λ other. rw (h, h');
        by_seq = λ x opt. rw (h, h');
        by_second = λ x opt. rw (h, h');
        by_why_seq = λ x opt. rw (h, h');
        by_why_second = λ x opt. rw (h, h');
        by_asked = asked_alike own other_totals fits (λ x opt. rw (h, h')) (λ x opt. rw (h, h'));
        by_strict = λ out. rw (h, h') (refl, refl);
        by_save = λ out. rw (h, h') (refl, refl);
      }
    where
      by_lengths : (b : Bool) → ToldAlike SameButTotals log_rest (cond b (leaving (refused what) own) (leaving (refused (18 ∷ [])) own)) (cond b (leaving (refused what) other_totals) (leaving (refused (18 ∷ [])) other_totals))
      by_lengths true = (refl, (refl, refl, refl))
      by_lengths false = (refl, (refl, refl, refl))

  with_others : AnswerAlike SameButTotals m own other_totals
  with_others = go (check_in own) refl
    where
      go : (c : Told (Unit {0})) → check_in own ≡ c → AnswerAlike SameButTotals m own other_totals
      go (gave tt) h = good_ones h
      go (refused what) h = bad_ones what h

pub rest_alone : RestAlone
rest_alone m w v (e, x, y) room room' =
    let same : whole (with_totals v.state.totals w.state) w.seqs w.secs ≡ v = λ i. record { state = with_rest w.state v.state e i; seqs = x i; secs = y i } in
    subst (AnswerAlike SameButTotals m w) same (with_others m w.state v.state.totals w.seqs w.secs room room')
