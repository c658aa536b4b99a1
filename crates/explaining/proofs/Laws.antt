-- The laws of specs/Laws.antt.
use mathlib.Core.Path.{◌≡◌, refl, sym, ◌∙◌, ap, subst}
use mathlib.Core.Logic.{◌↔◌}
use mathlib.Core.Bool.{Bool}
use mathlib.Core.List.{List}
use Prim.Native.Nat.{ℕ}
use lib.Dec.{ltb}
use lib.IntN.{pos}
use lib.ListN.{take}
use lib.Signed.{lt_z}
use Rattle.told.specs.Told.{Told, gave, refused, if_good}
use Rattle.told.proofs.Unique.{given_not_refused, same-list, same_gift}
use Rattle.order.specs.Order.{drops}
use Rattle.order.specs.Inner.{NoneBelow}
use Rattle.order.proofs.Bools.{not_given}
use Rattle.order.proofs.First.{first-same}
use Rattle.order.proofs.Order.{Order, nat_order, int_order}
use Rattle.search.specs.Keys.{greater}
use Rattle.tracker.specs.Table.{check_of}
use Rattle.tracker.proofs.Good.{fine}
use Rattle.tracker.proofs.Kept.{kept_at}
use Rattle.lookup.specs.Find.{Partner, standing, place, second_at, seq_at}
use Rattle.lookup.specs.Laws.{equal}
use Rattle.lookup.specs.declared.FindOption.{FindOption}
use Rattle.lookup.proofs.Laws.{place_same, kept_ts, kept_seq}
use Rattle.explaining.specs.Reason.{reason_of}
use Rattle.explaining.specs.Why.{Why, because}
use Rattle.explaining.specs.Inner.{answering}
use Rattle.explaining.specs.Laws.{Holds, Explains, ExplainsTs, ExplainsSeq, KeptWhyTs, KeptWhySeq}
use Rattle.explaining.specs.declared.Reason.{Reason}
use Rattle.explaining.proofs.Facts.{holds_is, is_holds, all_stand, answering-among, standing_at, standing-among, stands_by}

module _ {A : Type 0} (R : Reason) (S : Partner A) where
  -- of a table that is checked first: what is given, and what is refused
  given : (t : Told (Unit {0})) (r : Reason) (a : Partner A) → because R (if_good t (gave S)) ≡ gave (record { reason = r; answer = a }) → (t ≡ gave tt) × (R ≡ r) × (S ≡ a)
  given (gave _) r a e = let s = same_gift e in (refl, ap (λ (w : Why A). w.reason) s, ap (λ (w : Why A). w.answer) s)
  given (refused what) r a e = absurd (not_given what _ e)

  refusal : (t : Told (Unit {0})) (what : List ℕ) → (because R (if_good t (gave S)) ≡ refused what) ↔ (t ≡ refused what)
  refusal (gave _) what = (λ e. given_not_refused e, λ e. given_not_refused e)
  refusal (refused l) what = (λ e. ap refused (same-list e), λ e. ap refused (same-list e))

found_so : {A : Type 0} (t : Told (Unit {0})) (S a : Partner A) → if_good t (gave S) ≡ gave a → S ≡ a
found_so (gave _) S a e = same_gift e
found_so (refused what) S a e = absurd (not_given what a e)

module _ {K A : Type 0} (lt : K → K → Bool) (O : Order lt) (d : K) (keys : List K) (n : ℕ) (x : K) (at : ℕ → A) (check : Told (Unit {0})) (sorted : check ≡ gave tt → NoneBelow (drops lt d keys) n) where
  explains : Explains lt d keys n x at check (λ opt. if_good check (gave (standing at n (place lt d opt keys n x)))) (λ opt. because (reason_of lt d opt keys n x) (if_good check (gave (standing at n (place lt d opt keys n x)))))
  explains = record {
    given_exactly = λ opt r a. (
      λ e.
          let g = given (reason_of lt d opt keys n x) (standing at n (place lt d opt keys n x)) check r a e in
          (g.0, subst (Holds lt d keys n x opt) g.1 (is_holds lt O d keys n x (sorted g.0) opt), rw g.0 (ap gave g.2)),
      λ h. rw (holds_is lt O d keys n x (sorted h.0) opt r h.1, h.2),
    );
    refused_exactly = λ opt what. refusal (reason_of lt d opt keys n x) (standing at n (place lt d opt keys n x)) check what;
    some_reason = λ opt g. (reason_of lt d opt keys n x, is_holds lt O d keys n x (sorted g) opt);
    one_reason = λ opt r r' g h h'. sym (holds_is lt O d keys n x (sorted g) opt r h) ∙ holds_is lt O d keys n x (sorted g) opt r' h';
    answered_there = λ opt r g h.
        rw g
        (ap gave
        (standing-among at n (place lt d opt keys n x)
        ∙ ap (standing_at at) (sym (answering-among lt O d keys n x (sorted g) opt) ∙ ap answering (holds_is lt O d keys n x (sorted g) opt r h))
        ∙ stands_by at r));
    all_keys = λ opt r g h. all_stand lt O d keys n x (sorted g) opt r h;
  }

pub explains_ts : ExplainsTs
explains_ts table seqs secs seq = explains ltb nat_order 0 seqs table.count seq.0 (second_at secs) (check_of table seqs secs) (λ g. (fine table seqs secs g).pairs.seqs_rise)

pub explains_seq : ExplainsSeq
explains_seq table seqs secs ts = explains lt_z int_order (pos 0) secs table.count ts.0 (seq_at seqs) (check_of table seqs secs) (λ g. (fine table seqs secs g).pairs.secs_rise)

-- the reason is told by the first n keys
module _ {K : Type 0} (lt : K → K → Bool) (d : K) (n : ℕ) (keys keys' : List K) (e : take n keys ≡ take n keys') (x : K) where
  pub reason-same : (opt : FindOption) → reason_of lt d opt keys n x ≡ reason_of lt d opt keys' n x
  reason-same opt =
      rw (first-same (equal lt d keys x) (equal lt d keys' x) n (λ j l. rw (kept_at n keys keys' j d e l)), first-same (greater lt d keys x) (greater lt d keys' x) n (λ j l. rw (kept_at n keys keys' j d e l)), place_same lt d n keys keys' e x opt)

pub kept_why_ts : KeptWhyTs
kept_why_ts table seqs seqs' secs secs' seq opt same =
    rw (reason-same ltb 0 table.count seqs seqs' same.same_seqs seq.0 opt)
    (ap (because (reason_of ltb 0 opt seqs' table.count seq.0)) (kept_ts table seqs seqs' secs secs' seq opt same))

pub kept_why_seq : KeptWhySeq
kept_why_seq table seqs seqs' secs secs' ts opt same =
    rw (reason-same lt_z (pos 0) table.count secs secs' same.same_secs ts.0 opt)
    (ap (because (reason_of lt_z (pos 0) opt secs' table.count ts.0)) (kept_seq table seqs seqs' secs secs' ts opt same))
