-- What is left of the slices depends on the table by what is told and by the single lookups alone.
use Prim.Native.Nat.{ℕ}
use mathlib.Core.Path.{◌≡◌, subst, ◌∙◌}
use mathlib.Core.List.{List}
use lib.IntN.{ℤ}
use lib.ListN.{length}
use Rattle.std.specs.Prelude.{Result}
use Rattle.told.specs.Told.{Told, gave, refused}
use Rattle.tracker.specs.Table.{check_of}
use Rattle.tracker.specs.declared.Seq.{Seq}
use Rattle.tracker.specs.declared.Second.{Second}
use Rattle.tracker.specs.declared.SequenceTracker.{SequenceTracker}
use Rattle.lookup.specs.Find.{Partner, find_ts, find_seq, seq_at, second_at}
use Rattle.lookup.specs.declared.FindOption.{FindOption}
use Rattle.questions.specs.declared.Refusal.{Refusal}
use Rattle.question_lists.specs.Each.{list_rule, ts_place, seq_place, Leaves, FindsTsEach, FindsSeqEach}
use Rattle.question_lists.proofs.Fill.{filled-by}

module _ {K P A X : Type 0} (find find' : K → Told (Partner P)) (stands : Partner P → A) (key : ℕ → K) (place : List X → List ℕ → ℕ → A) (same : (x : K) → find x ≡ find' x) where
  left_by_lem : (told told' : Told (Unit {0})) (n : ℕ) (old : List X) (marks : List ℕ) (a : List X) (f : List ℕ)
      → told ≡ told' → Leaves find stands key place told n old marks a f → Leaves find' stands key place told' n old marks a f
  left_by_lem told told' n old marks a f e h = subst (λ (t : Told (Unit {0})). Leaves find' stands key place t n old marks a f) e (go told h)
    where
      go : (t : Told (Unit {0})) → Leaves find stands key place t n old marks a f → Leaves find' stands key place t n old marks a f
      go (gave _) h = filled-by find find' stands key place n old marks a f same h
      go (refused what) h = h

module _ (t t' : SequenceTracker) (seqs seqs' : List ℕ) (secs secs' : List ℤ) (check : check_of t seqs secs ≡ check_of t' seqs' secs') (opt : FindOption) where
  same-told : (keys answers found : ℕ) → list_rule t seqs secs keys answers found ≡ list_rule t' seqs' secs' keys answers found
  same-told keys answers found = rw check

  pub ts_alike : ((x : Seq) → find_ts t seqs secs x opt ≡ find_ts t' seqs' secs' x opt) → (keys : List ℕ) (old : List ℤ) (marks : List ℕ) (r : Result (Unit {0}) Refusal) (a : List ℤ) (f : List ℕ)
      → FindsTsEach t seqs secs keys opt old marks r a f → FindsTsEach t' seqs' secs' keys opt old marks r a f
  ts_alike same keys old marks r a f h =
      let e = same-told (length keys) (length old) (length marks) in
      (h.0 ∙ e, left_by_lem _ _ _ (seq_at keys) ts_place same _ _ (length keys) old marks a f e h.1)

  pub seq_alike : ((x : Second) → find_seq t seqs secs x opt ≡ find_seq t' seqs' secs' x opt) → (keys : List ℤ) (old marks : List ℕ) (r : Result (Unit {0}) Refusal) (a f : List ℕ)
      → FindsSeqEach t seqs secs keys opt old marks r a f → FindsSeqEach t' seqs' secs' keys opt old marks r a f
  seq_alike same keys old marks r a f h =
      let e = same-told (length keys) (length old) (length marks) in
      (h.0 ∙ e, left_by_lem _ _ _ (second_at keys) seq_place same _ _ (length keys) old marks a f e h.1)
