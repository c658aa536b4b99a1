-- What the single lookups give in a good table, and the kept pairs as slices.
use Prim.Native.Nat.{ℕ, ◌≤◌, ◌<◌}
use native.Mathlib.Nat.{le_refl}
use mathlib.Core.Path.{◌≡◌, refl, sym, ◌∙◌, ap}
use mathlib.Core.Bool.{Bool, true, false, cond}
use mathlib.Core.List.{List}
use borrow.Author.Tests.{ltb-true}
use lib.Dec.{ltb}
use lib.IntN.{ℤ, pos}
use lib.ListN.{length, take}
use lib.Seq.{get_or-take, length-take-le}
use Rattle.std.specs.Int.Signed.{lt_z}
use Rattle.told.specs.Told.{gave}
use Rattle.tracker.specs.Table.{check_of}
use Rattle.tracker.specs.declared.Seq.{Seq}
use Rattle.tracker.specs.declared.Second.{Second}
use Rattle.tracker.specs.declared.SequenceTracker.{SequenceTracker}
use Rattle.search.specs.Inner.{InOrder}
use Rattle.tracker.proofs.Good.{fine, count-seqs, count-secs}
use Rattle.lookup.specs.Find.{partner, nothing, standing, place, second_at, seq_at, find_ts, find_seq}
use Rattle.lookup.specs.declared.FindOption.{FindOption}
use Rattle.lookup.specs.declared.FindOption.TheVariants.{RoundUp, RoundDown}
use Rattle.lookup.proofs.Taken.{in_order_taken, first_taken, last_taken}
use Rattle.questions.specs.Inner.{GoodPairs, ts_partner, seq_partner}

-- where both have the same below n, the same stands at a position
standing-same : {A : Type 0} (at at' : ℕ → A) (n p : ℕ) → ((i : ℕ) → i < n → at i ≡ at' i) → standing at n p ≡ standing at' n p
standing-same at at' n p same = go (ltb p n) refl
  where
    go : (b : Bool) → ltb p n ≡ b → cond b (partner (at p)) nothing ≡ cond b (partner (at' p)) nothing
    go true e = ap partner (same p (ltb-true p n e))
    go false e = refl

-- among the first n keys, taken out, the same position answers
place-taken : {K : Type 0} (lt : K → K → Bool) (d : K) (keys : List K) (n : ℕ) → n ≤ length keys → (opt : FindOption) (x : K)
    → place lt d opt (take n keys) (length (take n keys)) x ≡ place lt d opt keys n x
place-taken lt d keys n h RoundUp x = first_taken lt d keys n h x
place-taken lt d keys n h RoundDown x = last_taken lt d keys n h x

module _ (table : SequenceTracker) (seqs : List ℕ) (secs : List ℤ) (good : check_of table seqs secs ≡ gave tt) where
  good-pairs : InOrder ltb 0 seqs table.count × InOrder lt_z (pos 0) secs table.count
  good-pairs =
      let ok = fine table seqs secs good in
      ((count-seqs table seqs secs ok.state, ok.pairs.seqs_rise), (count-secs table seqs secs ok.state, ok.pairs.secs_rise))

  as_many : length (take table.count seqs) ≡ table.count
  as_many = length-take-le table.count seqs good-pairs.0.0

  as_long : length (take table.count seqs) ≡ length (take table.count secs)
  as_long = as_many ∙ sym (length-take-le table.count secs good-pairs.1.0)

  pub kept-good : GoodPairs (take table.count seqs) (take table.count secs)
  kept-good =
      let g = good-pairs in (
        (le_refl _, in_order_taken ltb 0 seqs table.count g.0.0 g.0.1),
        rw as_long (le_refl _, in_order_taken lt_z (pos 0) secs table.count g.1.0 g.1.1),
      )

  pub gives_ts : (opt : FindOption) (key : Seq) → gave (ts_partner (take table.count seqs) (take table.count secs) key opt) ≡ find_ts table seqs secs key opt
  gives_ts opt key =
      let p = place ltb 0 opt seqs table.count key.0 in
      rw (good, place-taken ltb 0 seqs table.count good-pairs.0.0 opt key.0, as_many)
      (ap gave (standing-same (second_at (take table.count secs)) (second_at secs) table.count p (λ i l. rw (get_or-take table.count secs i (pos 0) l))))

  pub gives_seq : (opt : FindOption) (key : Second) → gave (seq_partner (take table.count seqs) (take table.count secs) key opt) ≡ find_seq table seqs secs key opt
  gives_seq opt key =
      let p = place lt_z (pos 0) opt secs table.count key.0 in
      rw (good, as_long, place-taken lt_z (pos 0) secs table.count good-pairs.1.0 opt key.0, sym as_long, as_many)
      (ap gave (standing-same (seq_at (take table.count seqs)) (seq_at seqs) table.count p (λ i l. rw (get_or-take table.count seqs i 0 l))))
