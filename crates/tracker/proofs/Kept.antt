-- A check depends on the state, on the kept pairs and on whether the arrays have the room, not on what stands past the count.
use mathlib.Core.Path.{◌≡◌, refl, sym, ap, ◌∙◌}
use mathlib.Core.Bool.{Bool}
use mathlib.Core.List.{List}
use Prim.Native.Nat.{ℕ, zero, suc, ◌-◌, ◌<◌}
use native.Mathlib.Omega.{arith}
use lib.Dec.{ltb}
use lib.IntN.{ℤ, pos}
use lib.ListN.{length, get_or, take}
use lib.Seq.{get_or-take}
use lib.Signed.{lt_z}
use Rattle.limits.specs.Settings.{room_of}
use Rattle.order.specs.First.{first}
use Rattle.order.specs.Order.{drops, sec_outside}
use Rattle.order.proofs.First.{first-same}
use Rattle.tracker.specs.Table.{kept, last_wrong, pairs_of, check_of}
use Rattle.tracker.specs.declared.SequenceTracker.{SequenceTracker}
use Rattle.tracker.specs.declared.Second.{Second}
use Rattle.std.specs.Prelude.{None, Some, Option}

-- an element below n is told by the first n
pub kept_at : {A : Type 0} (n : ℕ) (xs ys : List A) (i : ℕ) (d : A) → take n xs ≡ take n ys → i < n → get_or xs i d ≡ get_or ys i d
kept_at n xs ys i d e l = sym (get_or-take n xs i d l) ∙ ap (λ zs. get_or zs i d) e ∙ get_or-take n ys i d l

module _ (n : ℕ) where
  kept-drop : {K : Type 0} (lt : K → K → Bool) (d : K) (xs ys : List K) → take n xs ≡ take n ys → first (drops lt d xs) n ≡ first (drops lt d ys) n
  kept-drop lt d xs ys e = first-same (drops lt d xs) (drops lt d ys) n (λ j l. rw (kept_at n xs ys j d e l, kept_at n xs ys (j - 1) d e (omega arith)))

  kept-outside : (xs ys : List ℤ) → take n xs ≡ take n ys → first (sec_outside xs) n ≡ first (sec_outside ys) n
  kept-outside xs ys e = first-same (sec_outside xs) (sec_outside ys) n (λ j l. rw (kept_at n xs ys j (pos 0) e l))

  pub pairs-kept : (seqs seqs' : List ℕ) (secs secs' : List ℤ) → take n seqs ≡ take n seqs' → take n secs ≡ take n secs' → pairs_of seqs secs n ≡ pairs_of seqs' secs' n
  pairs-kept seqs seqs' secs secs' e f = rw (kept-drop ltb 0 seqs seqs' e, kept-drop lt_z (pos 0) secs secs' f, kept-outside secs secs' f)

-- rule 14's part on the last recorded second
last-kept : (l : Option Second) (n : ℕ) (secs secs' : List ℤ) → take n secs ≡ take n secs' → last_wrong l secs n ≡ last_wrong l secs' n
last-kept None n secs secs' e = refl
last-kept (Some s) zero secs secs' e = refl
last-kept (Some s) (suc m) secs secs' e = rw (kept_at (suc m) secs secs' (suc m - 1) (pos 0) e (omega arith))

module _ (table : SequenceTracker) (seqs seqs' : List ℕ) (secs secs' : List ℤ) where
  pub check-kept : kept table seqs ≡ kept table seqs' → kept table secs ≡ kept table secs'
      → ltb (length seqs) (room_of table.capacity) ≡ ltb (length seqs') (room_of table.capacity)
      → ltb (length secs) (room_of table.capacity) ≡ ltb (length secs') (room_of table.capacity)
      → check_of table seqs secs ≡ check_of table seqs' secs'
  check-kept e f p q = rw (p, q, last-kept table.last_recorded_ts table.count secs secs' f, pairs-kept table.count seqs seqs' secs secs' e f)
