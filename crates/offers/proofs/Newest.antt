-- At an even capacity above 0 the newest recorded pair is kept, as the last one. (An odd capacity drops it where it overflows, and so does 0.)
use mathlib.Core.Path.{◌≡◌, ap, ◌∙◌}
use mathlib.Core.Logic.{⊎_elim}
use mathlib.Core.List.{List}
use Prim.Native.Nat.{ℕ, ◌+◌, ◌-◌, ◌/◌, ◌≤◌, ◌<◌}
use native.Mathlib.Omega.{arith}
use borrow.Author.Tests.{le-ltb, lt-ltb, ne_eqb}
use lib.IntN.{ℤ, pos}
use lib.ListN.{length, get_or}
use Rattle.told.specs.Told.{gave}
use Rattle.limits.specs.Settings.{room_of}
use Rattle.tracker.specs.Table.{kept}
use Rattle.tracker.specs.declared.Seq.{Seq}
use Rattle.tracker.specs.declared.Second.{Second}
use Rattle.tracker.specs.declared.SequenceTracker.{SequenceTracker}
use Rattle.order.proofs.Bools.{below_or}
use Rattle.tracker.proofs.Good.{Agreed, fine, count-seqs, count-secs}
use Rattle.offers.specs.Whole.{whole}
use Rattle.keeping.specs.Keep.{appended, thinned}
use Rattle.keeping.specs.Inner.{count_with}
use Rattle.offers.specs.Offer.{recorded, offer_to, offered_to}
use Rattle.keeping.proofs.Thinned.{get_d_evens, appended-new, thinned_not, thinned-evens}
use Rattle.offers.proofs.Preserved.{taken, recorded-seqs, recorded-secs, recorded-count}

-- of n elements and one more the last that is kept is the new one, where an overflow comes at an even n
last-new : {A : Type 0} (d : A) (n : ℕ) (xs : List A) (x : A) (cap half : ℕ) → n ≤ length xs → n ≤ cap → cap ≡ half + half
    → get_or (thinned cap (appended n xs x)) (count_with cap n - 1) d ≡ x
last-new d n xs x cap half fit few even =
    ⊎_elim
    (λ (h : n < cap).
    let e : n + 1 - 1 ≡ n = omega arith in
    rw (thinned_not n xs x fit cap h, lt-ltb n cap h, e) (appended-new n xs x fit d))
    (λ (h : cap ≤ n).
    let e : n / 2 + 1 - 1 + (n / 2 + 1 - 1) ≡ n = omega arith in
    rw (thinned-evens n xs x fit cap h, le-ltb n cap h) (get_d_evens d (appended n xs x) (n / 2 + 1 - 1) ∙ ap (λ (i : ℕ). get_or (appended n xs x) i d) e ∙ appended-new n xs x fit d))
    (below_or n cap)

module _ (table : SequenceTracker) (seqs : List ℕ) (secs : List ℤ) (seq : Seq) (ts : Second) (t : SequenceTracker) (h : offer_to (whole table seqs secs) seq ts ≡ gave (recorded t))
    (half : ℕ) (even : table.capacity ≡ half + half) (some : 0 < half) where
  ok : Agreed table seqs secs
  ok = (fine table seqs secs (taken table seqs secs seq ts t h).good).state

  few : table.count ≤ table.capacity
  few = let e : room_of table.capacity ≡ table.capacity = rw (ne_eqb table.capacity 0 (λ z. omega arith)) in omega (arith, ok.count_room)

  pub newest_seq : get_or (kept t (offered_to (whole table seqs secs) seq ts (gave (recorded t))).seqs) (t.count - 1) 0 ≡ seq.0
  newest_seq = rw (recorded-seqs table seqs secs seq ts t h, recorded-count table seqs secs seq ts t h) (last-new 0 table.count seqs seq.0 table.capacity half (count-seqs table seqs secs ok) few even)

  pub newest_sec : get_or (kept t (offered_to (whole table seqs secs) seq ts (gave (recorded t))).secs) (t.count - 1) (pos 0) ≡ ts.0
  newest_sec = rw (recorded-secs table seqs secs seq ts t h, recorded-count table seqs secs seq ts t h) (last-new (pos 0) table.count secs ts.0 table.capacity half (count-secs table seqs secs ok) few even)
