-- The records of two lists: how many there are, and which.
use mathlib.Core.Path.{◌≡◌, refl, sym, ap, ◌∙◌}
use mathlib.Core.List.{List, [], ◌∷◌}
use Prim.Native.Nat.{ℕ, zero, suc, ◌≤◌, ◌<◌}
use native.Mathlib.Nat.{not-suc-le-zero, le_of_suc-le-suc}
use native.Mathlib.Omega.{arith}
use lib.IntN.{ℤ, pos}
use lib.ListN.{length, get_or, take}
use lib.Seq.{get_or-take, length-take-le}
use Rattle.offer_log.specs.Pairs.{pair_of, records_of}
use Rattle.offer_log.proofs.Run.{no_record}

pub records-length : (n : ℕ) (seqs : List ℕ) (secs : List ℤ) → length seqs ≡ n → length secs ≡ n → length (records_of seqs secs) ≡ n
unfolding records_of
records-length n [] secs h l = h
records-length n (q ∷ seqs) [] h l = l
records-length zero (q ∷ seqs) (s ∷ secs) h l = absurd (omega arith)
records-length (suc n) (q ∷ seqs) (s ∷ secs) h l = ap suc (records-length n seqs secs (omega arith) (omega arith))

-- of the first n pairs there are n
pub front_length : (n : ℕ) (seqs : List ℕ) (secs : List ℤ) → n ≤ length seqs → n ≤ length secs → length (records_of (take n seqs) (take n secs)) ≡ n
front_length n seqs secs h l = records-length n (take n seqs) (take n secs) (length-take-le n seqs h) (length-take-le n secs l)

pub records-at : (seqs : List ℕ) (secs : List ℤ) (i : ℕ) → i < length seqs → i < length secs → get_or (records_of seqs secs) i no_record ≡ pair_of (get_or seqs i 0) (get_or secs i (pos 0))
unfolding records_of
records-at [] secs i h l = absurd (not-suc-le-zero h)
records-at (q ∷ seqs) [] i h l = absurd (not-suc-le-zero l)
records-at (q ∷ seqs) (s ∷ secs) zero h l = refl
records-at (q ∷ seqs) (s ∷ secs) (suc i) h l = records-at seqs secs i (le_of_suc-le-suc h) (le_of_suc-le-suc l)

module _ (n : ℕ) (seqs : List ℕ) (secs : List ℤ) where
  pub front_at : n ≤ length seqs → n ≤ length secs → (i : ℕ) → i < n → pair_of (get_or seqs i 0) (get_or secs i (pos 0)) ≡ get_or (records_of (take n seqs) (take n secs)) i no_record
  front_at h l i b =
      sym (records-at (take n seqs) (take n secs) i (omega (arith, length-take-le n seqs h)) (omega (arith, length-take-le n secs l))
      ∙ rw (get_or-take n seqs i 0 b, get_or-take n secs i (pos 0) b))
