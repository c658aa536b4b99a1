-- Lookups, by sequence or by second.
use Rattle.std.specs.Prelude.{ℕ, Bool, cond, List, ltb, ℤ, pos, get_or}
use Rattle.std.specs.Int.Signed.{lt_z}
use Rattle.told.specs.Told.{Told, gave, if_good}
use Rattle.search.specs.Keys.{first_not_below, last_not_above}
use Rattle.tracker.specs.Table.{check_of}
use Rattle.tracker.specs.declared.Seq.{Seq}
use Rattle.tracker.specs.declared.Second.{Second}
use Rattle.tracker.specs.declared.SequenceTracker.{SequenceTracker}
use Rattle.lookup.specs.declared.FindOption.{FindOption}
use Rattle.lookup.specs.declared.FindOption.TheVariants.{RoundUp, RoundDown}

-- the partner of a key, or nothing
pub data Partner (A : Type 0) : Type 0 where
  partner : A → Partner A
  nothing : Partner A

-- what stands `at` a position below n, or nothing
abbrev pub standing : {A : Type 0} → (ℕ → A) → ℕ → ℕ → Partner A
standing at n p = cond (ltb p n) (partner (at p)) nothing

-- over the first n keys of any type with an order test `lt`; d is what a key past the end would be
module _ {K : Type 0} (lt : K → K → Bool) (d : K) where
  -- the position that answers, or n: RoundUp takes the first key that is not below x, RoundDown the last that is not above it
  abbrev pub place : FindOption → List K → ℕ → K → ℕ
  place RoundUp keys n x = first_not_below lt d keys n x
  place RoundDown keys n x = last_not_above lt d keys n x

-- the second, and the sequence, of the pair at a position
abbrev pub second_at : List ℤ → ℕ → Second
second_at secs p = record { 0 = get_or secs p (pos 0) }

abbrev pub seq_at : List ℕ → ℕ → Seq
seq_at seqs p = record { 0 = get_or seqs p 0 }

-- `find_ts`: the table is checked, then the second of the pair that answers
abbrev pub find_ts : SequenceTracker → List ℕ → List ℤ → Seq → FindOption → Told (Partner Second)
find_ts table seqs secs seq opt = if_good (check_of table seqs secs) (gave (standing (second_at secs) table.count (place ltb 0 opt seqs table.count seq.0)))

-- `find_seq`: the sequence of the pair that answers
abbrev pub find_seq : SequenceTracker → List ℕ → List ℤ → Second → FindOption → Told (Partner Seq)
find_seq table seqs secs ts opt = if_good (check_of table seqs secs) (gave (standing (seq_at seqs) table.count (place lt_z (pos 0) opt secs table.count ts.0)))
