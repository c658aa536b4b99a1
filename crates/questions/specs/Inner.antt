-- What our own functions promise each other. No public statement cites this file.
use Rattle.std.specs.Prelude.{ℕ, List, length, ltb, ℤ, pos}
use Rattle.std.specs.Int.Signed.{lt_z}
use Rattle.search.specs.Inner.{InOrder}
use Rattle.tracker.specs.declared.Seq.{Seq}
use Rattle.tracker.specs.declared.Second.{Second}
use Rattle.lookup.specs.Find.{Partner, standing, place, second_at, seq_at}
use Rattle.lookup.specs.declared.FindOption.{FindOption}

-- a second stands beside each sequence, and both are in order
abbrev pub GoodPairs : List ℕ → List ℤ → Type 0
GoodPairs seqs secs = InOrder ltb 0 seqs (length seqs) × InOrder lt_z (pos 0) secs (length seqs)

-- what a lookup gives among such pairs
abbrev pub ts_partner : List ℕ → List ℤ → Seq → FindOption → Partner Second
ts_partner seqs secs seq opt = standing (second_at secs) (length seqs) (place ltb 0 opt seqs (length seqs) seq.0)

abbrev pub seq_partner : List ℕ → List ℤ → Second → FindOption → Partner Seq
seq_partner seqs secs ts opt = standing (seq_at seqs) (length seqs) (place lt_z (pos 0) opt secs (length seqs) ts.0)
