-- What our own functions promise each other. No public statement cites this file.
use Rattle.std.specs.Prelude.{ℕ, ◌≡◌, List, ℤ, length, Result}
use Rattle.told.specs.Over.{filled}
use Rattle.tracker.specs.Refusal.{told_made}
use Rattle.tracker.specs.declared.Refusal.{Refusal}
use Rattle.tracker.specs.declared.SequenceTracker.{SequenceTracker}
use Rattle.settling.specs.Settle.{settled_of}

-- pairs that were read settle in lent arrays, as a table of this interval: the answer, and the arrays afterwards
abbrev pub Settles : ℕ → List ℕ → List ℤ → List ℕ → List ℤ → Result SequenceTracker Refusal → List ℕ → List ℤ → Type 0
Settles interval read-seqs read-secs seqs secs r seqs' secs' =
    (told_made r ≡ settled_of interval read-seqs read-secs (length read-seqs))
    × (seqs' ≡ filled (told_made r) read-seqs seqs)
    × (secs' ≡ filled (told_made r) read-secs secs)
