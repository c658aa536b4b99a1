-- A table whole, and what a call on one tells and leaves.
use Rattle.std.specs.Prelude.{ℕ, ◌≡◌, List, ℤ}
use Rattle.told.specs.Told.{Told}
use Rattle.tracker.specs.Table.{check_of}
use Rattle.tracker.specs.declared.SequenceTracker.{SequenceTracker}

-- a table: its state and its two lent arrays, whole
pub record Table : Type 0 where
  pub state : SequenceTracker
  pub seqs : List ℕ
  pub secs : List ℤ

abbrev pub whole : SequenceTracker → List ℕ → List ℤ → Table
whole state seqs secs = record { state = state; seqs = seqs; secs = secs }

-- 14, then 11, 12, 13 over the pairs that it keeps
abbrev pub check_in : Table → Told (Unit {0})
check_in w = check_of w.state w.seqs w.secs

-- what a call answers, and the table afterwards
pub record Left (A : Type 0) : Type 0 where
  pub answer : A
  pub table : Table

abbrev pub leaving : {A : Type 0} → A → Table → Left A
leaving answer w = record { answer = answer; table = w }

-- the call answered so, and left the arrays so
abbrev pub Leaves : {A : Type 0} → Left A → A → List ℕ → List ℤ → Type 0
Leaves left answer seqs secs = (answer ≡ left.answer) × (seqs ≡ left.table.seqs) × (secs ≡ left.table.secs)
