use Prim.Native.Nat.{ℕ, ◌+◌, ◌-◌, ◌≤◌}
use mathlib.Core.Path.{◌≡◌}
use mathlib.Core.List.{List}
use lib.ListN.{drop}
use Rattle.bit_lists.specs.BitList.{bits_of}
use Rattle.gorilla.specs.Reading.{count_ones}
use Rattle.code_reader.specs.Inner.{Holds}
use Rattle.code_reader.specs.declared.window.Window.{Window}
use Rattle.code_reader.proofs.prefix.leading.Given as goal

-- what is counted from the start is what is counted after n ones
abbrev pub Rest : Window → ℕ → Type 0
Rest w n = (xs : List ℕ) (q a i : ℕ) → Holds xs q w → count_ones a i (4 - n) n (drop (q + n) (bits_of xs)) ≡ count_ones a i 4 0 (drop q (bits_of xs))

abbrev pub invariant-loop-n : goal.invariant-loop-n
invariant-loop-n l = (l.n ≤ 4) × (l.n ≤ l.w.have) × Rest l.w l.n

abbrev pub decreases-loop-n : goal.decreases-loop-n
decreases-loop-n l = 4 - l.n
