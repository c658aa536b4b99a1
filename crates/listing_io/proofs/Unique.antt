-- The text buffer after a run follows from the answer and the input buffer. Assumes nothing.
use mathlib.Core.Path.{◌≡◌, sym, ◌∙◌}
use mathlib.Core.List.{List}
use Prim.Native.Nat.{ℕ}
use Rattle.report.specs.Dated.{DatedListing}
use Rattle.report.proofs.Unique.{one-dated-listing}
use Rattle.running.specs.Run.{Ran}
use Rattle.running.proofs.Unique.{one_ran}
use Rattle.listing_io.specs.Run.{Listing}
use Rattle.input.specs.declared.once.Over.{Over}

-- `run`
pub one_run : (o : Over) (input old x y : List ℕ) → Ran Listing o input old x → Ran Listing o input old y → x ≡ y
one_run o input old x y h k = one_ran Listing (λ i t u a b. a ∙ sym b) o input old x y h k

-- `run_dates`
pub one_run_dates : (o : Over) (input old x y : List ℕ) → Ran DatedListing o input old x → Ran DatedListing o input old y → x ≡ y
one_run_dates o input old x y h k = one_ran DatedListing one-dated-listing o input old x y h k
