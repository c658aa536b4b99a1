-- The two reasons for a skip, beside the one rule that the Rust has. The laws are proved in proofs/Reasons.antt.
use Rattle.std.specs.Prelude.{ℕ, ◌≡◌, Bool, false, not, ◌&&◌, ◌||◌, ℤ, pos, ◌-ℤ◌, None, Some, Option}
use Rattle.std.specs.Int.Signed.{lt_z}
use Rattle.tracker.specs.declared.Second.{Second}

-- went back: a second was recorded before, and the offered one is below it
abbrev pub goes_back : Option Second → ℤ → Bool
goes_back None s = false
goes_back (Some last) s = lt_z s last.0

-- too soon: it is not below it, but the difference is under the interval
abbrev pub comes_too_soon : Option Second → ℕ → ℤ → Bool
comes_too_soon None interval s = false
comes_too_soon (Some last) interval s = not (goes_back (Some last) s) && lt_z (s -ℤ last.0) (pos interval)

-- the Rust's rule: a second was recorded before, and the offered one minus it is below the interval
abbrev pub skips : Option Second → ℕ → ℤ → Bool
skips None interval s = false
skips (Some last) interval s = lt_z (s -ℤ last.0) (pos interval)

pub record Reasons : Type 0 where
  -- together they are exactly that rule, and they are never both there
  pub either : (last : Option Second) (interval : ℕ) (s : ℤ) → (goes_back last s || comes_too_soon last interval s) ≡ skips last interval s
  pub not_both : (last : Option Second) (interval : ℕ) (s : ℤ) → (goes_back last s && comes_too_soon last interval s) ≡ false
  -- at interval 0 only the first occurs
  pub only_back : (last : Option Second) (s : ℤ) → comes_too_soon last 0 s ≡ false
