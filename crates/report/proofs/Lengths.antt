-- How long the lines of a listing are. Assumes nothing.
use Prim.Native.Nat.{ℕ, zero, suc, ◌+◌, ◌*◌, ◌≤◌}
use native.Mathlib.Numerals.{add-one}
use native.Mathlib.Omega.{arith}
use mathlib.Core.Path.{◌≡◌, refl, ap}
use mathlib.Core.Bool.{Bool, true, false, cond}
use mathlib.Core.List.{List, ◌++◌}
use lib.IntN.{ℤ, pos}
use lib.ListN.{length, get_or, take, length-append, take-append-drop}
use Rattle.text.specs.Ascii.{ascii}
use Rattle.text.specs.Text.{word_line}
use Rattle.text.specs.Inner.{Put}
use Rattle.text.proofs.Numbers.{decimal-length, word-length}
use Rattle.report.specs.Lines.{line, lines, entries_text, refused_text}
use Rattle.report.specs.Inner.{pairs_text}

pub taken-length : (n : ℕ) (l : List ℤ) → length (take n l) ≤ length l
taken-length n l = omega (arith, simp length-append at (ap length (take-append-drop n l)))

pub refused-length : (n : ℕ) → length (refused_text n) ≤ 29
unfolding refused_text
refused-length n = word-length (ascii "refused ") n

module _ (third : ℤ → List ℕ) (short : (z : ℤ) → length (third z) ≤ 21) where
  line-length : (i q : ℕ) (s : ℤ) → length (line third i q s) ≤ 64
  unfolding line
  line-length i q s = simp length-append (omega (arith, decimal-length i, decimal-length q, short s))

  module _ (qs : List ℕ) (ss : List ℤ) where
    pub lines-length : (n : ℕ) → length (lines third qs ss n) ≤ n * 64
    unfolding lines
    lines-length zero = omega arith
    lines-length (suc n) =
        let l = line third n (get_or qs n 0) (get_or ss n (pos 0)) in
        omega (arith, lines-length n, line-length n (get_or qs n 0) (get_or ss n (pos 0)), length-append (lines third qs ss n) l)

    entries_length : (n : ℕ) → length (entries_text third qs ss n) ≤ n * 64 + 29
    unfolding entries_text
    entries_length n = omega (arith, length-append (word_line (ascii "entries ") n) (lines third qs ss n), word-length (ascii "entries ") n, lines-length n)

    pub pairs-length : (some_lacks : List ℤ → Bool) → length (pairs_text third some_lacks qs ss) ≤ length ss * 64 + 29
    pairs-length some_lacks = go (some_lacks ss)
      where
        go : (b : Bool) → length (cond b (refused_text 27) (entries_text third qs ss (length ss))) ≤ length ss * 64 + 29
        go true = omega (arith, refused-length 27)
        go false = entries_length (length ss)

module _ (third : ℤ → List ℕ) (qs : List ℕ) (ss : List ℤ) where
  pub lines_more : (n : ℕ) → lines third qs ss (n + 1) ≡ lines third qs ss n ++ line third n (get_or qs n 0) (get_or ss n (pos 0))
  unfolding lines
  lines_more n = rw (add-one n)

  pub none : (l : List ℕ) (at : ℕ) → Put l at (lines third qs ss 0) l at
  unfolding lines
  none l at = record { bytes = refl; ends = omega arith }
