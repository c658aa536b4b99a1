-- The five rows of codes (docs/RULES.md, "One array").
use Rattle.std.specs.Prelude.{ℕ, ◌-◌, ◌^◌, Bool, cond, ◌&&◌, List, [], ◌∷◌, leb, eqb, ℤ, pos, negsuc, nat_abs}
use Rattle.std.specs.Int.Signed.{le_z}
use mir.Val.{sel}
use Rattle.signed.specs.Extend.{extend}
use Rattle.gorilla.specs.declared.Row.{Row}

-- the widths by the count of ones
abbrev pub widths : List ℕ
widths = 0 ∷ 7 ∷ 9 ∷ 12 ∷ 32 ∷ []

abbrev pub row : ℕ → ℕ → ℕ → Row
row p n w = record { prefix = p; prefix_bits = n; width = w }

-- the first row whose range holds a difference of magnitude n
abbrev pub row_at : ℕ → Row
row_at n =
    cond (leb n 0) (row 0b0 1 0)
    (cond (leb n 63) (row 0b10 2 7)
    (cond (leb n 255) (row 0b110 3 9)
    (cond (leb n 2047) (row 0b1110 4 12)
    (row 0b1111 4 32))))

-- the row of the difference of deltas d: `nat_abs d` is its magnitude
unfoldable pub row_of : ℤ → Row
row_of d = row_at (nat_abs d)

-- the difference that w bits v stand for: no bits stand for 0
abbrev pub decoded : ℕ → ℕ → ℤ
decoded w v = sel (eqb w 0) (pos 0) (extend w v)

-- d lies in -2^31..2^31-1; `negsuc n` is -(n + 1)
unfoldable pub strict : ℤ → Bool
strict d = le_z (negsuc (2 ^ 31 - 1)) d && le_z d (pos (2 ^ 31 - 1))
