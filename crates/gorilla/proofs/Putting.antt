-- The length of codes, and the place after them. Assumes nothing.
use Prim.Native.Nat.{ℕ, ◌+◌, ◌*◌, ◌≤◌, ◌<◌}
use mathlib.Core.Path.{◌≡◌, sym, ap, ◌∙◌, subst}
use native.Mathlib.Omega.{arith}
use lib.ListN.{length, length-append}
use lib.IntN.{ℤ}
use Rattle.bit_lists.proofs.Lists.{length-nat_bits}
use Rattle.bits.specs.Place.{place_of}
use Rattle.bits.specs.declared.Place.{Place}
use Rattle.gorilla.specs.declared.Row.{Row}
use Rattle.gorilla.specs.Rows.{row_of}
use Rattle.gorilla.specs.Format.{code_bits}
use Rattle.gorilla.proofs.Trip.{rows}

-- ---- a code: its prefix and its low bits, and at most 36 bits
pub length-code : (d : ℤ) → length (code_bits d) ≡ (row_of d).prefix_bits + (row_of d).width
unfolding code_bits
length-code d = simp (length-append, length-nat_bits)

Narrow : Row → Type 0
Narrow r = (r.prefix_bits ≤ 4) × (r.width ≤ 32)

pub narrow : (d : ℤ) → ((row_of d).prefix_bits ≤ 4) × ((row_of d).width ≤ 32)
unfolding Narrow
narrow = rows Narrow (omega arith) (omega arith) (omega arith) (omega arith) (omega arith)

-- the place of a count of bits
pub place-pos : (q : ℕ) {p : Place} → p ≡ place_of q → p.byte * 8 + p.bit ≡ q
place-pos q {p} e = ap (λ (r : Place). r.byte * 8 + r.bit) e ∙ omega arith

pub place_bit : (q : ℕ) {p : Place} → p ≡ place_of q → p.bit < 8
place_bit q {p} e = subst (λ (r : Place). r.bit < 8) (sym e) (omega arith)
