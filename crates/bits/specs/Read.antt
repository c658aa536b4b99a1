-- A read of bits (docs/RULES.md, "Bits"): the numbers of its refusals, and the rule.
use Rattle.std.specs.Prelude.{ℕ, ◌+◌, cond, List, [], ◌∷◌, length, take, drop, ltb, Result, Ok, Err}
use Rattle.told.specs.Told.{Told, gave, refused}
use Rattle.bit_lists.specs.BitList.{bits_of, nat_from}
use Rattle.bits.specs.Place.{pos_of, left_at, place_of}
use Rattle.bits.specs.declared.Place.{Place}
use Rattle.bits.specs.declared.ReadRefusal.{ReadRefusal}
use Rattle.bits.specs.declared.ReadRefusal.TheVariants.{Width, Short}

-- the bits as a number, and the place after them
pub record Piece : Type 0 where
  pub value : ℕ
  pub next : Place

abbrev pub read_refused : ReadRefusal → List ℕ
read_refused Width = 23 ∷ []
read_refused (Short left) = 24 ∷ left ∷ []

abbrev pub told_read : Result (ℕ × Place) ReadRefusal → Told Piece
told_read (Ok r) = gave (record { value = r.0; next = r.1 })
told_read (Err e) = refused (read_refused e)

-- n bits of s from a place on: above 64 refused, then, told with the bits left, where these are fewer than asked
unfoldable pub read_rule : List ℕ → Place → ℕ → Told Piece
read_rule s at n =
    cond (ltb 64 n) (refused (23 ∷ []))
    (cond (ltb (left_at (length s) at) n) (refused (24 ∷ left_at (length s) at ∷ []))
    (gave (record { value = nat_from 0 (take n (drop (pos_of (length s) at) (bits_of s))); next = place_of (pos_of (length s) at + n) })))
