-- A write of bits (docs/RULES.md, "Bits"): the numbers of its refusals, the rule, and the buffer afterwards.
use Rattle.std.specs.Prelude.{ℕ, zero, suc, ◌+◌, ◌*◌, ◌≡◌, cond, List, [], ◌∷◌, ◌++◌, length, take, ltb, Result}
use Rattle.told.specs.Told.{Told, gave, refused, told_by}
use Rattle.told.specs.Over.{filled}
use Rattle.bit_lists.specs.BitList.{nat_bits, bits_of, byte_len, packed}
use Rattle.bits.specs.Place.{pos_of, place_of}
use Rattle.bits.specs.declared.Place.{Place}
use Rattle.bits.specs.declared.WriteRefusal.{WriteRefusal}
use Rattle.bits.specs.declared.WriteRefusal.TheVariants.{Width, Short}

abbrev pub write_refused : WriteRefusal → List ℕ
write_refused Width = 23 ∷ []
write_refused (Short bytes) = 21 ∷ bytes ∷ []

abbrev pub told_write : Result Place WriteRefusal → Told Place
told_write = told_by write_refused

-- n bits into s from a place on: above 64 refused, then, told with the whole bytes needed, a buffer too short
unfoldable pub write_rule : List ℕ → Place → ℕ → Told Place
write_rule s at n =
    cond (ltb 64 n) (refused (23 ∷ []))
    (cond (ltb (length s * 8) (pos_of (length s) at + n)) (refused (21 ∷ byte_len (pos_of (length s) at + n) ∷ []))
    (gave (place_of (pos_of (length s) at + n))))

-- the buffer after a write of the n low bits of v: the bits before the place, these, zeros to the end of their last byte, and past it
-- what stood there; with no bits to write, or refused, it is as before
unfoldable pub written : List ℕ → Place → ℕ → ℕ → List ℕ
written s at v zero = s
written s at v (suc n) = filled (write_rule s at (suc n)) (packed (take (pos_of (length s) at) (bits_of s) ++ nat_bits (suc n) v)) s

-- `write_bits` of the n low bits of v into s: its answer, and what s is afterwards
abbrev pub Writes : List ℕ → Place → ℕ → ℕ → Result Place WriteRefusal → List ℕ → Type 0
Writes s at v n r now = (told_write r ≡ write_rule s at n) × (now ≡ written s at v n)
