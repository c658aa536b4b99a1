use native.Mathlib.Omega.{arith}
use Prim.Native.Nat.{ℕ, ◌*◌, ◌^◌, ◌≤◌, ◌<◌}
use mathlib.Core.Path.{◌≡◌, sym, ap, ◌∙◌, subst}
use mathlib.Core.Bool.{Bool}
use mathlib.Core.List.{List, [], ◌∷◌}
use borrow.Author.Tests.{le-leb, lt-leb}
use lib.ListN.{length, drop}
use lib.IntN.{pos}
use Rattle.bits.specs.Place.{pos_of}
use Rattle.bits.specs.Read.{told_read, read_rule}
use Rattle.bits.specs.declared.Place.{Place}
use Rattle.std.specs.Prelude.{Ok, Err}
use Rattle.bits.specs.declared.ReadRefusal.TheVariants as rv
use Rattle.bits.proofs.Answers.{given, short, too_wide}
use Rattle.raw_bits.proofs.Bits.{bits_at_lt}
use Rattle.gorilla.specs.Array.{array_no}
use Rattle.bit_lists.specs.BitList.{bits_of}
use Rattle.gorilla.specs.Parser.{read, take_bits, item}
use Rattle.bits.specs.Inner.{bits_from}
use Rattle.gorilla.specs.Reading.{read_values, read_array}
use Rattle.gorilla.proofs.Readers.{took, ended}
use Rattle.array_reader.specs.Inner.{array_at, aligned, passed_at, Agrees}
use Rattle.array_reader.proofs.Arrays.{array_some, array_many, array_cut, from_byte, none_found, end-within}
use Rattle.array_reader.proofs.array.scan_array.Goals as goal

-- a count v that was read at byte `from`, and the place p after it
module _ (s : List ℕ) (from a : ℕ) {v : ℕ} {p : Place} (h : told_read (Ok (v, p)) ≡ read_rule s (record { byte = from; bit = 0 }) 32) where
  count_is : item (length s * 8) (take_bits 32 (4 ∷ a ∷ [])) (drop (from * 8) (bits_of s)) ≡ read v (bits_from s p)
  count_is = ap (item (length s * 8) (take_bits 32 (4 ∷ a ∷ []))) (sym (from_byte s from)) ∙ took s (record { byte = from; bit = 0 }) 32 (4 ∷ a ∷ []) h

  -- it has 32 bits
  count_lt : v < 2 ^ 32
  count_lt =
      let g = given s (record { byte = from; bit = 0 }) 32 h in
      subst (λ (u : ℕ). u < 2 ^ 32) (sym g.value) (bits_at_lt s (pos_of (length s) (record { byte = from; bit = 0 })) 32)

  values_is : (max : ℕ) → v ≤ max → (room : ℕ → Bool) → Agrees max room
      → aligned (read_array (length s * 8) a room (drop (from * 8) (bits_of s))) ≡ aligned (read_values (length s * 8) a v (bits_from s p))
  values_is max l room agrees = ap aligned (array_some (length s * 8) a room (drop (from * 8) (bits_of s)) count_is (agrees v count_lt ∙ le-leb v max l))

pub returns-then-max-count : goal.returns-then-max-count
returns-then-max-count c =
    let s = c.args.s.now in
    let a : ℕ = array_no c.args.array in
    let h = c.in-Ok.ensures in (
      λ room agrees. sym (ap aligned (array_many (length s * 8) a room (drop (c.args.from * 8) (bits_of s)) (count_is s c.args.from a h)
          (agrees c.in-Ok.v (count_lt s c.args.from a h) ∙ lt-leb c.in-Ok.v c.args.max c.if-max-count.true))),
      tt,
    )

pub returns-then-count-eq0 : goal.returns-then-count-eq0
unfolding passed_at
returns-then-count-eq0 c =
    let s = c.args.s.now in
    let a : ℕ = array_no c.args.array in
    let p = c.in-Ok.p in (
      λ room agrees. ap (λ (u : ℕ). read (array_at s a 0 (pos 0) p) (drop (u * 8) (bits_of s))) c.end_of.ensures
          ∙ none_found (length s * 8) s a c.in-Ok.v p (pos 0) c.if-count-eq0.true ∙ sym (values_is s c.args.from a c.in-Ok.ensures c.args.max c.if-max-count.false room agrees),
      (tt, subst (λ (u : ℕ). u ≤ length s) (sym c.end_of.ensures) (end-within (length s) p)),
    )

-- the bits left are bits of the input
pub place_left-requires : goal.place_left-requires
place_left-requires c =
    let at : Place = record { byte = c.args.from; bit = 0 } in
    let h : told_read (Err (rv.Short c.in-Err-Short.left)) ≡ read_rule c.args.s.now at 32 = rw c.in-Err-Short.field-0-is at c.in-Err-Short.ensures in
    omega (arith, (short c.args.s.now at 32 h).1)

pub returns-else-count-eq0 : goal.returns-else-count-eq0
returns-else-count-eq0 c =
    (λ room agrees. c.scan_values.ensures.0 ∙ sym (values_is c.args.s.now c.args.from (array_no c.args.array) c.in-Ok.ensures c.args.max c.if-max-count.false room agrees), c.scan_values.ensures.1)

pub returns-in-Err-Width : goal.returns-in-Err-Width
returns-in-Err-Width c =
    let at : Place = record { byte = c.args.from; bit = 0 } in
    let h : told_read (Err rv.Width) ≡ read_rule c.args.s.now at 32 = rw c.in-Err-Width.field-0-is at c.in-Err-Width.ensures in
    let w : 64 < 32 = too_wide c.args.s.now at 32 h in absurd (omega arith)

pub returns-in-Err-Short : goal.returns-in-Err-Short
returns-in-Err-Short c =
    let s = c.args.s.now in
    let a : ℕ = array_no c.args.array in
    let at : Place = record { byte = c.args.from; bit = 0 } in
    let h : told_read (Err (rv.Short c.in-Err-Short.left)) ≡ read_rule s at 32 = rw c.in-Err-Short.field-0-is at c.in-Err-Short.ensures in (
      λ room agrees. sym (ap aligned (array_cut (length s * 8) a room (drop (c.args.from * 8) (bits_of s))
          (ap (item (length s * 8) (take_bits 32 (4 ∷ a ∷ []))) (sym (from_byte s c.args.from)) ∙ ended s at 32 (4 ∷ a ∷ []) h c.place_left.ensures))),
      tt,
    )
