use native.Mathlib.Omega.{arith}
use borrow.Author.Rules.{rules}
use Prim.Native.Nat.{ℕ, ◌*◌, ◌≤◌, ◌<◌}
use mathlib.Core.Path.{◌≡◌, sym, ap, ◌∙◌, subst}
use Rattle.std.specs.Prelude.{Err}
use Rattle.bits.specs.Read.{told_read, read_rule}
use Rattle.bits.specs.declared.ReadRefusal.TheVariants as rv
use mathlib.Core.List.{[], ◌∷◌}
use lib.ListN.{length, drop}
use mir.Syntax.{w64}
use mir.Val.{SFits, to_z, of_z}
use mir.Facts.{to_z-of_z}
use Rattle.bits.proofs.Answers.{given, short, too_wide}
use Rattle.gorilla.specs.Array.{array_no}
use Rattle.bit_lists.specs.BitList.{bits_of}
use Rattle.gorilla.specs.Parser.{read}
use Rattle.bits.specs.Inner.{bits_from}
use Rattle.gorilla.proofs.Readers.{took, ended}
use Rattle.array_reader.specs.Inner.{array_at}
use Rattle.array_reader.proofs.Arrays.{values-found, values_passed, values_cut, values_short, end-within}
use Rattle.array_reader.proofs.array.scan_values.Goals as goal

-- the bytes are eight at least
pub scan-requires : goal.scan-requires
scan-requires c = let g = given c.args.s.now c.args.at 64 c.in-Ok.ensures in omega (arith, g.within)

-- the bits left are bits of the input
pub place_left-requires : goal.place_left-requires
place_left-requires c =
    let h : told_read (Err (rv.Short c.in-Err-Short.left)) ≡ read_rule c.args.s.now c.args.at 64 = rw c.in-Err-Short.field-0-is at c.in-Err-Short.ensures in
    omega (arith, (short c.args.s.now c.args.at 64 h).1)

pub returns-in_ok-e-in-Ok : goal.returns-in_ok-e-in-Ok
returns-in_ok-e-in-Ok c =
    let s = c.args.s.now in
    let a : ℕ = array_no c.args.array in
    let bs = bits_from s c.args.at in
    let n : ℕ = c.args.count in
    let q = c.in-Ok.q in
    let e = c.in_ok-e-in-Ok.e in
    let f : SFits w64 c.as_signed.result = search rules in
    let g = given s c.args.at 64 c.in-Ok.ensures in (
      ap (λ (u : ℕ). read (array_at s a n (to_z w64 (of_z w64 c.as_signed.result)) q) (drop (u * 8) (bits_of s))) c.end_of.ensures
          ∙ values-found s a bs n q e c.requires (to_z-of_z f ∙ c.as_signed.ensures) (took s c.args.at 64 (5 ∷ a ∷ []) c.in-Ok.ensures) c.in_ok-e-in-Ok.ensures,
      (values_passed s a bs n q e c.requires (omega (arith, g.within)) c.in_ok-e-in-Ok.ensures, subst (λ (u : ℕ). u ≤ length s) (sym c.end_of.ensures) (end-within (length s) e)),
    )

pub returns-in_err-e-in-Ok : goal.returns-in_err-e-in-Ok
returns-in_err-e-in-Ok c =
    let s = c.args.s.now in
    let a : ℕ = array_no c.args.array in
    let e : c.from_residual.result ≡ Err c.in_err-e-in-Ok.field-0.0 = grind arith in
    rw e (values_cut s a (bits_from s c.args.at) c.args.count c.requires (took s c.args.at 64 (5 ∷ a ∷ []) c.in-Ok.ensures) c.in_err-e-in-Ok.ensures, tt)

pub returns-in-Err-Width : goal.returns-in-Err-Width
returns-in-Err-Width c =
    let h : told_read (Err rv.Width) ≡ read_rule c.args.s.now c.args.at 64 = rw c.in-Err-Width.field-0-is at c.in-Err-Width.ensures in
    let w : 64 < 64 = too_wide c.args.s.now c.args.at 64 h in absurd (omega arith)

pub returns-in-Err-Short : goal.returns-in-Err-Short
returns-in-Err-Short c =
    let s = c.args.s.now in
    let a : ℕ = array_no c.args.array in
    let h : told_read (Err (rv.Short c.in-Err-Short.left)) ≡ read_rule s c.args.at 64 = rw c.in-Err-Short.field-0-is at c.in-Err-Short.ensures in
    (values_short s a (bits_from s c.args.at) c.args.count c.requires (ended s c.args.at 64 (5 ∷ a ∷ []) h c.place_left.ensures), tt)
