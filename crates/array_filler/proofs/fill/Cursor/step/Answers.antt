use native.Mathlib.Omega.{arith}
use borrow.Author.Rules.{rules}
use Prim.Native.Nat.{ℕ, ◌*◌, ◌≤◌}
use mathlib.Core.Path.{◌≡◌, sym, ap, ◌∙◌}
use mathlib.Core.List.{List, ◌++◌}
use lib.IntN.{pos}
use lib.ListN.{length, replicate}
use mir.Syntax.{w64}
use mir.Val.{SFits}
use mir.Facts.{to_z-of_z}
use Rattle.bits.specs.Inner.{bits_from}
use Rattle.gorilla.specs.Reading.{read_code}
use Rattle.array_filler.specs.Inner.{ahead}
use Rattle.array_filler.specs.declared.fill.Cursor.{Cursor}
use Rattle.array_filler.proofs.Filling.{there_not}
use Rattle.array_reader.proofs.Runs.{zeros_code, zeros_on_at, code_at, code_cut_at, here}
use Rattle.array_filler.proofs.fill.Cursor.step.Goals as goal

-- what the cursor has ahead is what stands at its place
at_place : (s : List ℕ) (c : Cursor) (a i : ℕ) → c.zeros ≡ 0 → read_code (length s * 8) a i (bits_from s c.at) ≡ read_code (length s * 8) a i (ahead s c)
at_place s c a i h = ap (λ (n : ℕ). read_code (length s * 8) a i (replicate n 0 ++ bits_from s c.at)) (sym h)

pub after-requires : goal.after-requires
after-requires c =
    let h = here c.args.s.now c.args.self.at c.window_at-w.ensures c.zeros-z.result c.if-z-gt0.true c.zeros-z.ensures.1 in
    let m : c.zeros-z.result ≤ 64 = omega (arith, c.zeros-z.ensures.0) in
    search (rules, h, m)

pub returns-then-z-gt0 : goal.returns-then-z-gt0
returns-then-z-gt0 c =
    let s = c.args.s.now in
    let n : ℕ = c.zeros-z.result in λ a i. (
      pos 0,
      zeros_code (length s * 8) a i n (bits_from s c.after.result) c.if-z-gt0.true
          ∙ ap (read_code (length s * 8) a i) (sym (zeros_on_at s c.args.self.at c.window_at-w.ensures 64 n c.zeros-z.ensures c.if-z-gt0.true c.after.ensures)) ∙ at_place s c.args.self a i c.requires.0,
      c.follow.ensures,
    )

pub after-requires-in-Ok : goal.after-requires-in-Ok
after-requires-in-Ok c =
    let n : ℕ = c.in-Ok.code.bits in
    let r = c.in-Ok.ensures in
    let h = here c.args.s.now c.args.self.at c.window_at-w.ensures n r.0.0 r.0.1 in
    let m : n ≤ 64 = omega (arith, r.0.1, c.window_at-w.ensures.most) in
    search (rules, h, m)

pub returns-in-Ok : goal.returns-in-Ok
returns-in-Ok c =
    let g : SFits w64 c.in-Ok.code.diff = search rules in λ a i. (
      c.in-Ok.code.diff,
      code_at c.args.s.now c.args.self.at c.window_at-w.ensures a i c.in-Ok.code c.in-Ok.ensures c.after-in-Ok.ensures ∙ at_place c.args.s.now c.args.self a i c.requires.0,
      rw (to_z-of_z g) at c.follow-in-Ok.ensures,
    )

pub returns-in-Err : goal.returns-in-Err
returns-in-Err c =
    let s = c.args.s.now in
    let a = c.requires.1.1.0 in
    let i = c.requires.1.1.1 in
    there_not (read_code (length s * 8) a i (ahead s c.args.self))
    (code_cut_at s c.args.self.at c.window_at-w.ensures a i c.in-Err.field-0 c.in-Err.ensures ∙ at_place s c.args.self a i c.requires.0) c.requires.1.1.2
