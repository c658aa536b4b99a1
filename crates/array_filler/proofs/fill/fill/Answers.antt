use native.Mathlib.Omega.{arith}
use borrow.Author.Rules.{rules}
use Prim.Native.Nat.{ℕ, suc, ◌+◌, ◌-◌, ◌*◌, ◌<◌}
use mathlib.Core.Path.{◌≡◌, refl, sym, ap, ap₂, ◌∙◌, subst}
use lib.ListN.{length, set, length-set}
use mir.Syntax.{w64}
use mir.Val.{SFits}
use mir.Facts.{to_z-of_z}
use Rattle.gorilla.specs.Inner.{followed}
use Rattle.gorilla.specs.Reading.{read_codes, values_after}
use Rattle.gorilla.specs.declared.Track.{Track}
use Rattle.array_filler.specs.Inner.{ahead, Stepped}
use Rattle.array_reader.proofs.Arrays.{passed_first, passed_long}
use Rattle.array_filler.proofs.Filling.{filled, fill_next, filled-over, none_over, first-there, there_left}
use Rattle.array_filler.proofs.fill.fill.Goals as goal
use Rattle.array_filler.proofs.fill.fill.Goals.{then-c-gt0, else-c-gt0}

pub returns-then-part-eq0 : goal.returns-then-part-eq0
returns-then-part-eq0 g c a p =
    none_over g.T.Stored.of_z c.args.s.now a c.args.part.count c.args.part.first c.args.part.at c.args.out.now c.if-part-eq0.true

pub loop-i-init : goal.loop-i-init
loop-i-init g c = (
  omega arith,
  simp length-set (omega arith),
  λ a p. (passed_first c.args.s.now a c.args.part.count c.args.part.at (omega (arith, c.if-part-eq0.false)) p, refl),
)

pub step-c-requires : goal.step-c-requires
step-c-requires g c =
    let s = c.args.s.now in
    let l = c.loop-i in
    let n : ℕ = c.args.part.count in
    let a : ℕ = c.requires.1.0 in
    let p = c.requires.1.1 in
    let h : l.i < n = omega arith in (
      omega (arith, c.if-c-gt0.false),
      (
        passed_long s a n c.args.part.at (omega arith) p,
        (a, l.i, first-there (length s * 8) a l.i (n - (l.i + 1)) (ahead s l.c) (there_left (length s * 8) a n l.i (ahead s l.c) h (l.invariant.2 a p).0)),
      ),
    )

pub loop-i-preserved : goal.loop-i-preserved
loop-i-preserved g c =
    let s = c.args.s.now in
    let l = c.loop-i in
    let n : ℕ = c.args.part.count in
    let k : ℕ = n - (l.i + 1) in
    let h : l.i < n = omega arith in
    let e : suc k ≡ n - l.i = omega arith in
    -- one value on, by a zero that was found already or by a code that is read
    let steps : (a : ℕ) → Stepped s a l.i l.c c.if-c-gt0.c = λ a. elim c.if-c-gt0.branch [
      | then-c-gt0 w ↦ subst (Stepped s a l.i l.c) (sym w.c-is) (w.coast-c.ensures s a l.i)
      | else-c-gt0 w ↦ subst (Stepped s a l.i l.c) (sym w.c-is) (w.step-c.ensures a l.i)
    ] in
    let f : SFits w64 c.if-c-gt0.c.track.prev = search rules in (
      omega arith,
      simp length-set (omega arith),
      λ a p.
          let on = steps a in
          let q = l.invariant.2 a p in
          let m = fill_next g.T.Stored.of_z (length s * 8) a l.out l.i k l.c.track (ahead s l.c) on.1 (there_left (length s * 8) a n l.i (ahead s l.c) h q.0) in
          let o = ap (λ (u : ℕ). filled g.T.Stored.of_z l.out l.i l.c.track (read_codes (length s * 8) a u l.i (ahead s l.c))) e ∙ q.1 in
          let v : c.from_signed-in-loop-i.result ≡ g.T.Stored.of_z (followed l.c.track on.0).prev =
          rw (to_z-of_z {w = w64} f) at c.from_signed-in-loop-i.ensures ∙ ap (λ (x : Track). g.T.Stored.of_z x.prev) on.2 in
          (m.0, ap₂ (λ (x : g.row.T.Denot) (y : Track). filled g.T.Stored.of_z (set l.out l.i x) (l.i + 1) y (read_codes (length s * 8) a k (l.i + 1) (ahead s c.if-c-gt0.c))) v on.2 ∙ m.1 ∙ o),
    )

pub returns : goal.returns
unfolding read_codes values_after
returns g c a p =
    let l = c.loop-i in
    let s = c.args.s.now in
    let e : c.args.part.count - l.i ≡ 0 = omega arith in
    let f : SFits w64 c.args.part.first = search rules in
    let u : c.from_signed.result ≡ g.T.Stored.of_z c.args.part.first = rw (to_z-of_z f) at c.from_signed.ensures in
    let w = filled-over g.T.Stored.of_z s a c.args.part.count c.args.part.first c.args.part.at c.args.out.now (omega (arith, c.if-part-eq0.false)) c.requires.0 p in
    ap (λ (k : ℕ). filled g.T.Stored.of_z l.out l.i l.c.track (read_codes (length s * 8) a k l.i (ahead s l.c))) (sym e) ∙ (l.invariant.2 a p).1 ∙ rw (to_z-of_z f, u) w
