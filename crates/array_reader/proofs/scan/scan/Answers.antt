use native.Mathlib.Omega.{arith}
use borrow.Author.Rules.{rules}
use Prim.Native.Nat.{ℕ, suc, ◌+◌, ◌-◌, ◌*◌, ◌≤◌, ◌<◌}
use mathlib.Core.Path.{◌≡◌, sym, ap, ap₂, ◌∙◌}
use mathlib.Core.List.{List}
use lib.ListN.{length}
use Rattle.bits.specs.declared.Place.{Place}
use Rattle.gorilla.specs.Array.{array_no}
use Rattle.gorilla.specs.Inner.{shape}
use Rattle.gorilla.specs.Parser.{refused, with}
use Rattle.bits.specs.Inner.{bits_from}
use Rattle.gorilla.specs.Reading.{read_codes}
use Rattle.gorilla.proofs.Readers.{place_is, shape-next, codes_cut}
use Rattle.code_reader.specs.Inner.{missed}
use Rattle.array_reader.proofs.Runs.{zeros_codes, zeros_on_at, code_at, code_cut_at, here}
use Rattle.array_reader.proofs.scan.scan.Goals as goal

-- one code of the n - i that are left
left : (s : List ℕ) (a n i : ℕ) (p : Place) → i < n
    → shape (read_codes (length s * 8) a (suc (n - (i + 1))) i (bits_from s p)) ≡ shape (read_codes (length s * 8) a (n - i) i (bits_from s p))
left s a n i p h = let e : suc (n - (i + 1)) ≡ n - i = omega arith in ap (λ (k : ℕ). shape (read_codes (length s * 8) a k i (bits_from s p))) e

pub after-p-requires : goal.after-p-requires
after-p-requires c =
    let h = here c.args.s.now c.loop-i.p c.window_at-w.ensures c.zeros-z.result c.if-z-gt0.true c.zeros-z.ensures.1 in
    let m : c.zeros-z.result ≤ 64 = omega (arith, c.zeros-z.ensures.1, c.window_at-w.ensures.most) in
    search (rules, h, m)

pub loop-i-preserved-then-z-gt0 : goal.loop-i-preserved-then-z-gt0
loop-i-preserved-then-z-gt0 c =
    let s = c.args.s.now in
    let a : ℕ = array_no c.args.array in
    let l = c.loop-i in
    let n : ℕ = c.zeros-z.result in
    let k : ℕ = c.args.count - (l.i + n) in
    let e : n + k ≡ c.args.count - l.i = omega (arith, c.zeros-z.ensures.0, c.loop-i-test.true) in
    let o = zeros_on_at s l.p c.window_at-w.ensures (c.args.count - l.i) n c.zeros-z.ensures c.if-z-gt0.true c.after-p.ensures in (
      omega arith,
      sym (zeros_codes (length s * 8) a n k l.i (bits_from s c.after-p.result))
          ∙ ap₂ (λ (u : ℕ) (bs : List ℕ). shape (read_codes (length s * 8) a u l.i bs)) e (sym o) ∙ l.invariant.1,
    )

pub after-p-requires-in-Ok : goal.after-p-requires-in-Ok
after-p-requires-in-Ok c =
    let r = c.in-Ok.ensures in
    let n : ℕ = c.in-Ok.code.bits in
    let h = here c.args.s.now c.loop-i.p c.window_at-w.ensures n r.0.0 r.0.1 in
    let m : n ≤ 64 = omega (arith, r.0.1, c.window_at-w.ensures.most) in
    search (rules, h, m)

pub place_left-begins-requires : goal.place_left-begins-requires
place_left-begins-requires c = omega (arith, c.in-Err.ensures.0, c.window_at-w.ensures.within)

pub returns-in-Err : goal.returns-in-Err
returns-in-Err c =
    let s = c.args.s.now in
    let a : ℕ = array_no c.args.array in
    let l = c.loop-i in
    let e = code_cut_at s l.p c.window_at-w.ensures a l.i c.in-Err.cut c.in-Err.ensures in
    let told_is = c.refusal_of.ensures ∙ ap (with (missed a l.i c.in-Err.cut.missing)) (place_is (length s * 8 - c.in-Err.cut.left) c.place_left-begins.ensures) in
    ap (λ (l : List ℕ). refused l) told_is ∙ sym (ap shape (codes_cut (length s * 8) a (c.args.count - (l.i + 1)) l.i (bits_from s l.p) e))
    ∙ left s a c.args.count l.i l.p c.loop-i-test.true ∙ l.invariant.1

pub loop-i-preserved : goal.loop-i-preserved
loop-i-preserved c =
    let s = c.args.s.now in
    let a : ℕ = array_no c.args.array in
    let l = c.loop-i in
    let h = code_at s l.p c.window_at-w.ensures a l.i c.in-Ok.code c.in-Ok.ensures c.after-p-in-Ok.ensures in
    (omega arith, sym (shape-next (length s * 8) a (c.args.count - (l.i + 1)) l.i (bits_from s l.p) h) ∙ left s a c.args.count l.i l.p c.loop-i-test.true ∙ l.invariant.1)

pub returns : goal.returns
unfolding read_codes
returns c =
    let l = c.loop-i in
    let e : 0 ≡ c.args.count - l.i = omega (arith, c.loop-i-test.false) in
    ap (λ (k : ℕ). shape (read_codes (length c.args.s.now * 8) (array_no c.args.array) k l.i (bits_from c.args.s.now l.p))) e ∙ l.invariant.1
