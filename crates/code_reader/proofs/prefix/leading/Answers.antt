use native.Mathlib.Omega.{arith}
use Prim.Native.Nat.{ℕ, zero, suc, ◌+◌, ◌-◌, ◌≤◌, ◌<◌, min}
use mathlib.Core.Path.{◌≡◌, refl, sym, ap, ◌∙◌}
use mathlib.Core.List.{List, [], ◌∷◌}
use native.Mathlib.Nat.{add-zero}
use lib.ListN.{drop}
use Rattle.bit_lists.specs.BitList.{bits_of}
use Rattle.gorilla.specs.Parser.{read, refused}
use Rattle.gorilla.specs.Reading.{cut_number, count_ones}
use Rattle.gorilla.proofs.Readers.{at_zero, at_one, at-end}
use Rattle.code_reader.specs.Inner.{Holds}
use Rattle.code_reader.specs.declared.window.Window.{Window}
use Rattle.code_reader.proofs.Windows.{bit_off, none_off}
use Rattle.code_reader.proofs.prefix.leading.Invariants.{Rest}
use Rattle.code_reader.proofs.prefix.leading.Goals as goal

-- the same with one to count at least
more : (w : Window) (n : ℕ) → n < 4 → Rest w n → (xs : List ℕ) (q a i : ℕ) → Holds xs q w
    → count_ones a i (suc (3 - n)) n (drop (q + n) (bits_of xs)) ≡ count_ones a i 4 0 (drop q (bits_of xs))
more w n h r xs q a i k = let e : suc (3 - n) ≡ 4 - n = omega arith in ap (λ (u : ℕ). count_ones a i u n (drop (q + n) (bits_of xs))) e ∙ r xs q a i k

-- the end, after n ones
cut : (w : Window) (n k : ℕ) → n < 4 → n ≤ w.have → w.have ≤ n → k ≡ cut_number n → Rest w n
    → (xs : List ℕ) (q a i : ℕ) → Holds xs q w → refused (k ∷ a ∷ i ∷ []) ≡ count_ones a i 4 0 (drop q (bits_of xs))
cut w n k h l m e r xs q a i z =
    let o : n ≡ w.have = omega arith in
    ap (λ (u : ℕ). refused (u ∷ a ∷ i ∷ [])) e ∙ sym (at-end a i (3 - n) n (drop (q + n) (bits_of xs)) (none_off z n o (omega arith))) ∙ more w n h r xs q a i z

six : (n : ℕ) → n ≡ 0 → 6 ≡ cut_number n
unfolding cut_number
six zero e = refl
six (suc n) e = absurd (omega arith)

seven : (n : ℕ) → (n ≡ 0 → ⊥) → 7 ≡ cut_number n
unfolding cut_number
seven zero e = absurd (e refl)
seven (suc n) e = refl

under : (n : ℕ) → n ≤ 4 → (n ≡ 4 → ⊥) → n < 4
under n h k = omega (arith, h, k)

pub loop-n-init : goal.loop-n-init
loop-n-init c = (omega arith, omega arith, λ xs q a i h. ap (λ (u : ℕ). count_ones a i 4 0 (drop u (bits_of xs))) (add-zero q))

pub returns-then-n-eq0 : goal.returns-then-n-eq0
returns-then-n-eq0 c =
    let l = c.loop-n in
    let a = c.args in
    let u = under l.n l.invariant.0 c.if-n-eq4.false in
    (omega (arith, c.if-w-n.true, u), cut a.w l.n 6 u l.invariant.1 c.if-w-n.true (six l.n c.if-n-eq0.true) l.invariant.2)

pub returns-then-w-n : goal.returns-then-w-n
returns-then-w-n c =
    let l = c.loop-n in
    let a = c.args in
    let u = under l.n l.invariant.0 c.if-n-eq4.false in
    (omega (arith, c.if-w-n.true, u), cut a.w l.n 7 u l.invariant.1 c.if-w-n.true (seven l.n c.if-n-eq0.false) l.invariant.2)

pub loop-n-smaller : goal.loop-n-smaller
loop-n-smaller c = omega (arith, under c.loop-n.n c.loop-n.invariant.0 c.if-n-eq4.false)

pub loop-n-preserved : goal.loop-n-preserved
loop-n-preserved c =
    let l = c.loop-n in
    let a = c.args in
    let n : ℕ = l.n in
    let h : n < 4 = under n l.invariant.0 c.if-n-eq4.false in
    let k : 4 - (n + 1) ≡ 3 - n = omega arith in
    let m : n < a.w.have = omega (arith, c.if-w-n.false) in (
      omega arith,
      omega arith,
      λ xs q a' i z. ap (λ (u : ℕ). count_ones a' i u (n + 1) (drop (q + (n + 1)) (bits_of xs))) k
          ∙ sym (at_one a' i (3 - n) n (drop (q + n) (bits_of xs)) (bit_off z n m) c.if-w-n-eq0.false) ∙ more a.w n h l.invariant.2 xs q a' i z,
    )

pub returns-then-n-eq4 : goal.returns-then-n-eq4
unfolding count_ones
returns-then-n-eq4 c =
    let l = c.loop-n in
    let n : ℕ = l.n in
    let o : n ≡ 4 = c.if-n-eq4.true in
    let e : 0 ≡ 4 - n = omega arith in (
      (l.invariant.0, omega arith),
      λ xs q a i z. let f : q + min (n + 1) 4 ≡ q + n = omega arith in ap (λ (u : ℕ). read n (drop u (bits_of xs))) f
          ∙ ap (λ (u : ℕ). count_ones a i u n (drop (q + n) (bits_of xs))) e ∙ l.invariant.2 xs q a i z,
    )

pub returns-then-w-n-eq0 : goal.returns-then-w-n-eq0
returns-then-w-n-eq0 c =
    let l = c.loop-n in
    let a = c.args in
    let n : ℕ = l.n in
    let h : n < 4 = under n l.invariant.0 c.if-n-eq4.false in
    let m : n < a.w.have = omega (arith, c.if-w-n.false) in (
      (l.invariant.0, omega arith),
      λ xs q a' i z. let f : q + min (n + 1) 4 ≡ q + (n + 1) = omega arith in ap (λ (u : ℕ). read n (drop u (bits_of xs))) f
          ∙ sym (at_zero a' i (3 - n) n (drop (q + n) (bits_of xs)) (bit_off z n m) c.if-w-n-eq0.true) ∙ more a.w n h l.invariant.2 xs q a' i z,
    )
