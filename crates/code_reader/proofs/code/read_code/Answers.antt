use native.Mathlib.Omega.{arith}
use borrow.Author.Rules.{rules}
use Prim.Native.Nat.{ℕ, ◌+◌, ◌-◌, ◌*◌, ◌/◌, ◌%◌, ◌^◌, ◌≤◌, ◌<◌, min}
use mathlib.Core.Path.{◌≡◌, sym, ap, ap₂, ◌∙◌, subst}
use Rattle.std.specs.Prelude.{Result, Err}
use mathlib.Core.List.{List, [], ◌∷◌}
use native.Mathlib.Nat.{mod-lt, le_refl}
use lib.IntN.{ℤ}
use lib.ListN.{length, drop, get_or}
use lib.Pow.{pow_mono, pow_pos}
use mir.Syntax.{w64}
use mir.Val.{SFits}
use mir.Facts.{to_z-of_z}
use Rattle.raw_bits.specs.Inner.{bits_at}
use Rattle.bit_lists.specs.BitList.{bits_of}
use Rattle.bits.specs.Place.{place_of}
use Rattle.gorilla.specs.Parser.{read, refused, with}
use Rattle.gorilla.specs.Reading.{count_ones, read_code}
use Rattle.gorilla.specs.Rows.{widths, decoded}
use Rattle.gorilla.proofs.Bridge.{take_at, take_short}
use Rattle.gorilla.proofs.Readers.{width_most, code_read, code_short, code_cut}
use Rattle.code_reader.specs.Inner.{Holds, missed, ReadsPrefix, ReadsCode}
use Rattle.code_reader.specs.declared.code.Code.{Code}
use Rattle.code_reader.specs.declared.missing.Cut.{Cut}
use Rattle.code_reader.specs.declared.window.Window.{Window}
use Rattle.code_reader.proofs.Windows.{bits_in, left_in}
use Rattle.code_reader.proofs.code.read_code.Goals as goal

-- a code whose bits are all there
there : (all a i n U W : ℕ) {xs : List ℕ} {q : ℕ} {w : Window} → Holds xs q w → W ≡ get_or widths n 0 → U + W ≤ w.have
    → read n (drop (q + U) (bits_of xs)) ≡ count_ones a i 4 0 (drop q (bits_of xs))
    → read (decoded W (w.bits / 2 ^ (64 - (U + W)) % 2 ^ W)) (drop (q + (U + W)) (bits_of xs)) ≡ read_code all a i (drop q (bits_of xs))
there all a i n U W {xs} {q} {w} z e l p =
    let X : ℕ = get_or widths n 0 in
    let f : q + (U + W) ≡ q + U + X = omega arith in
    let g : decoded W (w.bits / 2 ^ (64 - (U + W)) % 2 ^ W) ≡ decoded X (bits_at xs (q + U) X) =
    ap (decoded W) (bits_in z U W l) ∙ ap (λ (u : ℕ). decoded u (bits_at xs (q + U) u)) e in
    ap₂ (λ (d : ℤ) (u : ℕ). read d (drop u (bits_of xs))) g f
    ∙ sym (code_read all a i n (drop q (bits_of xs)) p (take_at (8 ∷ a ∷ i ∷ X ∷ []) xs X (q + U) (omega (arith, z.within))))

-- a code whose difference is cut off
short : (a i n U W : ℕ) {xs : List ℕ} {q : ℕ} {w : Window} → Holds xs q w → W ≡ get_or widths n 0 → U ≤ w.have → w.have < U + W → U + W ≤ 36
    → read n (drop (q + U) (bits_of xs)) ≡ count_ones a i 4 0 (drop q (bits_of xs))
    → refused (with (8 ∷ a ∷ i ∷ W ∷ []) (place_of (length xs * 8 - w.have))) ≡ read_code (length xs * 8) a i (drop q (bits_of xs))
short a i n U W {xs} {q} {w} z e u l o p =
    let f : q + w.have ≡ length xs * 8 = z.last (omega arith) in
    let h : q + U ≤ length xs * 8 = omega arith in
    let k : length xs * 8 < q + U + get_or widths n 0 = omega arith in
    ap (λ (x : ℕ). refused (with (8 ∷ a ∷ i ∷ x ∷ []) (place_of (length xs * 8 - w.have)))) e
    ∙ sym (code_short (length xs * 8) a i n (drop q (bits_of xs)) p (take_short _ xs (get_or widths n 0) (q + U) h k) (left_in z (omega arith)))

-- the prefix of a window's code is what is read of it
abbrev Prefixed : Window → ℕ → ℕ → Type 0
Prefixed w n U = (xs : List ℕ) (q a i : ℕ) → Holds xs q w → read n (drop (q + U) (bits_of xs)) ≡ count_ones a i 4 0 (drop q (bits_of xs))

prefixed : (w : Window) (n U : ℕ) → U ≡ min (n + 1) 4
    → ((xs : List ℕ) (q a i : ℕ) → Holds xs q w → read n (drop (q + min (n + 1) 4) (bits_of xs)) ≡ count_ones a i 4 0 (drop q (bits_of xs))) → Prefixed w n U
prefixed w n U e h xs q a i z = ap (λ (u : ℕ). read n (drop (q + u) (bits_of xs))) e ∙ h xs q a i z

pub returns-then-rest-width : goal.returns-then-rest-width
returns-then-rest-width c =
    let n : ℕ = c.in_ok-n.n in
    let m = width_most n in
    let p = prefixed c.args.w n _ c.used_of-prefix.ensures c.in_ok-n.ensures.1 in (
      le_refl _,
      λ xs q a i z. short a i n c.used_of-prefix.result c.width_of-width.result z c.width_of-width.ensures (omega (arith, c.in_ok-n.ensures.0)) (omega (arith, c.in_ok-n.ensures.0)) (omega arith)
          (p xs q a i z),
    )

pub diff_of-requires : goal.diff_of-requires
diff_of-requires c =
    let m : c.width_of-width.result ≤ 32 = omega (arith, width_most c.in_ok-n.n) in
    let low = mod-lt (c.args.w.bits / 2 ^ (64 - (c.used_of-prefix.result + c.width_of-width.result))) (pow_pos c.width_of-width.result) in
    (omega (arith, c.field-v.ensures, low, pow_mono m), m)

pub returns : goal.returns
returns c =
    let n : ℕ = c.in_ok-n.n in
    let f : SFits w64 c.diff_of.result = search rules in
    let l : c.used_of-prefix.result + c.width_of-width.result ≤ c.args.w.have = omega (arith, c.in_ok-n.ensures.0) in
    let p = prefixed c.args.w n _ c.used_of-prefix.ensures c.in_ok-n.ensures.1 in (
      (omega arith, l),
      λ xs q a i z.
          ap (λ (d : ℤ). read d (drop (q + (c.used_of-prefix.result + c.width_of-width.result)) (bits_of xs)))
          (to_z-of_z f ∙ c.diff_of.ensures ∙ ap (decoded c.width_of-width.result) c.field-v.ensures)
          ∙ there (length xs * 8) a i n c.used_of-prefix.result c.width_of-width.result z c.width_of-width.ensures l (p xs q a i z),
    )

-- a prefix that is cut off cuts off the code
cut-off : (w : Window) (r : Result Code Cut) (e : Cut) → r ≡ Err e → ReadsPrefix w (Err e) → ReadsCode w r
cut-off w r e k h =
    subst (ReadsCode w) (sym k) (
      omega (arith, h.0.1),
      λ xs q a i z.
          ap (λ (n : ℕ). refused (with (missed a i e.missing) (place_of (length xs * 8 - n)))) h.0.1
          ∙ sym (code_cut (length xs * 8) a i (drop q (bits_of xs)) (h.1 xs q a i z) (left_in z (omega (arith, h.0.0)))),
    )

pub returns-in_err-n : goal.returns-in_err-n
returns-in_err-n c =
    let e : c.from_residual.result ≡ Err c.in_err-n.field-0.0 = grind arith in
    cut-off c.args.w _ _ e c.in_err-n.ensures
