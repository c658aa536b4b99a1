-- Texts put one after the other. Assumes nothing.
use Prim.Native.Nat.{ℕ, suc, ◌+◌, ◌-◌, ◌≤◌}
use native.Mathlib.Nat.{add-zero}
use native.Mathlib.Omega.{arith}
use mathlib.Core.Path.{◌≡◌, refl, sym, ap, ap₂, ◌∙◌}
use mathlib.Core.List.{List, [], ◌∷◌, ◌++◌}
use lib.ListN.{length, set, length-append}
use lib.Seq.{sets, sets-eq, length-sets, take_all}
use borrow.Rule.Slice.PartMut.{put_mid}
use Rattle.std.proofs.lemmas.Slice.{put_mid-paste}
use Rattle.text.specs.Inner.{Put}

pub sets_append : (xs ys l : List ℕ) (i : ℕ) → sets (sets l i xs) (i + length xs) ys ≡ sets l i (xs ++ ys)
sets_append [] ys l i = rw (add-zero i)
sets_append (x ∷ xs) ys l i =
    let e : i + suc (length xs) ≡ suc i + length xs = omega arith in
    ap (λ (k : ℕ). sets (sets (set l i x) (suc i) xs) k ys) e ∙ sets_append xs ys (set l i x) (suc i)

-- one text, and another after it
pub then : {a b c x y : List ℕ} {at p e : ℕ} → Put a at x b p → Put b p y c e → Put a at (x ++ y) c e
then {a} {b} {c} {x} {y} {at} {p} {e} f g = record {
  bytes = g.bytes ∙ ap₂ (λ (l : List ℕ) (k : ℕ). sets l k y) f.bytes f.ends ∙ sets_append x y a at;
  ends = omega (arith, f.ends, g.ends, length-append x y);
}

pub put_length : {a b x : List ℕ} {at p : ℕ} → Put a at x b p → length b ≡ length a
put_length {a} {b} {x} {at} f = ap length f.bytes ∙ length-sets a at x

pub stored : (l : List ℕ) (i a : ℕ) → Put l i (a ∷ []) (set l i a) (i + 1)
stored l i a = record { bytes = refl; ends = refl }

pub copied : (a s b : List ℕ) (at : ℕ) → b ≡ s → at + length s ≤ length a → Put a at s (put_mid at (at + length s - at) a b) (at + length s)
copied a s b at e h = record {
  bytes =
      put_mid-paste at (at + length s - at) a b s (length s) e (omega arith) refl
      ∙ rw (take_all (length s) s (omega arith)) (sym (sets-eq s a at h));
  ends = refl;
}

-- what room is left after a text of at most m bytes
pub next : {a b x : List ℕ} {at p : ℕ} (m k : ℕ) → Put a at x b p → length x ≤ m → at + (m + k) ≤ length a → p + k ≤ length b
next {a} {b} {x} {at} {p} m k f l h = omega (arith, f.ends, put_length f)
