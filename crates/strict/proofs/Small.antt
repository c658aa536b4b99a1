-- Small deltas: a difference of two of them lies in -2^31..2^31-1, so that a search finds none outside. Assumes nothing.
use Rattle.std.proofs.Common.{◌≡◌, ℕ, suc, ◌+◌, ◌-◌, ◌%◌, ◌^◌, ◌<◌, ◌≤◌, Bool, true, false, ltb, List, ◌∷◌, map, length, get_or, drop, ℤ, pos, negsuc, nat_abs, refl, sym, ap, ◌∙◌, add-one, arith, ltb-false, ltb-true, le-leb}
use Rattle.std.proofs.lemmas.List.{get_or-map}
use Rattle.told.specs.Told.{gave}
use Rattle.signed.specs.Signed.{signed, pattern, sub_w, sub_s}
use Rattle.gorilla.specs.declared.Track.{Track}
use Rattle.gorilla.specs.Rows.{strict}
use Rattle.gorilla.specs.Inner.{advanced}
use Rattle.gorilla.specs.Wide.{wide_after, wide_in}
use Rattle.gorilla.proofs.Walk.{stored_at}
use Rattle.strict.proofs.Wide.{wide_next, wide_end}

strict-pos : (n : ℕ) → n ≤ 2 ^ 31 - 1 → strict (pos n) ≡ true
unfolding strict
strict-pos n h = le-leb n (2 ^ 31 - 1) h

strict_neg : (n : ℕ) → n ≤ 2 ^ 31 - 1 → strict (negsuc n) ≡ true
unfolding strict
strict_neg n h = rw (le-leb n (2 ^ 31 - 1) h)

strict-signed : (u : ℕ) → u < 2 ^ 64 → (u + 2 ^ 30) % 2 ^ 64 ≤ 2 ^ 31 → strict (signed u) ≡ true
strict-signed u h k = go (ltb u (2 ^ 63)) refl
  where
    go : (t : Bool) → ltb u (2 ^ 63) ≡ t → strict (signed u) ≡ true
    go true e = rw e (strict-pos u (omega (arith, ltb-true u (2 ^ 63) e)))
    go false e = rw e (strict_neg (2 ^ 64 - suc u) (omega (arith, ltb-false u (2 ^ 63) e)))

small_strict : (d e : ℤ) → nat_abs d ≤ 2 ^ 29 → nat_abs e ≤ 2 ^ 29 → strict (sub_s d e) ≡ true
small_strict (pos a) (pos b) h k = strict-signed (sub_w (pattern (pos a)) (pattern (pos b))) (omega arith) (omega (arith, h, k))
small_strict (pos a) (negsuc b) h k = strict-signed (sub_w (pattern (pos a)) (pattern (negsuc b))) (omega arith) (omega (arith, h, k))
small_strict (negsuc a) (pos b) h k = strict-signed (sub_w (pattern (negsuc a)) (pattern (pos b))) (omega arith) (omega (arith, h, k))
small_strict (negsuc a) (negsuc b) h k = strict-signed (sub_w (pattern (negsuc a)) (pattern (negsuc b))) (omega arith) (omega (arith, h, k))

-- before the value of index i of `rest` every delta is small: e is the last, from the value before, and what is left decides
pub record Calm {A : Type 0} (f : A → ℤ) (values rest : List A) (i : ℕ) : Type 0 where
  pub e : ℤ
  pub small : nat_abs e ≤ 2 ^ 29
  pub left : (a : ℕ) → wide_after a (i + 1) (get_or (map f values) i (pos 0)) e (drop i (map f rest)) ≡ wide_in a (map f values)

module _ {A : Type 0} (f : A → ℤ) (values rest : List A) (first : A) (h : values ≡ first ∷ rest) where
  pub calm_first : Calm f values rest 0
  unfolding wide_in
  calm_first = record {
    e = pos 0;
    small = omega arith;
    left = λ a. ap (λ (vs : List A). wide_after a 1 (get_or (map f vs) 0 (pos 0)) (pos 0) (map f rest)) h ∙ ap (λ (vs : List A). wide_in a (map f vs)) (sym h);
  }

  -- x is the value there, y the one before
  pub calm_next : (i : ℕ) (x y : A) → i < length rest → x ≡ get_or rest i x → y ≡ get_or values i y → nat_abs (sub_s (f x) (f y)) ≤ 2 ^ 29 → Calm f values rest i → Calm f values rest (i + 1)
  calm_next i x y l x_at y_at k c =
      let p : ℤ = get_or (map f values) i (pos 0) in
      let t : Track = record { prev = p; delta = c.e } in
      let n : i < length values = omega (arith, l, ap length h) in
      let before : f y ≡ p = ap f y_at ∙ sym (get_or-map f values i y (pos 0) n) in
      let here : f x ≡ get_or (map f values) (i + 1) (pos 0) =
      ap f x_at ∙ sym (get_or-map f rest i x (pos 0) l) ∙ ap (λ (j : ℕ). get_or (map f (first ∷ rest)) j (pos 0)) (sym (add-one i)) ∙ ap (λ (vs : List A). get_or (map f vs) (i + 1) (pos 0)) (sym h) in
      let d : ℤ = sub_s (f x) p in
      let s : nat_abs d ≤ 2 ^ 29 = rw (← before) k in record {
        e = d;
        small = s;
        left = λ a.
            ap (λ (z : ℤ). wide_after a (i + 1 + 1) z d (drop (i + 1) (map f rest))) (sym here)
            ∙ wide_next a (i + 1) t (f x) (drop (i + 1) (map f rest)) (advanced t (f x)) (sub_s d c.e) refl refl (small_strict d c.e s c.small)
            ∙ ap (wide_after a (i + 1) p c.e) (sym (stored_at f rest i x l x_at))
            ∙ c.left a;
      }

pub calm_last : {A : Type 0} (f : A → ℤ) (values rest : List A) (i : ℕ) → length rest ≤ i → Calm f values rest i → (a : ℕ) → gave tt ≡ wide_in a (map f values)
calm_last f values rest i h c a = wide_end a (i + 1) i (get_or (map f values) i (pos 0)) c.e f rest h ∙ c.left a
