-- What a read and a write answer, by cases: for the calls' own proofs, and for their callers. Assumes nothing.
use Prim.Native.Nat.{ℕ, zero, suc, ◌+◌, ◌-◌, ◌*◌, ◌/◌, ◌%◌, ◌≤◌, ◌<◌}
use mathlib.Core.Path.{◌≡◌, refl, ap, ap₂, ◌∙◌}
use mathlib.Core.Bool.{Bool, true, false, cond}
use mathlib.Core.List.{List, [], ◌∷◌, ◌++◌}
use native.Mathlib.Omega.{arith}
use lib.ListN.{length, get_or, take, drop}
use lib.Dec.{ltb}
use borrow.Author.Tests.{lt-ltb, le-ltb, ltb-true, ltb-false}
use Rattle.told.specs.Told.{Told, gave, refused}
use Rattle.told.specs.Over.{filled}
use Rattle.bit_lists.specs.BitList.{nat_bits, bits_of, nat_from, packed}
use Rattle.raw_bits.specs.Inner.{bits_at, put_bits}
use Rattle.bit_lists.proofs.Written.{from_at, put_over}
use Rattle.bits.specs.Place.{pos_of, left_at, place_of}
use Rattle.bits.specs.Read.{Piece, read_rule, told_read}
use Rattle.bits.specs.Write.{write_rule, written}
use Rattle.bits.specs.declared.Place.{Place}
use Rattle.std.specs.Prelude.{Ok, Err}
use Rattle.bits.specs.declared.ReadRefusal.TheVariants as rv

-- ---- the rules by cases; q is the number of bits before the place
pub read_width : (s : List ℕ) (at : Place) (n : ℕ) → 64 < n → refused (23 ∷ []) ≡ read_rule s at n
unfolding read_rule
read_width s at n h = simp (lt-ltb _ _ h)

pub read_short : (s : List ℕ) (at : Place) (n q : ℕ) {left : ℕ} → n ≤ 64 → q ≡ pos_of (length s) at → q ≤ length s * 8 → length s * 8 < q + n → left ≡ length s * 8 - q
    → refused (24 ∷ left ∷ []) ≡ read_rule s at n
unfolding read_rule
read_short s at n q h e w g d = rw (← e, le-ltb 64 n h, lt-ltb (length s * 8 - q) n (omega arith), d) refl

pub read-value : (s : List ℕ) (at : Place) (n q : ℕ) {v : ℕ} {p : Place} → n ≤ 64 → q ≡ pos_of (length s) at → q + n ≤ length s * 8
    → v ≡ bits_at s q n → p ≡ place_of (q + n) → told_read (Ok (v, p)) ≡ read_rule s at n
unfolding read_rule
read-value s at n q h e g d f =
    let few : n ≤ length s * 8 - q = omega arith in rw (← e) (simp (le-ltb _ _ h, le-ltb _ _ few, d, from_at s q n g, f))

-- the buffer after an answer x of the rule
kept : (s : List ℕ) (at : Place) (v n : ℕ) {l : List ℕ} → refused l ≡ write_rule s at n → s ≡ written s at v n
unfolding written
kept s at v zero h = refl
kept s at v (suc n) h = ap (λ (x : Told Place). filled x (packed (take (pos_of (length s) at) (bits_of s) ++ nat_bits (suc n) v)) s) h

put : (s : List ℕ) (at : Place) (v n : ℕ) {p : Place} → ((j : ℕ) → get_or s j 0 < 256) → pos_of (length s) at + n ≤ length s * 8
    → gave p ≡ write_rule s at n → put_bits s (pos_of (length s) at) v n ≡ written s at v n
unfolding written put_bits
put s at v zero b g h = refl
put s at v (suc n) b g h =
    put_over s (pos_of (length s) at) v n b g
    ∙ ap (λ (x : Told Place). filled x (packed (take (pos_of (length s) at) (bits_of s) ++ nat_bits (suc n) v)) s) h

pub write_width : (s : List ℕ) (at : Place) (v n : ℕ) → 64 < n → (refused (23 ∷ []) ≡ write_rule s at n) × (s ≡ written s at v n)
unfolding write_rule
write_width s at v n h = let e : refused (23 ∷ []) ≡ write_rule s at n = simp (lt-ltb _ _ h) in (e, kept s at v n e)

pub write_short : (s : List ℕ) (at : Place) (v n q : ℕ) {m : ℕ} → n ≤ 64 → q ≡ pos_of (length s) at → length s * 8 < q + n → m ≡ (q + n + 7) / 8
    → (refused (21 ∷ m ∷ []) ≡ write_rule s at n) × (s ≡ written s at v n)
unfolding write_rule
write_short s at v n q {m} h e g d =
    let r : refused (21 ∷ m ∷ []) ≡ write_rule s at n = rw (← e) (simp (le-ltb _ _ h, lt-ltb _ _ g, d)) in (r, kept s at v n r)

pub write_done : (s u : List ℕ) (at : Place) (v n q : ℕ) {p : Place} → ((j : ℕ) → get_or s j 0 < 256) → n ≤ 64 → q ≡ pos_of (length s) at → q + n ≤ length s * 8
    → p ≡ place_of (q + n) → u ≡ put_bits s q v n → (gave p ≡ write_rule s at n) × (u ≡ written s at v n)
unfolding write_rule
write_done s u at v n q {p} b h e g d f =
    let r : gave p ≡ write_rule s at n = rw (← e) (simp (le-ltb _ _ h, le-ltb _ _ g, d)) in
    (r, f ∙ ap (λ (x : ℕ). put_bits s x v n) e ∙ put s at v n b (omega arith) r)

-- ---- places
-- the place n bits on
pub place_on : (b r n : ℕ) → r < 8 → ◌≡◌ {A = Place} (record { byte = b + (r + n) / 8; bit = (r + n) % 8 }) (place_of (b * 8 + r + n))
place_on b r n h = ap₂ {C = Place} (λ (x y : ℕ). record { byte = x; bit = y }) (omega arith) (omega arith)

-- the place with q bits before it has q bits before it
pub pos-place : (len q : ℕ) → q ≤ len * 8 → pos_of len (place_of q) ≡ q
unfolding pos_of
pos-place len q h = go (ltb (q / 8) len) refl
  where
    go : (t : Bool) → ltb (q / 8) len ≡ t → cond t (cond (ltb (q % 8) 8) (q / 8 * 8 + q % 8) (len * 8)) (len * 8) ≡ q
    go true e = rw (lt-ltb (q % 8) 8 (omega arith)) (omega arith)
    go false e = omega (arith, ltb-false (q / 8) len e)

pub pos_le : (len : ℕ) (at : Place) → pos_of len at ≤ len * 8
unfolding pos_of
pos_le len at = go (ltb at.byte len) refl (ltb at.bit 8) refl
  where
    go : (t : Bool) → ltb at.byte len ≡ t → (u : Bool) → ltb at.bit 8 ≡ u → cond t (cond u (at.byte * 8 + at.bit) (len * 8)) (len * 8) ≤ len * 8
    go true e true f = omega (arith, ltb-true at.byte len e, ltb-true at.bit 8 f)
    go true e false f = omega arith
    go false e true f = omega arith
    go false e false f = omega arith

-- ---- what a caller learns of a read's answer
pub record Given (s : List ℕ) (at : Place) (n v : ℕ) (p : Place) : Type 0 where
  pub width : n ≤ 64
  pub within : pos_of (length s) at + n ≤ length s * 8
  pub value : v ≡ bits_at s (pos_of (length s) at) n
  pub place : p ≡ place_of (pos_of (length s) at + n)
  pub pos : pos_of (length s) p ≡ pos_of (length s) at + n

module _ (s : List ℕ) (at : Place) (n : ℕ) where
  abbrev found : Told Piece
  found = gave (record { value = nat_from 0 (take n (drop (pos_of (length s) at) (bits_of s))); next = place_of (pos_of (length s) at + n) })

  -- one law for the three cases: an answer x that is the rule's
  by_case : {X : Type 0} (x : Told Piece) → x ≡ read_rule s at n
      → (64 < n → x ≡ refused (23 ∷ []) → X)
      → (n ≤ 64 → length s * 8 < pos_of (length s) at + n → x ≡ refused (24 ∷ left_at (length s) at ∷ []) → X)
      → (n ≤ 64 → pos_of (length s) at + n ≤ length s * 8 → x ≡ found → X) → X
  unfolding read_rule
  by_case {X} x h a b c = go (ltb 64 n) refl (ltb (left_at (length s) at) n) refl h
    where
      go : (t : Bool) → ltb 64 n ≡ t → (u : Bool) → ltb (left_at (length s) at) n ≡ u
          → x ≡ cond t (refused (23 ∷ [])) (cond u (refused (24 ∷ left_at (length s) at ∷ [])) found) → X
      go true e u f g = a (ltb-true _ _ e) g
      go false e true f g = b (ltb-false _ _ e) (omega (arith, ltb-true (left_at (length s) at) n f, pos_le (length s) at)) g
      go false e false f g = c (ltb-false _ _ e) (omega (arith, ltb-false (left_at (length s) at) n f, pos_le (length s) at)) g

  pub given : {v : ℕ} {p : Place} → told_read (Ok (v, p)) ≡ read_rule s at n → Given s at n v p
  given {v} {p} h = by_case (told_read (Ok (v, p))) h
      (λ _ g. let z : ◌≡◌ {A = ℕ} 0 1 = cc in absurd (omega arith))
      (λ _ _ g. let z : ◌≡◌ {A = ℕ} 0 1 = cc in absurd (omega arith))
      (λ e w g. let same : ◌≡◌ {A = Piece} (record { value = v; next = p }) (record { value = nat_from 0 (take n (drop (pos_of (length s) at) (bits_of s))); next = place_of (pos_of (length s) at + n) }) = cc in
      let q : p ≡ place_of (pos_of (length s) at + n) = ap (λ (x : Piece). x.next) same in
      record { width = e; within = w; value = ap (λ (x : Piece). x.value) same ∙ from_at s (pos_of (length s) at) n w; place = q; pos = ap (pos_of (length s)) q ∙ pos-place (length s) (pos_of (length s) at + n) w })

  -- a read that was too short, and the bits left
  pub short : {left : ℕ} → told_read (Err (rv.Short left)) ≡ read_rule s at n → (length s * 8 < pos_of (length s) at + n) × (left ≡ left_at (length s) at)
  short {left} h = by_case (told_read (Err (rv.Short left))) h
      (λ _ g. let z : ◌≡◌ {A = ℕ} 23 24 = cc in absurd (omega arith))
      (λ _ w g. (w, cc))
      (λ _ _ g. let z : ◌≡◌ {A = ℕ} 0 1 = cc in absurd (omega arith))

  -- a width above 64
  pub too_wide : told_read (Err rv.Width) ≡ read_rule s at n → 64 < n
  too_wide h = by_case (told_read (Err rv.Width)) h
      (λ w _. w)
      (λ _ _ g. let z : ◌≡◌ {A = ℕ} 23 24 = cc in absurd (omega arith))
      (λ _ _ g. let z : ◌≡◌ {A = ℕ} 0 1 = cc in absurd (omega arith))
