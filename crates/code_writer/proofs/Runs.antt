-- Runs of zero codes: values that are each above the one before by the delta that led to the first of them. Assumes nothing.
use Rattle.std.proofs.Common.{◌≡◌, ℕ, ◌+◌, ◌-◌, ◌<◌, ◌≤◌, List, ◌∷◌, ◌++◌, map, length, get_or, drop, ℤ, pos, w64, SFits, refl, sym, ap, ap₂, ◌∙◌, subst, arith, append_assoc, length-append, drop_of_length-le, drop-cons, add-one}
use Rattle.std.proofs.lemmas.List.{map-append}
use native.Mathlib.Nat.{add-zero, add_assoc}
use lib.ListN.{length-map}
use lib.Pow.{pow_pos}
use mir.Facts.{Fits-of_z}
use Rattle.signed.specs.Signed.{signed, pattern, sub_w, sub_s, add_s}
use Rattle.gorilla.specs.declared.Track.{Track}
use Rattle.gorilla.specs.Inner.{advanced}
use Rattle.bit_lists.specs.BitList.{nat_bits}
use Rattle.gorilla.specs.Format.{codes_bits}
use Rattle.gorilla.proofs.Trip.{add_s-fits, sub_s-add_s}
use Rattle.gorilla.proofs.Walk.{stored_at}
use Rattle.code_writer.specs.Inner.{Leads, Run}
use Rattle.code_writer.proofs.Once.{nat_join, zero-code}
use Rattle.code_writer.proofs.Codes.{leads_one}

-- ---- one value: the delta is as before, and its difference 0
sub_self : (e : ℤ) → SFits w64 e → sub_s e e ≡ pos 0
sub_self e g = let k : sub_w (pattern e) (pattern e) ≡ 0 = omega (arith, (Fits-of_z g).fits) in ap signed k

zero_one : (x : ℤ) (xs : List ℤ) (v e : ℤ) → SFits w64 v → SFits w64 e → x ≡ add_s v e → Leads (x ∷ xs) (record { prev = v; delta = e }) (nat_bits 1 0) xs (record { prev = x; delta = e })
zero_one x xs v e f g k =
    let t : Track = record { prev = v; delta = e } in
    let d : sub_s x v ≡ e = ap (λ (y : ℤ). sub_s y v) k ∙ sub_s-add_s e v g f in
    leads_one x xs t (advanced t x) (sub_s (sub_s x v) e) refl refl (nat_bits 1 0) (zero-code _ (ap (λ (y : ℤ). sub_s y e) d ∙ sub_self e g))
    ∙ ap (λ (y : ℤ). nat_bits 1 0 ++ codes_bits x y xs) d

-- ---- the first n of xs, of which v is the last, or the value before them where n is 0; ys are the others
pub record Zeros (xs : List ℤ) (t : Track) (n : ℕ) (v : ℤ) (ys : List ℤ) : Type 0 where
  pub fits : SFits w64 v
  pub zeros : Leads xs t (nat_bits n 0) ys (record { prev = v; delta = t.delta })

pub zeros_none : (xs : List ℤ) (t : Track) → SFits w64 t.prev → Zeros xs t 0 t.prev xs
unfolding nat_bits
zeros_none xs t f = record { fits = f; zeros = refl }

pub zeros_more : (xs : List ℤ) (t : Track) (n : ℕ) (v x : ℤ) (ys : List ℤ) → Zeros xs t n v (x ∷ ys) → SFits w64 t.delta → x ≡ add_s v t.delta → Zeros xs t (n + 1) x ys
zeros_more xs t n v x ys r g k =
    let E : List ℕ = codes_bits x t.delta ys in record {
      fits = subst (SFits w64) (sym k) (add_s-fits v t.delta);
      zeros = r.zeros ∙ ap (λ (l : List ℕ). nat_bits n 0 ++ l) (zero_one x ys v t.delta r.fits g k) ∙ sym (append_assoc (nat_bits n 0) (nat_bits 1 0) E)
          ∙ ap (λ (l : List ℕ). l ++ E) (sym (nat_join n 1 0 0 (pow_pos n) (omega arith)));
    }

-- ---- a walk over the values of a run, where f gives what is stored of each
-- those from index i on, and the others after them
abbrev pub left : {A : Type 0} → (A → ℤ) → List A → List A → ℕ → List ℤ
left f run rest i = drop i (map f run) ++ map f rest

module _ {A : Type 0} (f : A → ℤ) (values run rest : List A) (cut : values ≡ run ++ rest) (t : Track) where
  pub run_first : (v : ℤ) → SFits w64 t.prev → v ≡ t.prev → Zeros (map f values) t 0 v (left f run rest 0)
  run_first v g e =
      subst (λ (y : ℤ). Zeros (map f values) t 0 y (map f run ++ map f rest)) (sym e)
      (subst (Zeros (map f values) t 0 t.prev) (ap (map f) cut ∙ map-append f run rest) (zeros_none (map f values) t g))

  pub run_next : (i : ℕ) (v z : ℤ) (x : A) → i < length run → x ≡ get_or run i x → Zeros (map f values) t i v (left f run rest i) → SFits w64 t.delta → f x ≡ z → z ≡ add_s v t.delta
      → Zeros (map f values) t (i + 1) z (left f run rest (i + 1))
  run_next i v z x h at r g is k =
      let e : left f run rest i ≡ z ∷ left f run rest (i + 1) = ap (λ (l : List ℤ). l ++ map f rest) (stored_at f run i x h at) ∙ ap (λ (y : ℤ). y ∷ left f run rest (i + 1)) is in
      zeros_more (map f values) t i v z (left f run rest (i + 1)) (subst (Zeros (map f values) t i v) e r) g k

  pub run_last : (i : ℕ) (v : ℤ) → length run ≡ 7 → i ≡ 7 → Zeros (map f values) t i v (left f run rest i) → Run (map f values) t (map f rest) (record { prev = v; delta = t.delta })
  run_last i v h e r =
      let k : length (map f run) ≤ i = omega (arith, h, e, length-map run f) in
      let none : left f run rest i ≡ map f rest = ap (λ (l : List ℤ). l ++ map f rest) (drop_of_length-le (map f run) k) in
      let zeros : Leads (map f values) t (nat_bits 7 0) (map f rest) (record { prev = v; delta = t.delta }) =
      r.zeros ∙ ap₂ (λ (n : ℕ) (l : List ℤ). nat_bits n 0 ++ codes_bits v t.delta l) e none in
      (omega (arith, ap length cut, length-append run rest, h, length-map values f, length-map rest f), zeros)

-- ---- the same by index: n values from index i on, of which v is the last, or p where there is none
pub record RunAt (xs : List ℤ) (i : ℕ) (p e : ℤ) (n : ℕ) (v : ℤ) : Type 0 where
  pub fits : SFits w64 v
  pub last : 1 ≤ n → v ≡ get_or xs (i + n - 1) (pos 0)
  pub zeros : Leads (drop i xs) (record { prev = p; delta = e }) (nat_bits n 0) (drop (i + n) xs) (record { prev = v; delta = e })

pub run_none : (xs : List ℤ) (i : ℕ) (p e : ℤ) → SFits w64 p → RunAt xs i p e 0 p
unfolding nat_bits
run_none xs i p e f = record { fits = f; last = λ h. absurd (omega (arith, h)); zeros = ap (λ (k : ℕ). codes_bits p e (drop k xs)) (sym (add-zero i)) }

pub run_more : (xs : List ℤ) (i : ℕ) (p e : ℤ) (n : ℕ) (v x : ℤ) → RunAt xs i p e n v → SFits w64 e → i + n < length xs → x ≡ add_s v e → get_or xs (i + n) (pos 0) ≡ x
    → RunAt xs i p e (n + 1) x
run_more xs i p e n v x r g h k l =
    let t : Track = record { prev = p; delta = e } in
    let rest : List ℤ = drop (i + (n + 1)) xs in
    let here : drop (i + n) xs ≡ x ∷ rest =
    drop-cons xs (i + n) (pos 0) h ∙ ap₂ (λ (y : ℤ) (m : ℕ). y ∷ drop m xs) l (sym (add-one (i + n)) ∙ add_assoc i n 1) in
    let before : Zeros (drop i xs) t n v (x ∷ rest) = record {
      fits = r.fits;
      zeros = subst (λ (ys : List ℤ). Leads (drop i xs) t (nat_bits n 0) ys (record { prev = v; delta = e })) here r.zeros;
    } in
    let after = zeros_more (drop i xs) t n v x rest before g k in
    let j : i + n ≡ i + (n + 1) - 1 = omega arith in
    record { fits = after.fits; last = λ _. sym l ∙ ap (λ (m : ℕ). get_or xs m (pos 0)) j; zeros = after.zeros }
