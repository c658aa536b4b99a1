-- Values stored one after the other. Assumes nothing.
use Prim.Native.Nat.{ℕ, suc, ◌+◌, ◌-◌, ◌*◌, ◌≤◌, ◌<◌}
use mathlib.Core.Path.{◌≡◌, refl, sym, ap, ◌∙◌}
use mathlib.Core.Bool.{true}
use mathlib.Core.List.{List, [], ◌∷◌, ◌++◌, map}
use native.Mathlib.Nat.{zero-add}
use native.Mathlib.Numerals.{add-one}
use native.Mathlib.Omega.{arith}
use lib.IntN.{ℤ, pos}
use lib.ListN.{length, set, drop, length-map}
use lib.Seq.{sets, sets-eq}
use Rattle.told.specs.Over.{over}
use Rattle.bits.specs.declared.Place.{Place}
use Rattle.signed.proofs.Signs.{never}
use Rattle.gorilla.specs.Inner.{is_read, followed}
use Rattle.gorilla.specs.Parser.{Read, read, refused, and_then, read_or}
use Rattle.bits.specs.Inner.{bits_from}
use Rattle.gorilla.specs.Reading.{read_code, read_codes, values_after}
use Rattle.gorilla.specs.declared.Track.{Track}
use Rattle.gorilla.proofs.Readers.{codes_next}
use Rattle.array_reader.specs.Inner.{array_at, passed_at}
use Rattle.array_reader.specs.declared.array.Stretch.{Stretch}
use Rattle.array_filler.specs.Inner.{ahead}
use Rattle.array_filler.specs.declared.fill.Cursor.{Cursor}
use Rattle.array_reader.proofs.Arrays.{array_length, array_first, array_none}

-- values stored from the start on, and past them what stood there
pub sets_over : {A : Type 0} (vs xs : List A) → length vs ≤ length xs → sets xs 0 vs ≡ over vs xs
sets_over {A} vs xs h = sets-eq vs xs 0 (rw (zero-add) h) ∙ ap (λ (k : ℕ). vs ++ drop k xs) (zero-add (length vs))

module _ {A : Type 0} (f : ℤ → A) where
  -- the array, once all that is left to read is stored from i on
  abbrev pub filled : List A → ℕ → Track → Read (List ℤ) → List A
  filled out i t r = sets out i (map f (values_after t.prev t.delta (read_or [] r)))

  Next : List A → ℕ → Track → ℤ → Read (List ℤ) → Read (List ℤ) → Type 0
  Next out i t d r q = (is_read q ≡ true) × (filled (set out i (f (followed t d).prev)) (i + 1) (followed t d) q ≡ filled out i t r)

  next : (out : List A) (i : ℕ) (t : Track) (d : ℤ) (q : Read (List ℤ)) → is_read (and_then q (λ ds r. read (d ∷ ds) r)) ≡ true → Next out i t d (and_then q (λ ds r. read (d ∷ ds) r)) q
  unfolding Next values_after
  next out i t d (read ds bs) h = (refl, rw (add-one i))
  next out i t d (refused l) h = never h

  pub fill_next : (all a : ℕ) (out : List A) (i k : ℕ) (t : Track) (bs : List ℕ) {d : ℤ} {q : List ℕ} → read d q ≡ read_code all a i bs → is_read (read_codes all a (suc k) i bs) ≡ true
      → (is_read (read_codes all a k (i + 1) q) ≡ true)
      × (filled (set out i (f (followed t d).prev)) (i + 1) (followed t d) (read_codes all a k (i + 1) q) ≡ filled out i t (read_codes all a (suc k) i bs))
  unfolding Next
  fill_next all a out i k t bs {d} {q} h r =
      let e = codes_next all a k i bs h in
      let n = next out i t d (read_codes all a k (i + 1) q) (ap is_read (sym e) ∙ r) in
      (n.0, n.1 ∙ ap (filled out i t) (sym e))

-- all codes from index i on are there, and stored they make the whole array
abbrev pub Left : {A : Type 0} → (ℤ → A) → List ℕ → Stretch → List A → Cursor → List A → ℕ → Cursor → Type 0
Left f s part out₀ c₀ out i c = (a : ℕ) → passed_at s a part.count part.at
    → (is_read (read_codes (length s * 8) a (part.count - i) i (ahead s c)) ≡ true)
    × (filled f out i c.track (read_codes (length s * 8) a (part.count - i) i (ahead s c)) ≡ filled f out₀ 1 c₀.track (read_codes (length s * 8) a (part.count - 1) 1 (ahead s c₀)))

-- the whole array, once its first value is stored and the others follow
pub filled-over : {A : Type 0} (f : ℤ → A) (s : List ℕ) (a n : ℕ) (x : ℤ) (q : Place) (out : List A) → 1 ≤ n → n ≤ length out → passed_at s a n q
    → filled f (set out 0 (f x)) 1 (record { prev = x; delta = pos 0 }) (read_codes (length s * 8) a (n - 1) 1 (bits_from s q)) ≡ over (map f (array_at s a n x q)) out
filled-over f s a n x q out h k p =
    let l : length (map f (array_at s a n x q)) ≡ n = length-map (array_at s a n x q) f ∙ array_length s a n x q p in
    ap (λ (ys : List ℤ). sets out 0 (map f ys)) (sym (array_first s a n x q h)) ∙ sets_over (map f (array_at s a n x q)) out (omega (arith, l))

pub none_over : {A : Type 0} (f : ℤ → A) (s : List ℕ) (a n : ℕ) (x : ℤ) (q : Place) (out : List A) → n ≡ 0 → out ≡ over (map f (array_at s a n x q)) out
none_over {A} f s a n x q out h = ap (λ (ys : List ℤ). over (map f ys) out) (sym (array_none s a n x q h))

-- the first of codes that are all there is there
pub first-there : (all a i k : ℕ) (bs : List ℕ) → is_read (read_codes all a (suc k) i bs) ≡ true → is_read (read_code all a i bs) ≡ true
unfolding read_codes
first-there all a i k bs h = go (read_code all a i bs) h
  where
    go : (c : Read ℤ) → is_read (and_then c (λ d r. and_then (read_codes all a k (i + 1) r) (λ ds cs. read (d ∷ ds) cs))) ≡ true → is_read c ≡ true
    go (read d r) g = refl
    go (refused l) g = g

-- the codes that are left from index i on, where one at least is left
pub there_left : (all a n i : ℕ) (bs : List ℕ) → i < n → is_read (read_codes all a (n - i) i bs) ≡ true → is_read (read_codes all a (suc (n - (i + 1))) i bs) ≡ true
there_left all a n i bs l h = let e : suc (n - (i + 1)) ≡ n - i = omega arith in ap (λ (k : ℕ). is_read (read_codes all a k i bs)) e ∙ h

-- what is there is not refused
pub there_not : {X : Type 0} (r : Read ℤ) {l : List ℕ} → refused l ≡ r → is_read r ≡ true → X
there_not r h e = never (ap is_read h ∙ e)
