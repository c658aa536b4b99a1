-- What is written is read as `received`, and a difference is wide exactly where that is not what was written: the round trip, both ways. Assumes nothing.
use Prim.Native.Nat.{ℕ, suc, ◌+◌, ◌*◌, ◌<◌, ◌^◌}
use mathlib.Core.Path.{◌≡◌, refl, sym, ap, ap₂, ◌∙◌}
use mathlib.Core.Bool.{Bool, true, false, cond}
use mathlib.Core.Logic.{◌↔◌}
use mathlib.Core.List.{List, [], ◌∷◌, ◌++◌, map}
use native.Mathlib.Omega.{arith}
use lib.ListN.{length, get_or, length-map, get_or-eq_default}
use lib.IntN.{ℤ, pos}
use mir.Syntax.{w64}
use mir.Val.{SFits}
use Rattle.told.specs.Told.{Told, gave, refused, if_good}
use Rattle.told.proofs.Unique.{given_not_refused, same-list}
use Rattle.signed.specs.Signed.{signed, pattern, add_s, sub_s}
use Rattle.gorilla.specs.Rows.{strict}
use Rattle.signed.proofs.Wrapping.{pattern-signed, signed-pattern}
use Rattle.bit_lists.specs.BitList.{bits_of}
use Rattle.gorilla.specs.Parser.{read}
use Rattle.gorilla.specs.Format.{image_bytes}
use Rattle.gorilla.specs.Reading.{Pairs, read_image, values_after}
use Rattle.gorilla.proofs.Rows.{by_le}
use Rattle.gorilla.proofs.Trip.{add_s-fits, AllFit, Strict, StrictAfter, received, sent_after, round_trip, strict_if_back}
use Rattle.gorilla.proofs.ImageTrip.{image_trip, fits_signed, length_received}
use Rattle.gorilla.specs.Wide.{wide_after, wide_in, wide_of}
use Rattle.gorilla.specs.RoundTrip.{Fit, StrictReadsBack, OthersDoNot}

-- what the list reader makes of pairs that were written
unfoldable pub received_pairs : Pairs → Pairs
received_pairs p = record { seqs = map pattern (received (map signed p.seqs)); secs = received p.secs }

pub received_lengths : (p : Pairs) → (length (received_pairs p).seqs ≡ length p.seqs) × (length (received_pairs p).secs ≡ length p.secs)
unfolding received_pairs
received_lengths p = (
  length-map (received (map signed p.seqs)) pattern ∙ length_received (map signed p.seqs) ∙ length-map p.seqs signed,
  length_received p.secs,
)

all_small : (us : List ℕ) → ((i : ℕ) → i < length us → get_or us i 0 < 2 ^ 64) → (j : ℕ) → get_or us j 0 < 2 ^ 64
all_small us f j = by_le (length us) j (λ h. rw (get_or-eq_default us 0 h) (omega arith)) (f j)

all_fit : (xs : List ℤ) → ((i : ℕ) → i < length xs → SFits w64 (get_or xs i (pos 0))) → AllFit xs
unfolding AllFit
all_fit [] f = tt
all_fit (x ∷ xs) f = (f 0 (omega arith), all_fit xs (λ i h. f (suc i) (omega arith)))

pub reads : (p : Pairs) (room : ℕ → Bool) (following : List ℕ) → Fit p → room (length p.seqs) ≡ true
    → read_image room (image_bytes p.seqs p.secs ++ following) ≡ read (received_pairs p) (bits_of following)
unfolding received_pairs
reads p room following F r = image_trip (length (image_bytes p.seqs p.secs ++ following) * 8) room p.seqs p.secs following (all_small p.seqs F.seqs64) (all_fit p.secs F.secs64) F.same F.few r

-- ---- wide differences

both_good : (a b : Told (Unit {0})) → if_good a b ≡ gave tt → (a ≡ gave tt) × (b ≡ gave tt)
both_good (gave tt) b h = (refl, h)
both_good (refused l) b h = given_not_refused (sym h)

strict-good : (b : Bool) (t : Told (Unit {0})) (l : List ℕ) → cond b t (refused l) ≡ gave tt → (b ≡ true) × (t ≡ gave tt)
strict-good true t l h = (refl, h)
strict-good false t l h = given_not_refused (sym h)

good-after : (a i : ℕ) (p e : ℤ) (xs : List ℤ) → wide_after a i p e xs ≡ gave tt → StrictAfter p e xs
unfolding wide_after StrictAfter
good-after a i p e [] h = tt
good-after a i p e (x ∷ xs) h =
    let k = strict-good (strict (sub_s (sub_s x p) e)) (wide_after a (i + 1) x (sub_s x p) xs) (20 ∷ a ∷ i ∷ []) h in
    (k.0, good-after a (i + 1) x (sub_s x p) xs k.1)

after-good : (a i : ℕ) (p e : ℤ) (xs : List ℤ) → StrictAfter p e xs → wide_after a i p e xs ≡ gave tt
unfolding wide_after StrictAfter
after-good a i p e [] h = refl
after-good a i p e (x ∷ xs) (h, k) = rw h (after-good a (i + 1) x (sub_s x p) xs k)

good_in : (a : ℕ) (xs : List ℤ) → wide_in a xs ≡ gave tt → Strict xs
unfolding wide_in Strict
good_in a [] h = tt
good_in a (x ∷ xs) h = good-after a 1 x (pos 0) xs h

in_good : (a : ℕ) (xs : List ℤ) → Strict xs → wide_in a xs ≡ gave tt
unfolding wide_in Strict
in_good a [] h = refl
in_good a (x ∷ xs) h = after-good a 1 x (pos 0) xs h

-- the number that is told is 20
number_here : (b : Bool) (t : Told (Unit {0})) (a i : ℕ) (what : List ℕ) → (t ≡ refused what → get_or what 0 0 ≡ 20)
    → cond b t (refused (20 ∷ a ∷ i ∷ [])) ≡ refused what → get_or what 0 0 ≡ 20
number_here true t a i what f h = f h
number_here false t a i what f h = ap (λ (l : List ℕ). get_or l 0 0) (sym (same-list h))

number-after : (a i : ℕ) (p e : ℤ) (xs : List ℤ) (what : List ℕ) → wide_after a i p e xs ≡ refused what → get_or what 0 0 ≡ 20
unfolding wide_after
number-after a i p e [] what h = given_not_refused h
number-after a i p e (x ∷ xs) what h =
    number_here (strict (sub_s (sub_s x p) e)) (wide_after a (i + 1) x (sub_s x p) xs) a i what (number-after a (i + 1) x (sub_s x p) xs what) h

number_in : (a : ℕ) (xs : List ℤ) (what : List ℕ) → wide_in a xs ≡ refused what → get_or what 0 0 ≡ 20
unfolding wide_in
number_in a [] what h = given_not_refused h
number_in a (x ∷ xs) what h = number-after a 1 x (pos 0) xs what h

pub number_20 : (seqs : List ℕ) (secs : List ℤ) (what : List ℕ) → wide_of seqs secs ≡ refused what → get_or what 0 0 ≡ 20
unfolding wide_of
number_20 seqs secs what = go (wide_in 0 (map signed seqs)) refl
  where
    go : (t : Told (Unit {0})) → wide_in 0 (map signed seqs) ≡ t → if_good t (wide_in 1 secs) ≡ refused what → get_or what 0 0 ≡ 20
    go (gave tt) e h = number_in 1 secs what h
    go (refused l) e h = number_in 0 (map signed seqs) what (e ∙ h)

-- ---- bit patterns and back

patterns : (us : List ℕ) → ((j : ℕ) → get_or us j 0 < 2 ^ 64) → map pattern (map signed us) ≡ us
patterns [] f = refl
patterns (u ∷ us) f = ap₂ (λ (x : ℕ) (l : List ℕ). x ∷ l) (pattern-signed u (f 0)) (patterns us (λ j. f (suc j)))

signs : (xs : List ℤ) → AllFit xs → map signed (map pattern xs) ≡ xs
unfolding AllFit
signs [] f = refl
signs (x ∷ xs) (f, g) = ap₂ (λ (y : ℤ) (l : List ℤ). y ∷ l) (signed-pattern x f) (signs xs g)

values_fit : (p e : ℤ) (ds : List ℤ) → AllFit (values_after p e ds)
unfolding AllFit values_after
values_fit p e [] = tt
values_fit p e (d ∷ ds) = (add_s-fits p (add_s e d), values_fit (add_s p (add_s e d)) (add_s e d) ds)

received_fit : (xs : List ℤ) → AllFit xs → AllFit (received xs)
unfolding AllFit received
received_fit [] f = tt
received_fit (x ∷ xs) (f, g) = (f, values_fit x (pos 0) (sent_after x (pos 0) xs))

pub exact : (p : Pairs) → Fit p → (wide_of p.seqs p.secs ≡ gave tt) ↔ (received_pairs p ≡ p)
unfolding wide_of received_pairs
exact p F = (there, back)
  where
    small : (j : ℕ) → get_or p.seqs j 0 < 2 ^ 64
    small = all_small p.seqs F.seqs64

    fit₀ : AllFit (map signed p.seqs)
    fit₀ = fits_signed p.seqs small

    fit₁ : AllFit p.secs
    fit₁ = all_fit p.secs F.secs64

    there : wide_of p.seqs p.secs ≡ gave tt → received_pairs p ≡ p
    there h =
        let k = both_good (wide_in 0 (map signed p.seqs)) (wide_in 1 p.secs) h in
        λ i. record {
          seqs = (ap (map pattern) (round_trip (map signed p.seqs) fit₀ (good_in 0 (map signed p.seqs) k.0)) ∙ patterns p.seqs small) i;
          secs = round_trip p.secs fit₁ (good_in 1 p.secs k.1) i;
        }

    back : received_pairs p ≡ p → wide_of p.seqs p.secs ≡ gave tt
    back h =
        let a = ap (λ (r : Pairs). map signed r.seqs) h in
        let s₀ = strict_if_back (map signed p.seqs) fit₀ (sym (signs (received (map signed p.seqs)) (received_fit (map signed p.seqs) fit₀)) ∙ a) in
        let s₁ = strict_if_back p.secs fit₁ (ap (λ (r : Pairs). r.secs) h) in
        rw (in_good 0 (map signed p.seqs) s₀) (in_good 1 p.secs s₁)

pub strict_reads_back : StrictReadsBack
strict_reads_back p room following F r w = reads p room following F r ∙ ap (λ (q : Pairs). read q (bits_of following)) ((exact p F).0 w)

pub others_do_not : OthersDoNot
others_do_not p room following F r w = (received_pairs p, reads p room following F r, λ h. w ((exact p F).1 h))
