-- Each sequence that is read of an image is a u64, whoever wrote its bytes.
use mathlib.Core.Path.{◌≡◌, refl}
use mathlib.Core.Bool.{Bool, true, false}
use mathlib.Core.List.{List, [], ◌∷◌, map}
use Prim.Native.Nat.{ℕ, zero, suc, ◌-◌, ◌<◌, ◌^◌}
use native.Mathlib.Omega.{arith}
use borrow.Author.Tests.{ltb-true}
use lib.Dec.{ltb}
use lib.IntN.{ℤ, pos, negsuc}
use lib.ListN.{length, get_or}
use mir.Val.{sel}
use Rattle.signed.specs.Signed.{signed, pattern, add_w, add_s}
use Rattle.gorilla.specs.Parser.{read, require, take_bits, item}
use Rattle.gorilla.specs.Reading.{read_codes, values_after, read_values, read_array, Pairs, read_image}
use Rattle.gorilla.proofs.Counts.{both}
use Rattle.gorilla.proofs.Ignored.{padding_ignored}

pattern_small : (u : ℕ) → pattern (signed u) < 2 ^ 64
pattern_small u = go (ltb u (2 ^ 63)) refl
  where
    go : (b : Bool) → ltb u (2 ^ 63) ≡ b → pattern (sel b (pos u) (negsuc (2 ^ 64 - suc u))) < 2 ^ 64
    go true e = omega (arith, ltb-true u (2 ^ 63) e)
    go false e = omega arith

after_small : (p e : ℤ) (ds : List ℤ) (j : ℕ) → get_or (map pattern (values_after p e ds)) j 0 < 2 ^ 64
unfolding values_after
after_small p e [] j = omega arith
after_small p e (d ∷ ds) zero = pattern_small (add_w (pattern p) (pattern (add_s e d)))
after_small p e (d ∷ ds) (suc j) = after_small (add_s p (add_s e d)) (add_s e d) ds j

values_small : (all a n : ℕ) (bs : List ℕ) {xs : List ℤ} {left : List ℕ} → read_values all a n bs ≡ read xs left → (j : ℕ) → get_or (map pattern xs) j 0 < 2 ^ 64
unfolding read_values
values_small all a zero bs {xs} h j = let e : [] ≡ xs = cc in rw (← e) (omega arith)
values_small all a (suc k) bs {xs} h j =
    let one = both (item all (take_bits 64 (5 ∷ a ∷ [])) bs) _ h in
    let more = both (read_codes all a k 1 one.between) _ one.second in
    let e : signed one.value ∷ values_after (signed one.value) (pos 0) more.value ≡ xs = cc in
    rw (← e) (go one.value more.value j)
  where
    go : (v : ℕ) (ds : List ℤ) (j : ℕ) → get_or (map pattern (signed v ∷ values_after (signed v) (pos 0) ds)) j 0 < 2 ^ 64
    go v ds zero = pattern_small v
    go v ds (suc j) = after_small (signed v) (pos 0) ds j

pub seqs_small : (room : ℕ → Bool) (bytes left : List ℕ) (p : Pairs) → read_image room bytes ≡ read p left → (j : ℕ) → get_or p.seqs j 0 < 2 ^ 64
unfolding read_array
seqs_small room bytes left p h j =
    let q = padding_ignored room bytes left p h in
    let one = both (item (length q.seqs) (take_bits 32 (4 ∷ 0 ∷ [])) q.seqs) _ q.seqs_read in
    let more = both (require (room one.value) (10 ∷ 0 ∷ []) one.between) _ one.second in
    rw q.patterns (values_small (length q.seqs) 0 one.value more.between more.second j)
