-- The rules by cases, for the calls' proofs and for their callers. Assumes nothing.
use Prim.Native.Nat.{ℕ, ◌≤◌, ◌<◌}
use mathlib.Core.Path.{◌≡◌, refl, sym, ◌∙◌}
use mathlib.Core.Bool.{Bool, true, false, cond, not}
use mathlib.Core.List.{List, [], ◌∷◌}
use borrow.Author.Tests.{lt-ltb, le-ltb, ltb-true, ltb-false, eqb-true, eqb-false, eq-eqb, ne_eqb}
use lib.Dec.{eqb, ltb}
use lib.ListN.{length}
use lib.IntN.{ℤ}
use Rattle.told.specs.Told.{Told, gave, refused}
use Rattle.told.proofs.Unique.{given_not_refused, same_gift}
use Rattle.encoder.specs.Encode.{arrays_rule}

module _ (seqs : List ℕ) (secs : List ℤ) where
  pub differ : (next : Told ℕ) → (length seqs ≡ length secs → ⊥) → refused (18 ∷ []) ≡ arrays_rule seqs secs next
  unfolding arrays_rule
  differ next h = simp (ne_eqb _ _ h)

  pub many : (next : Told ℕ) → length seqs ≡ length secs → 65536 < length seqs → refused (19 ∷ []) ≡ arrays_rule seqs secs next
  unfolding arrays_rule
  many next e h = simp (eq-eqb _ _ e, lt-ltb _ _ h)

  pub passed : (next : Told ℕ) → length seqs ≡ length secs → length seqs ≤ 65536 → arrays_rule seqs secs next ≡ next
  unfolding arrays_rule
  passed next e h = simp (eq-eqb _ _ e, le-ltb _ _ h)

  -- the cases of what the rule tells
  by_case : {X : Type 0} (next x : Told ℕ) → x ≡ arrays_rule seqs secs next
      → ((length seqs ≡ length secs → ⊥) → x ≡ refused (18 ∷ []) → X)
      → (length seqs ≡ length secs → 65536 < length seqs → x ≡ refused (19 ∷ []) → X)
      → (length seqs ≡ length secs → length seqs ≤ 65536 → x ≡ next → X) → X
  unfolding arrays_rule
  by_case {X} next x h a b c = go (eqb (length seqs) (length secs)) refl (ltb 65536 (length seqs)) refl h
    where
      go : (t : Bool) → eqb (length seqs) (length secs) ≡ t → (u : Bool) → ltb 65536 (length seqs) ≡ u
          → x ≡ cond (not t) (refused (18 ∷ [])) (cond u (refused (19 ∷ [])) next) → X
      go false e u f g = a (eqb-false _ _ e) g
      go true e true f g = b (eqb-true _ _ e) (ltb-true _ _ f) g
      go true e false f g = c (eqb-true _ _ e) (ltb-false _ _ f) g

  -- a length that is given: the arrays are of one length, of at most 65,536 values
  pub record Passed (bytes n : ℕ) : Type 0 where
    pub same : length seqs ≡ length secs
    pub few : length seqs ≤ 65536
    pub bytes_are : n ≡ bytes

  pub len_given : (bytes n : ℕ) → gave n ≡ arrays_rule seqs secs (gave bytes) → Passed bytes n
  len_given bytes n h = by_case (gave bytes) (gave n) h
      (λ _ g. given_not_refused g)
      (λ _ _ g. given_not_refused g)
      (λ e f g. record { same = e; few = f; bytes_are = same_gift g })

  -- one that is refused: so is whatever follows
  pub len_refused : (bytes : ℕ) (l : List ℕ) (next : Told ℕ) → refused l ≡ arrays_rule seqs secs (gave bytes) → refused l ≡ arrays_rule seqs secs next
  len_refused bytes l next h = by_case (gave bytes) (refused l) h
      (λ e g. g ∙ differ next e)
      (λ e f g. g ∙ many next e f)
      (λ _ _ g. given_not_refused (sym g))
