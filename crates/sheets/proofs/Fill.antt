-- A sheet filled from its first question on.
use Prim.Native.Nat.{ℕ, ◌+◌, ◌<◌}
use mathlib.Core.Path.{◌≡◌, refl, sym, ◌∙◌, ap}
use mathlib.Core.List.{List, map}
use lib.ListN.{length, length-map, length-set, get_or, set}
use lib.Seq.{get_or-set_same, get_or-set_other}
use Rattle.told.specs.Told.{Told, gave}
use Rattle.lookup.specs.Find.{Partner, nothing}
use Rattle.questions.proofs.Answered.{answered_none, answered_more, answered_by}
use Rattle.sheets.specs.Sheet.{Sheet, Filled}

module _ {K P A : Type 0} (k : K) (find : K → Told (Partner P)) (stands : Partner P → A) (s : Sheet K A) where
  pub filled_none : Filled k find stands 0 s s
  filled_none = record { same_keys = refl; same_used = refl; same_length = refl; each = answered_none find stands _ _ }

  -- one more answer
  pub filled_more : (i : ℕ) (back : Sheet K A) (p : Partner P) → i < length s.answers → find (get_or back.keys i k) ≡ gave p
      → Filled k find stands i s back
      → Filled k find stands (i + 1) s (record { keys = back.keys; answers = set back.answers i (stands p); used = back.used })
  filled_more i back p l told f =
      let old = back.answers in
      let a = stands p in
      let d = stands nothing in
      record {
        same_keys = f.same_keys;
        same_used = f.same_used;
        same_length = length-set old i a ∙ f.same_length;
        each = answered_more find stands _ _ i (λ j. get_or old j d) (λ j. get_or (set old i a) j d) p
            (ap (λ (ks : List K). find (get_or ks i k)) (sym f.same_keys) ∙ told)
            (get_or-set_same old i a d (rw f.same_length l))
            (λ j other. get_or-set_other old i j a d other)
            f.each;
      }

-- an array of structs in a struct is held by the numbers of its elements: it has as many
pub unmapped : (A B : Type 0) (f : A → B) (l : List A) (n : ℕ) → length (map f l) ≡ n → length l ≡ n
unmapped A B f l n e = sym (length-map l f) ∙ e

-- by a lookup that gives the same
pub filled-by : {K P A : Type 0} (k : K) (find find' : K → Told (Partner P)) (stands : Partner P → A) (n : ℕ) (s back : Sheet K A)
    → ((x : K) → find x ≡ find' x) → Filled k find stands n s back → Filled k find' stands n s back
filled-by k find find' stands n s back same f = record {
  same_keys = f.same_keys;
  same_used = f.same_used;
  same_length = f.same_length;
  each = answered_by find find' stands n _ _ _ same f.each;
}
