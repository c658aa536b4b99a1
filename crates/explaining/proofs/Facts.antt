-- The facts that a reason names hold exactly of the reason that the rule gives.
use mathlib.Core.Path.{◌≡◌, refl, ◌∙◌, ap}
use mathlib.Core.Logic.{⊎_elim}
use mathlib.Core.Bool.{Bool, true, false, cond}
use mathlib.Core.List.{List}
use Prim.Native.Nat.{ℕ, ◌-◌, ◌≤◌, ◌<◌}
use native.Mathlib.Nat.{le_refl, pos_of_ne-zero}
use native.Mathlib.Omega.{arith}
use borrow.Author.Tests.{lt-ltb, le-ltb, ltb-true, ltb-false, eq-eqb, eqb-true, eqb-false, ne_eqb}
use lib.Arith.{lt_of_le-ne}
use lib.Dec.{ltb, eqb}
use Rattle.std.specs.Prelude.{Option, None, Some, unwrap_or}
use Rattle.order.specs.First.{first_from, last_or, first, final}
use Rattle.order.specs.Order.{drops}
use Rattle.order.specs.Inner.{NoneBelow}
use Rattle.order.proofs.Bools.{other, true_false, below_or}
use Rattle.order.proofs.First.{first_is, first_holds, first_least}
use Rattle.order.proofs.Last.{final_is, final_holds, final-most, final-out}
use Rattle.order.proofs.Order.{Order}
use Rattle.search.specs.Inner.{among}
use Rattle.search.specs.Keys.{greater}
use Rattle.lookup.specs.Find.{Partner, partner, nothing, standing, place}
use Rattle.lookup.specs.Laws.{equal}
use Rattle.lookup.specs.declared.FindOption.{FindOption}
use Rattle.lookup.specs.declared.FindOption.TheVariants.{RoundUp, RoundDown}
use Rattle.lookup.proofs.Place.{in_words_lem}
use Rattle.lookup.proofs.Taken.{place_among}
use Rattle.explaining.specs.Reason.{before, below, beside, some_equal, reason_of}
use Rattle.explaining.specs.Laws.{EqualAt, Between, Holds, Parts, AllKeys, answer_by}
use Rattle.explaining.specs.Inner.{answering}
use Rattle.explaining.specs.declared.Reason.{Reason}
use Rattle.explaining.specs.declared.Reason.TheVariants.{Exact, RoundedUp, RoundedDown, BeforeFirst, AfterLast, Empty}
use Rattle.explaining.proofs.Parts.{equal-reason, parts-reason, parts-place, parts-between, parts_first, parts_last, parted}

module _ {K : Type 0} (lt : K → K → Bool) (O : Order lt) (d : K) (keys : List K) (n : ℕ) (x : K) (sorted : NoneBelow (drops lt d keys) n) where
  -- the position that answers is, of the equal keys, the one that the rounding takes
  place-of-equal : (opt : FindOption) (p : ℕ) → EqualAt lt d keys n x opt p → place lt d opt keys n x ≡ p
  place-of-equal RoundUp p E =
      let w = E.within in
      let f = first_is (equal lt d keys x) n p (omega arith) (λ j h. other (equal lt d keys x j) (λ e. let o = E.outermost j (omega arith) e in omega arith)) (λ _. E.equals) in
      in_words_lem lt O d keys n x sorted RoundUp ∙ rw (f, lt-ltb p n w)
  place-of-equal RoundDown p E =
      let w = E.within in
      let f = final_is (equal lt d keys x) n p w E.equals (λ j a l. other (equal lt d keys x j) (λ e. let o = E.outermost j l e in omega arith)) in
      in_words_lem lt O d keys n x sorted RoundDown ∙ rw (f, lt-ltb p n w)

  -- ---- what holds is the reason that the rule gives

  up-between : (b a : ℕ) → Between lt d keys n x b a → beside RoundUp a n ≡ RoundedUp (Some b) a
  up-between b a B =
      let e = B.adjacent in
      let w = B.within in
      let f : a - 1 ≡ b = omega arith in
      rw (ne_eqb a n (λ z. omega arith), ne_eqb a 0 (λ z. omega arith), f)

  down-between : (b a : ℕ) → Between lt d keys n x b a → beside RoundDown a n ≡ RoundedDown b (Some a)
  down-between b a B =
      let e = B.adjacent in
      let w = B.within in
      let f : a - 1 ≡ b = omega arith in
      rw (ne_eqb a 0 (λ z. omega arith), lt-ltb a n w, f)

  pub holds_is : (opt : FindOption) (r : Reason) → Holds lt d keys n x opt r → reason_of lt d opt keys n x ≡ r
  holds_is opt (Exact p) E = equal-reason lt O d keys n x p E.within E.equals opt ∙ ap Exact (place-of-equal opt p E)
  holds_is opt (RoundedUp (Some b) a) h =
      let w = h.1.within in
      rw h.0 (parts-reason lt O d keys n x a (parts-between lt O d keys n x sorted b a h.1) (omega arith) RoundUp ∙ up-between b a h.1)
  holds_is opt (RoundedUp None a) h =
      let e = h.1.first_one in
      let w = h.1.within in
      rw (h.0, e) (parts-reason lt O d keys n x 0 (parts_first lt O d keys n x sorted a h.1) (omega arith) RoundUp ∙ rw (ne_eqb 0 n (λ z. omega arith)))
  holds_is opt (RoundedDown b (Some a)) h =
      let w = h.1.within in
      rw h.0 (parts-reason lt O d keys n x a (parts-between lt O d keys n x sorted b a h.1) (omega arith) RoundDown ∙ down-between b a h.1)
  holds_is opt (RoundedDown b None) h =
      let e = h.1.last_one in
      let f : n - 1 ≡ b = omega arith in
      rw h.0 (parts-reason lt O d keys n x n (parts_last lt O d keys n x sorted b h.1) (omega arith) RoundDown ∙ rw (ne_eqb n 0 (λ z. omega arith), le-ltb n n (le_refl n), f))
  holds_is opt BeforeFirst h =
      let w = h.1.within in
      rw h.0 (parts-reason lt O d keys n x 0 (parts_first lt O d keys n x sorted 0 h.1) w RoundDown)
  holds_is opt AfterLast h =
      let e = h.1.last_one in
      rw h.0 (parts-reason lt O d keys n x n (parts_last lt O d keys n x sorted (n - 1) h.1) (omega arith) RoundUp ∙ rw (eq-eqb n n refl))
  holds_is opt Empty h = rw (eq-eqb n 0 h)

  -- ---- and the reason that the rule gives holds

  outer : (opt : FindOption) → some_equal lt d keys n x ≡ true → EqualAt lt d keys n x opt (place lt d opt keys n x)
  outer RoundUp some =
      let l = ltb-true (first (equal lt d keys x) n) n some in
      let e : place lt d RoundUp keys n x ≡ first (equal lt d keys x) n = in_words_lem lt O d keys n x sorted RoundUp ∙ rw some in
      rw e (record { within = l; equals = first_holds (equal lt d keys x) n l; outermost = λ j m h. first_least (equal lt d keys x) n j m h })
  outer RoundDown some =
      let l = ltb-true (first (equal lt d keys x) n) n some in
      let f : final (equal lt d keys x) n < n = ⊎_elim (λ (h : final (equal lt d keys x) n < n). h)
      (λ (h : n ≤ final (equal lt d keys x) n). absurd (true_false (equal lt d keys x (first (equal lt d keys x) n)) (first_holds (equal lt d keys x) n l) (final-out (equal lt d keys x) n h (first (equal lt d keys x) n) l)))
      (below_or (final (equal lt d keys x) n) n) in
      let e : place lt d RoundDown keys n x ≡ final (equal lt d keys x) n = in_words_lem lt O d keys n x sorted RoundDown ∙ rw (lt-ltb (final (equal lt d keys x) n) n f) in
      rw e (record { within = f; equals = final_holds (equal lt d keys x) n f; outermost = λ j m h. final-most (equal lt d keys x) n j m h })

  beside_holds : (opt : FindOption) (p : ℕ) → 0 < n → Parts lt d keys n x p → Holds lt d keys n x opt (beside opt p n)
  beside_holds RoundUp p some P = go (eqb p n) refl
    where
      w : p ≤ n
      w = P.within

      up : (b : Bool) → eqb p 0 ≡ b → p < n → Holds lt d keys n x RoundUp (RoundedUp (cond b None (Some (p - 1))) p)
      up true e l = (refl, record { first_one = eqb-true p 0 e; within = l; key_above = P.over p (le_refl p) l })
      up false e l =
          let s : 0 < p = pos_of_ne-zero (eqb-false p 0 e) in
          (refl, record { adjacent = omega arith; within = l; key_below = P.under (p - 1) (omega arith); key_above = P.over p (le_refl p) l })

      go : (b : Bool) → eqb p n ≡ b → Holds lt d keys n x RoundUp (cond b AfterLast (RoundedUp (before p) p))
      go true e =
          let f = eqb-true p n e in
          (refl, record { last_one = omega arith; key_below = P.under (n - 1) (omega arith) })
      go false e = up (eqb p 0) refl (lt_of_le-ne w (eqb-false p n e))
  beside_holds RoundDown p some P = go (eqb p 0) refl
    where
      w : p ≤ n
      w = P.within

      down : (b : Bool) → ltb p n ≡ b → 0 < p → Holds lt d keys n x RoundDown (RoundedDown (p - 1) (cond b (Some p) None))
      down true e s =
          let l = ltb-true p n e in
          (refl, record { adjacent = omega arith; within = l; key_below = P.under (p - 1) (omega arith); key_above = P.over p (le_refl p) l })
      down false e s =
          let l = ltb-false p n e in
          (refl, record { last_one = omega arith; key_below = P.under (p - 1) (omega arith) })

      go : (b : Bool) → eqb p 0 ≡ b → Holds lt d keys n x RoundDown (cond b BeforeFirst (RoundedDown (p - 1) (below p n)))
      go true e = (refl, record { first_one = refl; within = some; key_above = P.over 0 (omega (arith, eqb-true p 0 e)) some })
      go false e = down (ltb p n) refl (pos_of_ne-zero (eqb-false p 0 e))

  pub is_holds : (opt : FindOption) → Holds lt d keys n x opt (reason_of lt d opt keys n x)
  is_holds opt = empty (eqb n 0) refl
    where
      asked : (b : Bool) → some_equal lt d keys n x ≡ b → 0 < n → Holds lt d keys n x opt (cond b (Exact (place lt d opt keys n x)) (beside opt (first (greater lt d keys x) n) n))
      asked true e some = outer opt e
      asked false e some = beside_holds opt (first (greater lt d keys x) n) some (parted lt O d keys n x sorted e)

      empty : (b : Bool) → eqb n 0 ≡ b
          → Holds lt d keys n x opt (cond b Empty (cond (some_equal lt d keys n x) (Exact (place lt d opt keys n x)) (beside opt (first (greater lt d keys x) n) n)))
      empty true e = eqb-true n 0 e
      empty false e = asked (some_equal lt d keys n x) refl (pos_of_ne-zero (eqb-false n 0 e))

  -- ---- what follows

  pub all_stand : (opt : FindOption) (r : Reason) → Holds lt d keys n x opt r → AllKeys lt d keys n x r
  all_stand opt (Exact p) E = E.equals
  all_stand opt (RoundedUp (Some b) a) h = parts-between lt O d keys n x sorted b a h.1
  all_stand opt (RoundedUp None a) h = rw h.1.first_one (parts_first lt O d keys n x sorted a h.1)
  all_stand opt (RoundedDown b (Some a)) h = rw (← h.1.adjacent) (parts-between lt O d keys n x sorted b a h.1)
  all_stand opt (RoundedDown b None) h = rw h.1.last_one (parts_last lt O d keys n x sorted b h.1)
  all_stand opt BeforeFirst h = parts_first lt O d keys n x sorted 0 h.1
  all_stand opt AfterLast h = parts_last lt O d keys n x sorted (n - 1) h.1
  all_stand opt Empty h = h

  -- the position that answers is the lookup's, or both have none
  pub answering-among : (opt : FindOption) → answering (reason_of lt d opt keys n x) ≡ among n (place lt d opt keys n x)
  unfolding first_from last_or
  answering-among opt = empty (eqb n 0) refl
    where
      none : (o : FindOption) → n ≡ 0 → None ≡ among n (place lt d o keys n x)
      none RoundUp e = rw e
      none RoundDown e = rw e

      asked : (b : Bool) → some_equal lt d keys n x ≡ b → answering (cond b (Exact (place lt d opt keys n x)) (beside opt (first (greater lt d keys x) n) n)) ≡ among n (place lt d opt keys n x)
      asked true e = rw (lt-ltb (place lt d opt keys n x) n (outer opt e).within)
      asked false e = parts-place lt O d keys n x (first (greater lt d keys x) n) (parted lt O d keys n x sorted e) opt

      empty : (b : Bool) → eqb n 0 ≡ b
          → answering (cond b Empty (cond (some_equal lt d keys n x) (Exact (place lt d opt keys n x)) (beside opt (first (greater lt d keys x) n) n))) ≡ among n (place lt d opt keys n x)
      empty true e = none opt (eqb-true n 0 e)
      empty false e = asked (some_equal lt d keys n x) refl

  -- counted as n where there is none, it is the lookup's place
  pub answering-place : (opt : FindOption) → unwrap_or (answering (reason_of lt d opt keys n x)) n ≡ place lt d opt keys n x
  answering-place opt = ap (λ o. unwrap_or o n) (answering-among opt) ∙ place_among lt d keys n x opt

-- what stands at a position, where there is one
abbrev pub standing_at : {A : Type 0} → (ℕ → A) → Option ℕ → Partner A
standing_at at (Some p) = partner (at p)
standing_at at None = nothing

module _ {A : Type 0} (at : ℕ → A) where
  pub standing-among : (n p : ℕ) → standing at n p ≡ standing_at at (among n p)
  standing-among n p = go (ltb p n)
    where
      go : (b : Bool) → cond b (partner (at p)) nothing ≡ standing_at at (cond b (Some p) None)
      go true = refl
      go false = refl

  -- and what stands there is the answer under the reason
  pub stands_by : (r : Reason) → standing_at at (answering r) ≡ answer_by at r
  stands_by (Exact p) = refl
  stands_by (RoundedUp below above) = refl
  stands_by (RoundedDown below above) = refl
  stands_by BeforeFirst = refl
  stands_by AfterLast = refl
  stands_by Empty = refl
