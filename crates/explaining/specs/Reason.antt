-- Why a question is answered as it is (docs/RULES.md, "Why this answer"): the reason, with the positions that it names.
use Rattle.std.specs.Prelude.{ℕ, ◌-◌, Bool, cond, List, ltb, eqb, None, Some, Option}
use Rattle.order.specs.First.{first}
use Rattle.search.specs.Keys.{greater}
use Rattle.lookup.specs.Find.{place}
use Rattle.lookup.specs.Laws.{equal}
use Rattle.lookup.specs.declared.FindOption.{FindOption}
use Rattle.lookup.specs.declared.FindOption.TheVariants.{RoundUp, RoundDown}
use Rattle.explaining.specs.declared.Reason.{Reason}
use Rattle.explaining.specs.declared.Reason.TheVariants.{Exact, RoundedUp, RoundedDown, BeforeFirst, AfterLast, Empty}

-- the position before p, where there is one
abbrev pub before : ℕ → Option ℕ
before p = cond (eqb p 0) None (Some (p - 1))

-- p, where it is a position below n
abbrev pub below : ℕ → ℕ → Option ℕ
below p n = cond (ltb p n) (Some p) None

-- no key equals, and p is the position of the first greater one, or n: RoundUp answers at p, after the last there is none;
-- RoundDown at the position before it, before the first there is none
abbrev pub beside : FindOption → ℕ → ℕ → Reason
beside RoundUp p n = cond (eqb p n) AfterLast (RoundedUp (before p) p)
beside RoundDown p n = cond (eqb p 0) BeforeFirst (RoundedDown (p - 1) (below p n))

-- over the first n keys of any type with an order test `lt`; d is what a key past the end would be
module _ {K : Type 0} (lt : K → K → Bool) (d : K) where
  -- one of the first n keys equals x
  abbrev pub some_equal : List K → ℕ → K → Bool
  some_equal keys n x = ltb (first (equal lt d keys x) n) n

  -- no key is there; or one equals, and the position that answers is told; or x lies beside or between keys
  abbrev pub reason_of : FindOption → List K → ℕ → K → Reason
  reason_of opt keys n x =
      cond (eqb n 0) Empty
      (cond (some_equal keys n x) (Exact (place lt d opt keys n x))
      (beside opt (first (greater lt d keys x) n) n))
