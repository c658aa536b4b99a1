-- The cases of halving, a part of the table in Cases.antt.
use Rattle.std.specs.Prelude.{ℕ, ◌≡◌, List, [], ◌∷◌, ◌++◌}
use Rattle.told.specs.Told.{gave}
use Rattle.tracker.specs.declared.TrackedSeq.{TrackedSeq}
use Rattle.lookup.specs.Find.{partner}
use Rattle.lookup.specs.declared.FindOption.TheVariants.{RoundUp, RoundDown}
use Rattle.offers.specs.Whole.{Table}
use Rattle.halving.specs.History.{now, History, history_of}
use Rattle.halving.specs.Coarse.{Coarse, halvings_at}
use Rattle.halving.specs.Halving.{find_ts_in}
use Rattle.cases.specs.Given.{second, seq_no, pair, offered_all, first_of}

-- so many halvings, these pairs recorded, and these kept
abbrev pub past : ℕ → ℕ → List TrackedSeq → List TrackedSeq → History
past capacity k recorded kept = record { capacity = capacity; halvings = k; recorded = recorded; kept = kept }

-- an empty table of this capacity, at interval 0
abbrev pub empty : ℕ → Table
empty capacity = offered_all capacity 0 []

-- what comes of these offers to it
abbrev pub Makes : ℕ → List TrackedSeq → ℕ → List TrackedSeq → List TrackedSeq → Type 0
Makes capacity rs k recorded kept = history_of (empty capacity) rs ≡ past capacity k recorded kept

pub record HalvingCases : Type 0 where
  -- capacity 4: up to four pairs there is no halving
  pub none : Makes 4 (first_of 4) 0 (first_of 4) (first_of 4)
  -- the fifth pair makes one, P8's; what went back, (3,19), and what is refused with 17, (3,45), are not recorded
  pub one : Makes 4 (pair 1 10 ∷ pair 2 20 ∷ pair 3 19 ∷ pair 3 30 ∷ pair 4 40 ∷ pair 3 45 ∷ pair 5 50 ∷ []) 1 (first_of 5) (pair 1 10 ∷ pair 3 30 ∷ pair 5 50 ∷ [])
  -- the seventh a second one: the older two of those kept stand 2^2 recorded pairs apart, and the newest two 2
  pub two : Makes 4 (first_of 7) 2 (first_of 7) (pair 1 10 ∷ pair 5 50 ∷ pair 7 70 ∷ [])
  -- there (4,40), which is not kept, is answered by (1,10), three recorded pairs before it, and by (5,50), one after it
  pub asked :
      (find_ts_in (now (empty 4) (first_of 7)) (seq_no 4) RoundDown ≡ gave (partner (second 10)))
      × (find_ts_in (now (empty 4) (first_of 7)) (seq_no 4) RoundUp ≡ gave (partner (second 50)))
  -- the eleventh pair makes the fourth halving; (8,80), three recorded pairs back, is answered rounding up by the next one, and rounding down by the first pair, seven before it: that it lies at
  -- most 2 times half the capacity back does not bound that, as 2^2 does not divide 2
  pub four :
      Makes 4 (first_of 11) 4 (first_of 11) (pair 1 10 ∷ pair 9 90 ∷ pair 11 110 ∷ [])
      × (find_ts_in (now (empty 4) (first_of 11)) (seq_no 8) RoundUp ≡ gave (partner (second 90)))
      × (find_ts_in (now (empty 4) (first_of 11)) (seq_no 8) RoundDown ≡ gave (partner (second 10)))
  -- a fresh count from P8's table: its three pairs are taken as recorded, and the fifth recorded pair makes the first halving
  pub fresh :
      history_of (offered_all 4 0 (first_of 5)) (pair 6 60 ∷ pair 7 70 ∷ [])
      ≡ past 4 1 (pair 1 10 ∷ pair 3 30 ∷ pair 5 50 ∷ pair 6 60 ∷ pair 7 70 ∷ []) (pair 1 10 ∷ pair 5 50 ∷ pair 7 70 ∷ [])
  -- at capacity 8,192: none with 8,192 recorded pairs, one with 8,193 and with 12,288, two with 12,289, 257 with 1,056,769
  pub counts :
      (halvings_at 8192 8192 ≡ 0) × (halvings_at 8192 8193 ≡ 1) × (halvings_at 8192 12288 ≡ 1) × (halvings_at 8192 12289 ≡ 2) × (halvings_at 8192 1056769 ≡ 257)
  -- why odd capacities are left out: at capacity 1 the second pair makes a halving that drops itself, the newest
  pub odd : Makes 1 (first_of 2) 1 (first_of 2) (pair 1 10 ∷ []) × (Coarse (past 1 1 (first_of 2) (pair 1 10 ∷ [])) → ⊥)
  -- and at capacity 3, P9's, a sequence below the newest recorded one is then recorded
  pub odd_order : Makes 3 (first_of 4 ++ (pair 3 45 ∷ [])) 1 (first_of 4 ++ (pair 3 45 ∷ [])) (pair 1 10 ∷ pair 3 30 ∷ pair 3 45 ∷ [])
  -- and why 0 is: each pair makes a halving, and each after the first is dropped by its own
  pub zero : Makes 0 (first_of 2) 2 (first_of 2) (pair 1 10 ∷ []) × (Coarse (past 0 2 (first_of 2) (pair 1 10 ∷ [])) → ⊥)
  -- what may not be kept of five recorded pairs after one halving: the odd positions; the even ones without the newest; the first and the newest alone, four apart
  pub excluded :
      (Coarse (past 4 1 (first_of 5) (pair 2 20 ∷ pair 4 40 ∷ [])) → ⊥) × (Coarse (past 4 1 (first_of 5) (pair 1 10 ∷ pair 3 30 ∷ [])) → ⊥) × (Coarse (past 4 1 (first_of 5) (pair 1 10 ∷ pair 5 50 ∷ [])) → ⊥)
  -- 2^(k-1) is too narrow: what two halvings keep of seven pairs stands further apart than 2
  pub narrower : Coarse (past 4 1 (first_of 7) (pair 1 10 ∷ pair 5 50 ∷ pair 7 70 ∷ [])) → ⊥
