-- What a table goes through as offers are made to it: which of them are recorded, and how often it is halved.
use Rattle.std.specs.Prelude.{ℕ, suc, ◌+◌, Bool, cond, ◌&&◌, List, [], ◌∷◌, ◌++◌, ltb}
use Rattle.tracker.specs.declared.TrackedSeq.{TrackedSeq}
use Rattle.offers.specs.Whole.{Table}
use Rattle.offers.specs.Offer.{offer_to}
use Rattle.offer_log.specs.Pairs.{records_of}
use Rattle.theorems.specs.Alike.{kept_in}
use Rattle.theorems.specs.Run.{offered, step, ran_to}
use Rattle.theorems.specs.Lists.{offers_of}
use Rattle.theorems.specs.Totals.{was_recorded}

-- the pairs that a table keeps, in order
abbrev pub kept_pairs : Table → List TrackedSeq
kept_pairs w = records_of (kept_in w).seqs (kept_in w).secs

-- ---- one offer

-- the table after it
abbrev pub after : Table → TrackedSeq → Table
after w r = step w (offered r.seq r.ts)

-- it is told that it was recorded
abbrev pub records : Table → TrackedSeq → Bool
records w r = was_recorded (offer_to w r.seq r.ts)

-- it halves the table: it is recorded, and with it more pairs than the capacity stand
abbrev pub halves : Table → TrackedSeq → Bool
halves w r = records w r && ltb w.state.capacity (w.state.count + 1)

-- ---- offers one after the other, with those that are skipped or refused

-- the table after them
abbrev pub now : Table → List TrackedSeq → Table
now w rs = ran_to w (offers_of rs)

-- those that are recorded, in order
unfoldable pub recorded_of : Table → List TrackedSeq → List TrackedSeq
recorded_of w [] = []
recorded_of w (r ∷ rs) = cond (records w r) (r ∷ recorded_of (after w r) rs) (recorded_of (after w r) rs)

-- how many of them halve the table
unfoldable pub halvings_of : Table → List TrackedSeq → ℕ
halvings_of w [] = 0
halvings_of w (r ∷ rs) = cond (halves w r) (suc (halvings_of (after w r) rs)) (halvings_of (after w r) rs)

-- ---- what a table has gone through

pub record History : Type 0 where
  pub capacity : ℕ
  -- how often it was halved
  pub halvings : ℕ
  -- the pairs recorded so far, in order
  pub recorded : List TrackedSeq
  -- those of them that it keeps
  pub kept : List TrackedSeq

-- by these offers: the pairs that it kept before them are taken as recorded
abbrev pub history_of : Table → List TrackedSeq → History
history_of w rs = record { capacity = w.state.capacity; halvings = halvings_of w rs; recorded = kept_pairs w ++ recorded_of w rs; kept = kept_pairs (now w rs) }
