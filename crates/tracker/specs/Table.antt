-- Rules 14, 11, 12 and 13: when a table is good.
use Rattle.std.specs.Prelude.{ℕ, ◌-◌, Bool, not, cond, ◌||◌, List, [], ◌∷◌, length, get_or, take, ltb, eqb, ℤ, pos, None, Some, Option}
use Rattle.std.specs.Int.Signed.{lt_z}
use Rattle.told.specs.Told.{Told, gave, refused}
use Rattle.limits.specs.Domain.{outside}
use Rattle.limits.specs.Settings.{bad_settings, room_of}
use Rattle.totals.specs.Totals.{too_many}
use Rattle.order.specs.First.{first}
use Rattle.order.specs.Order.{drops, sec_outside}
use Rattle.tracker.specs.declared.SequenceTracker.{SequenceTracker}
use Rattle.tracker.specs.declared.Second.{Second}

-- of an array, what the table keeps
abbrev pub kept : {A : Type 0} → SequenceTracker → List A → List A
kept table xs = take table.count xs

-- the last recorded second: absent though pairs are kept; or present with count 0, out of domain, or below the last kept second
abbrev pub last_wrong : Option Second → List ℤ → ℕ → Bool
last_wrong None secs count = not (eqb count 0)
last_wrong (Some s) secs count = eqb count 0 || outside s.0 || lt_z s.0 (get_or secs (count - 1) (pos 0))

-- 14: settings invalid; an array shorter than the room needed; count above that room;
-- a last recorded second present with count 0 or absent otherwise; one out of domain or below the last kept second;
-- or totals that do not add up within 64 bits
abbrev pub disagrees : SequenceTracker → List ℕ → List ℤ → Bool
disagrees table seqs secs =
    bad_settings table.capacity table.interval_secs
    || ltb (length seqs) (room_of table.capacity)
    || ltb (length secs) (room_of table.capacity)
    || ltb (room_of table.capacity) table.count
    || last_wrong table.last_recorded_ts secs table.count
    || too_many table.totals

-- a rule is broken at i, where i is below n
abbrev pub broken_at : ℕ → ℕ → ℕ → Told (Unit {0}) → Told (Unit {0})
broken_at number i n next = cond (ltb i n) (refused (number ∷ i ∷ [])) next

-- 11, 12, 13 over the first n pairs, in this order, the lowest index told
abbrev pub pairs_of : List ℕ → List ℤ → ℕ → Told (Unit {0})
pairs_of seqs secs n =
    broken_at 11 (first (drops ltb 0 seqs) n) n
    (broken_at 12 (first (drops lt_z (pos 0) secs) n) n
    (broken_at 13 (first (sec_outside secs) n) n (gave tt)))

-- 14, then 11, 12, 13 over the kept pairs
abbrev pub check_of : SequenceTracker → List ℕ → List ℤ → Told (Unit {0})
check_of table seqs secs = cond (disagrees table seqs secs) (refused (14 ∷ [])) (pairs_of seqs secs table.count)
