-- A table's state as it crosses to another language and back.
use Rattle.std.specs.Prelude.{ℕ, cond, ltb, eqb, ℤ, pos, None, Some, Option}
use Rattle.totals.specs.Totals.{no_totals}
use Rattle.tracker.specs.declared.Second.{Second}
use Rattle.tracker.specs.declared.SequenceTracker.{SequenceTracker}
use Rattle.lookup.specs.declared.FindOption.{FindOption}
use Rattle.lookup.specs.declared.FindOption.TheVariants.{RoundUp, RoundDown}
use Rattle.states.specs.declared.State.{State}

-- ---- in: any numbers are taken, and a table that they do not make is for the call to refuse

-- the last recorded second: none where the mark is 0
abbrev pub last_in : ℕ → ℤ → Option Second
last_in mark s = cond (eqb mark 0) None (Some (record { 0 = s }))

-- a capacity above 8,192, which every call refuses with 14
abbrev pub no_capacity : ℕ
no_capacity = 4294967295

-- a mark above 1 says neither that a last second is there nor that none is: no table
abbrev pub table_of : State → SequenceTracker
table_of s = record {
  count = s.count;
  capacity = cond (ltb 1 s.has_last) no_capacity s.capacity;
  interval_secs = s.interval_secs;
  last_recorded_ts = last_in s.has_last s.last;
  totals = s.totals;
}

-- 0 rounds up, any other number down
abbrev pub round_of : ℕ → FindOption
round_of n = cond (eqb n 0) RoundUp RoundDown

-- ---- out

-- the mark, and the second or 0
abbrev pub last_out : Option Second → ℕ × ℤ
last_out None = (0, pos 0)
last_out (Some s) = (1, s.0)

abbrev pub state_of : SequenceTracker → State
state_of t =
    let last = last_out t.last_recorded_ts in
    record { count = t.count; capacity = t.capacity; has_last = last.0; interval_secs = t.interval_secs; last = last.1; totals = t.totals }

-- where no state is returned, one that every call refuses
abbrev pub no_state : State
no_state = record { count = 0; capacity = no_capacity; has_last = 0; interval_secs = 0; last = pos 0; totals = no_totals }
