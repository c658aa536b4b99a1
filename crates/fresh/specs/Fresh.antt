-- Tables just made.
use Rattle.std.specs.Prelude.{ℕ, cond, [], ◌∷◌, None, Option}
use Rattle.told.specs.Told.{Told, gave, refused}
use Rattle.limits.specs.Settings.{bad_settings}
use Rattle.totals.specs.Totals.{no_totals}
use Rattle.tracker.specs.declared.SequenceTracker.{SequenceTracker}
use Rattle.tracker.specs.declared.Second.{Second}

-- the defaults
abbrev pub default_capacity : ℕ
default_capacity = 8192

abbrev pub default_interval_secs : ℕ
default_interval_secs = 10

-- the state of a table just made, with count pairs in its arrays, and no offer counted
abbrev pub fresh_table : ℕ → ℕ → ℕ → Option Second → SequenceTracker
fresh_table capacity interval count last = record { count = count; capacity = capacity; interval_secs = interval; last_recorded_ts = last; totals = no_totals }

-- a table with no pair
abbrev pub empty_table : ℕ → ℕ → SequenceTracker
empty_table capacity interval = fresh_table capacity interval 0 None

-- `new`: no pair, the default settings
abbrev pub new_table : SequenceTracker
new_table = empty_table default_capacity default_interval_secs

-- `with_config`: no pair, the settings named, or 15
abbrev pub config_of : ℕ → ℕ → Told SequenceTracker
config_of capacity interval = cond (bad_settings capacity interval) (refused (15 ∷ [])) (gave (empty_table capacity interval))
