-- What a log tells, but for the totals.
use Rattle.told.specs.Told.{Told, gave, refused}
use Rattle.tracker.specs.Rest.{rest_of}
use Rattle.offer_log.specs.Log.{Log, done, stopped}

-- all of it but the totals: with these at zero in the state
abbrev pub log_rest : Told Log → Told Log
log_rest (gave (done t n)) = gave (done (rest_of t) n)
log_rest (gave (stopped what t n)) = gave (stopped what (rest_of t) n)
log_rest (refused what) = refused what
