-- What our own functions promise each other. No public statement cites this file.
use Rattle.std.specs.Prelude.{ℕ, zero, suc, ◌+◌, ◌-◌, ◌≤◌, ◌<◌, ◌^◌, ◌≡◌, List, Ok, Err, Some, None, length, take, drop}
use Rattle.std.specs.Io.KnownBytes.{ReadConsumes}
use Rattle.std.specs.declared.option.Option.{Option}
use Rattle.std.specs.declared.result.Result.{Result}
use Rattle.std.specs.declared.io.Error.{Error}
use Rattle.input.specs.declared.once.Reading.{Reading}
use Rattle.input.specs.declared.once.Over.{Over}

-- what a read that is handed n places may answer: an error, or how many bytes it put there, at most n
abbrev pub Moved : ℕ → Result ℕ Error → Type 0
Moved n (Ok k) = k ≤ n
Moved n (Err e) = Unit {0}

-- where a read answered so many bytes, their number and those before it is one of 64 bits
abbrev pub Counted : ℕ → Result ℕ Error → Type 0
Counted done (Ok n) = done + n < 2 ^ 64
Counted done (Err e) = Unit {0}

-- a reading of this buffer
abbrev pub ReadingOf : Reading → List ℕ → Type 0
ReadingOf at buffer = (at.bytes ≤ length buffer) × (at.room ≡ length buffer)

-- what a read came to: an error is a failure and is told, 0 the end, and any other number is added to the bytes read before
abbrev pub after_read : Reading → Result ℕ Error → Result Reading Over
after_read at (Err e) = Err (record { bytes = at.bytes; room = at.room; failure = Some e })
after_read at (Ok zero) = Err (record { bytes = at.bytes; room = at.room; failure = None })
after_read at (Ok (suc n)) = Ok (record { bytes = at.bytes + suc n; room = at.room })

-- a reader, by the bytes that it has left where those are known, and a buffer
pub record Held : Type 0 where
  pub left : Option (List ℕ)
  pub buffer : List ℕ

-- a read into what follows the bytes read before: those bytes stay, and what the read answered is added. The bytes that it put there are the next that
-- the reader had, where those are known
pub record Reads (old : Held) (at : Reading) (new : Held) (answer : Result Reading Over) : Type 0 where
  pub got : Result ℕ Error
  pub moved : Moved (length old.buffer - at.bytes) got
  pub kept : take at.bytes new.buffer ≡ take at.bytes old.buffer
  pub same : length new.buffer ≡ length old.buffer
  pub given : ReadConsumes old.left new.left got (drop at.bytes new.buffer)
  pub added : answer ≡ after_read at got
