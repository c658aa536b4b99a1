-- What a read comes to. Assumes nothing.
use Rattle.std.proofs.Common.{ℕ, zero, suc, ◌+◌, ◌-◌, ◌<◌, ◌≡◌, List, Ok, Err, length, take, drop, sym, ◌∙◌, arith}
use Rattle.std.proofs.Math.Seq.{take-add}
use Rattle.std.proofs.KnownBytes.{Consumes-trans}
use Rattle.std.specs.Io.KnownBytes.{Consumes, ReadConsumes}
use Rattle.std.specs.declared.option.Option.{Option}
use Rattle.std.specs.declared.result.Result.{Result}
use Rattle.std.specs.declared.io.Error.{Error}
use Rattle.input.specs.Inner.{ReadingOf, Moved, Held, Reads, after_read}
use Rattle.input.specs.declared.once.Reading.{Reading}
use Rattle.input.specs.declared.once.Over.{Over}

-- where a read leaves more to read, it gave bytes: more than before, no more than there is room for, and the next that the reader had
pub record Grows (start : Option (List ℕ)) (at next : Reading) (new : Held) : Type 0 where
  pub reading : ReadingOf next new.buffer
  pub more : at.bytes < next.bytes
  pub given : Consumes start new.left (take next.bytes new.buffer)

pub grows : {old new : Held} {at next : Reading} (start : Option (List ℕ)) {answer : Result Reading Over} → Reads old at new answer
    → answer ≡ Ok next → ReadingOf at old.buffer → Consumes start old.left (take at.bytes old.buffer) → Grows start at next new
grows {old} {new} {at} {next} start h e l s = go h.got h.moved h.given (sym h.added ∙ e)
  where
    go : (got : Result ℕ Error) → Moved (length old.buffer - at.bytes) got → ReadConsumes old.left new.left got (drop at.bytes new.buffer)
        → after_read at got ≡ Ok next → Grows start at next new
    go (Err e) m g f = absurd cc
    go (Ok zero) m g f = absurd cc
    go (Ok (suc n)) m g f =
        let b : next ≡ record { bytes = at.bytes + suc n; room = at.room } = cc in
        rw b
        (record {
          reading = (omega (arith, m, l, h.same), omega (arith, l, h.same));
          more = omega arith;
          given = rw (take-add at.bytes (suc n) new.buffer, h.kept) (Consumes-trans start old.left new.left _ _ s g.0);
        })
