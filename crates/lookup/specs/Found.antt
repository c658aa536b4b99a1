-- What a lookup tells: the partner, nothing, or the refusal's number and what it also tells.
use Rattle.std.specs.Prelude.{Option, Some, None, Result, Ok, Err}
use Rattle.told.specs.Told.{Told, gave, refused}
use Rattle.tracker.specs.Refusal.{told}
use Rattle.tracker.specs.declared.Refusal.{Refusal}
use Rattle.tracker.specs.declared.Seq.{Seq}
use Rattle.tracker.specs.declared.Second.{Second}
use Rattle.lookup.specs.Find.{Partner, partner, nothing}

abbrev pub partner_of : {A : Type 0} → Option A → Partner A
partner_of (Some a) = partner a
partner_of None = nothing

abbrev pub told_found : {A : Type 0} → Result (Option A) Refusal → Told (Partner A)
told_found (Ok found) = gave (partner_of found)
told_found (Err r) = refused (told r)

-- what `find_ts` tells
abbrev pub told_ts : Result (Option Second) Refusal → Told (Partner Second)
told_ts = told_found

-- what `find_seq` tells
abbrev pub told_seq : Result (Option Seq) Refusal → Told (Partner Seq)
told_seq = told_found
