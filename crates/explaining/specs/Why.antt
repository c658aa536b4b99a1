-- The reason beside the answer: what `why_ts` and `why_seq` tell.
use Rattle.std.specs.Prelude.{ℕ, List, ltb, ℤ, pos, Result, Ok, Err}
use Rattle.std.specs.Int.Signed.{lt_z}
use Rattle.told.specs.Told.{Told, gave, refused}
use Rattle.tracker.specs.Refusal.{told}
use Rattle.tracker.specs.declared.Refusal.{Refusal}
use Rattle.tracker.specs.declared.Seq.{Seq}
use Rattle.tracker.specs.declared.Second.{Second}
use Rattle.tracker.specs.declared.SequenceTracker.{SequenceTracker}
use Rattle.lookup.specs.Find.{Partner, find_ts, find_seq}
use Rattle.lookup.specs.declared.FindOption.{FindOption}
use Rattle.lookup.specs.Found.{partner_of}
use Rattle.explaining.specs.Reason.{reason_of}
use Rattle.explaining.specs.declared.Reason.{Reason}
use Rattle.explaining.specs.declared.Why as answered

-- a reason, and the answer under it
pub record Why (A : Type 0) : Type 0 where
  pub reason : Reason
  pub answer : Partner A

-- what a lookup tells, with the reason beside its answer; a refusal stands
abbrev pub because : {A : Type 0} → Reason → Told (Partner A) → Told (Why A)
because r (gave a) = gave (record { reason = r; answer = a })
because r (refused what) = refused what

-- `why_ts`: what `find_ts` tells, and why
abbrev pub why_ts : SequenceTracker → List ℕ → List ℤ → Seq → FindOption → Told (Why Second)
why_ts table seqs secs seq opt = because (reason_of ltb 0 opt seqs table.count seq.0) (find_ts table seqs secs seq opt)

-- `why_seq`: what `find_seq` tells, and why
abbrev pub why_seq : SequenceTracker → List ℕ → List ℤ → Second → FindOption → Told (Why Seq)
why_seq table seqs secs ts opt = because (reason_of lt_z (pos 0) opt secs table.count ts.0) (find_seq table seqs secs ts opt)

-- what their answers tell
abbrev pub told_why : {A : Type 0} → Result (answered.Why A) Refusal → Told (Why A)
told_why (Ok w) = gave (record { reason = w.reason; answer = partner_of w.answer })
told_why (Err r) = refused (told r)

abbrev pub told_why_ts : Result (answered.Why Second) Refusal → Told (Why Second)
told_why_ts = told_why

abbrev pub told_why_seq : Result (answered.Why Seq) Refusal → Told (Why Seq)
told_why_seq = told_why
