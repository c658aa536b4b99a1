-- What an exported call answers of a lookup and its reason: the lookup's own answer, the reason's number, and the positions that it names.
use Rattle.std.specs.Prelude.{ℕ, ◌∷◌, Option, Some, None}
use Rattle.told.specs.Told.{Told, gave, refused}
use Rattle.signed.specs.Signed.{pattern}
use Rattle.tracker.specs.declared.Seq.{Seq}
use Rattle.tracker.specs.declared.Second.{Second}
use Rattle.explaining.specs.Why.{Why}
use Rattle.explaining.specs.declared.Reason.{Reason}
use Rattle.explaining.specs.declared.Reason.TheVariants.{Exact, RoundedUp, RoundedDown, BeforeFirst, AfterLast, Empty}
use Rattle.answers.specs.Answer.{answer_of, found}
use Rattle.answers.specs.declared.Answer.{Answer}
use Rattle.why_answers.specs.declared.WhyAnswer.{WhyAnswer}

-- 1 where a neighbour is there, or 0
abbrev pub mark_of : Option ℕ → ℕ
mark_of (Some p) = 1
mark_of None = 0

-- its position, or 0
abbrev pub position_of : Option ℕ → ℕ
position_of (Some p) = p
position_of None = 0

-- an answer with the number of its reason, the position that answers, and the neighbours
abbrev pub explained : Answer → ℕ → ℕ → Option ℕ → Option ℕ → WhyAnswer
explained answer reason position below above = record {
  answer = answer;
  reason = reason;
  has_below = mark_of below;
  has_above = mark_of above;
  position = position;
  below = position_of below;
  above = position_of above;
}

-- the numbers of the reasons; a reason that has no position for the answer gives 0 there
abbrev pub by_reason : Answer → Reason → WhyAnswer
by_reason answer (Exact p) = explained answer 1 p None None
by_reason answer (RoundedUp below above) = explained answer 2 above below (Some above)
by_reason answer (RoundedDown below above) = explained answer 3 below (Some below) above
by_reason answer BeforeFirst = explained answer 4 0 None None
by_reason answer AfterLast = explained answer 5 0 None None
by_reason answer Empty = explained answer 6 0 None None

-- refused, there is no reason: 0
abbrev pub unexplained_by : Answer → WhyAnswer
unexplained_by answer = explained answer 0 0 None None

abbrev pub of_why : {A : Type 0} → (A → ℕ) → Told (Why A) → WhyAnswer
of_why bits (gave w) = by_reason (answer_of (0 ∷ found bits w.answer)) w.reason
of_why bits (refused what) = unexplained_by (answer_of what)

-- of `why_ts`, and of `why_seq`: the partner by its 64 bits
abbrev pub of_why_ts : Told (Why Second) → WhyAnswer
of_why_ts = of_why (λ s. pattern s.0)

abbrev pub of_why_seq : Told (Why Seq) → WhyAnswer
of_why_seq = of_why (λ q. q.0)
