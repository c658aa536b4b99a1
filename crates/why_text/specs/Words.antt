-- The line that `why` prints, as bytes (docs/RULES.md, "The program why"): the reason, the positions that it names, and the answer, single spaces.
use Rattle.std.specs.Prelude.{ℕ, List, ◌++◌, Option}
use Rattle.text.specs.Ascii.{ascii}
use Rattle.text.specs.Text.{decimal}
use Rattle.lookup.specs.Find.{Partner, partner, nothing}
use Rattle.lookup.specs.Found.{partner_of}
use Rattle.explaining.specs.Why.{Why}
use Rattle.explaining.specs.declared.Reason.{Reason}
use Rattle.explaining.specs.declared.Reason.TheVariants.{Exact, RoundedUp, RoundedDown, BeforeFirst, AfterLast, Empty}

-- an answer's number, or `none`
abbrev pub answer_text : {A : Type 0} → (A → List ℕ) → Partner A → List ℕ
answer_text number (partner a) = number a
answer_text number nothing = ascii "none"

-- a neighbouring position, or `none`
abbrev pub neighbour_text : Option ℕ → List ℕ
neighbour_text p = answer_text decimal (partner_of p)

-- the word of a reason, and the positions that it names, the lower one first
abbrev pub reason_text : Reason → List ℕ
reason_text (Exact p) = ascii "exact " ++ decimal p
reason_text (RoundedUp below above) = ascii "rounded-up " ++ neighbour_text below ++ ascii " " ++ decimal above
reason_text (RoundedDown below above) = ascii "rounded-down " ++ decimal below ++ ascii " " ++ neighbour_text above
reason_text BeforeFirst = ascii "before-first"
reason_text AfterLast = ascii "after-last"
reason_text Empty = ascii "empty"

abbrev pub why_line : {A : Type 0} → (A → List ℕ) → Why A → List ℕ
why_line number w = reason_text w.reason ++ ascii " " ++ answer_text number w.answer ++ ascii "\n"
