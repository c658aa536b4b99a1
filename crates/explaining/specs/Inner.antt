-- What our own functions promise each other. No public statement cites this file.
use Rattle.std.specs.Prelude.{ℕ, Option, Some, None}
use Rattle.explaining.specs.declared.Reason.{Reason}
use Rattle.explaining.specs.declared.Reason.TheVariants.{Exact, RoundedUp, RoundedDown, BeforeFirst, AfterLast, Empty}

-- the position that answers under a reason, where one does
abbrev pub answering : Reason → Option ℕ
answering (Exact p) = Some p
answering (RoundedUp before above) = Some above
answering (RoundedDown below after) = Some below
answering BeforeFirst = None
answering AfterLast = None
answering Empty = None
