-- The laws of specs/Laws.antt. Assumes nothing.
use mathlib.Core.Path.{◌≡◌, ap, ◌∙◌, sym}
use mathlib.Core.Bool.{false}
use lib.IntN.{ℤ}
use Rattle.limits.specs.Domain.{outside}
use Rattle.calendar.specs.declared.Date.{Date}
use Rattle.calendar.specs.Calendar.{moment_of, IsDateOf}
use Rattle.calendar.specs.Inner.{date_of, moment_at}
use Rattle.calendar.specs.Laws.{Calendar}
use Rattle.calendar.proofs.YearDays.{closed_form}
use Rattle.calendar.proofs.Trip.{date_valid, moment_date, date_moment, moment_in}
use Rattle.calendar.proofs.Moments.{second_at, moment_below, second_moment, moment_second, second_in, valid_means, valid_true}
use Rattle.calendar.proofs.Order.{seconds_order}

-- the date that the code finds
pub is_date-of : (z : ℤ) → outside z ≡ false → IsDateOf z (date_of (moment_at z))
is_date-of z h = (
  valid_true (date_of (moment_at z)) (date_valid (moment_at z) (moment_below z h)),
  ap second_at (moment_date (moment_at z)) ∙ second_moment z h,
)

pub one_date : (z : ℤ) (d e : Date) → IsDateOf z d → IsDateOf z e → d ≡ e
one_date z d e h k =
    let v = valid_means d h.0 in
    let w = valid_means e k.0 in
    let m : moment_of d ≡ moment_of e =
    sym (moment_second (moment_of d) (moment_in d v)) ∙ ap moment_at (h.1 ∙ sym k.1) ∙ moment_second (moment_of e) (moment_in e w) in
    sym (date_moment d v) ∙ ap date_of m ∙ date_moment e w

pub calendar : Calendar
calendar = record {
  closed_form = closed_form;
  a_date = λ z h. (date_of (moment_at z), is_date-of z h);
  in_domain = λ d h. second_in (moment_of d) (moment_in d (valid_means d h));
  one_date = one_date;
  order = λ d e h k. seconds_order d e (valid_means d h) (valid_means e k);
}
