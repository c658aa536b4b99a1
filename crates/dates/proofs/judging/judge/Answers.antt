use Rattle.std.proofs.Common.{◌≡◌, true, ◌-ℤ◌, w64, to_z, of_z, ◌∙◌, rules}
use Rattle.calendar.specs.Calendar.{second_of, is_date}
use Rattle.dates.specs.Read.{is_offset, offset_of}
use Rattle.dates.proofs.Judged.{both, utc_fits}
use Rattle.dates.proofs.judging.judge.Goals as goal

pub returns : goal.returns
returns c =
    let there : is_date c.args.stamp.date ≡ true = search rules in
    let zoned : is_offset c.args.stamp.zone ≡ true = search rules in
    let fits = utc_fits c.args.stamp there zoned in
    let utc : to_z w64 (of_z w64 (to_z w64 (of_z w64 c.second_of.result) -ℤ to_z w64 (of_z w64 c.offset_of.result))) ≡ second_of c.args.stamp.date -ℤ offset_of c.args.stamp.zone = search (rules, fits) in
    rw utc at c.if_inside.ensures ∙ both c.args.stamp there zoned
