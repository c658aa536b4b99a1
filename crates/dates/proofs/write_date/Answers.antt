use Rattle.std.proofs.Common.{◌≡◌, rules}
use Rattle.dates.proofs.Writing.{writes_there}
use Rattle.dates.proofs.write_date.Goals as goal

pub returns : goal.returns
returns c =
    let s = c.in_ok-second.second in
    let same : s.second ≡ c.args.second.0 = search rules in
    rw same at (writes_there s.second c.args.out.now s.in_domain c.if-out-lt-DATE_BYTES.false c.put_date.new.out c.put_date.result c.put_date.ensures)
