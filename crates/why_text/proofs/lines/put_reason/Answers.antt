use Rattle.why_text.proofs.lines.put_reason.Goals as goal

pub returns-in-BeforeFirst : goal.returns-in-BeforeFirst
returns-in-BeforeFirst c = rw c.in-BeforeFirst.is c.put_bytes.ensures
