use Rattle.totals.proofs.inner.one_more.Goals as goal

pub returns-in-Recorded : goal.returns-in-Recorded
returns-in-Recorded c = rw c.in-Recorded.is

pub returns-in-WentBack : goal.returns-in-WentBack
returns-in-WentBack c = rw c.in-WentBack.is

pub returns-in-TooSoon : goal.returns-in-TooSoon
returns-in-TooSoon c = rw c.in-TooSoon.is

pub returns-in-Refused : goal.returns-in-Refused
returns-in-Refused c = rw c.in-Refused.is
