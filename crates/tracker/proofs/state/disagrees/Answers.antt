use borrow.Author.Tests.{lt-ltb, le-ltb}
use Rattle.tracker.proofs.state.disagrees.Goals as goal

pub returns-then-bad_settings : goal.returns-then-bad_settings
returns-then-bad_settings c = rw (← c.bad_settings.ensures, c.if-bad_settings.true)

pub returns-then-seqs-r : goal.returns-then-seqs-r
returns-then-seqs-r c =
    rw (← c.bad_settings.ensures, c.if-bad_settings.false, ← c.room-r.ensures, lt-ltb _ _ c.if-seqs-r.true)

pub returns-then-secs-r : goal.returns-then-secs-r
returns-then-secs-r c =
    rw (← c.bad_settings.ensures, c.if-bad_settings.false, ← c.room-r.ensures, le-ltb _ _ c.if-seqs-r.false, lt-ltb _ _ c.if-secs-r.true)

pub returns-then-n-r : goal.returns-then-n-r
returns-then-n-r c =
    rw (← c.bad_settings.ensures, c.if-bad_settings.false, ← c.room-r.ensures, le-ltb _ _ c.if-seqs-r.false, le-ltb _ _ c.if-secs-r.false, lt-ltb _ _ c.if-n-r.true)

pub returns-then-last_wrong : goal.returns-then-last_wrong
returns-then-last_wrong c =
    rw (← c.bad_settings.ensures, c.if-bad_settings.false, ← c.room-r.ensures, le-ltb _ _ c.if-seqs-r.false, le-ltb _ _ c.if-secs-r.false, le-ltb _ _ c.if-n-r.false, ← c.last_wrong.ensures, c.if-last_wrong.true)

pub returns : goal.returns
returns c =
    rw (← c.bad_settings.ensures, c.if-bad_settings.false, ← c.room-r.ensures, le-ltb _ _ c.if-seqs-r.false, le-ltb _ _ c.if-secs-r.false, le-ltb _ _ c.if-n-r.false, ← c.last_wrong.ensures, c.if-last_wrong.false) c.too_many.ensures
