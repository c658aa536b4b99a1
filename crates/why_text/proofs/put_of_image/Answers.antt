use mathlib.Core.Path.{refl}
use Rattle.std.specs.Prelude.{Ok, Err}
use Rattle.why_text.proofs.Rule.{restored_text_lem}
use Rattle.why_text.proofs.put_of_image.Goals as goal

pub returns-in-Ok : goal.returns-in-Ok
returns-in-Ok c = rw (← restored_text_lem c.args.q c.args.image.now _ _ _ _ (Ok c.in-Ok.table) refl refl c.in-Ok.ensures) c.put_asked.ensures

pub returns-in-Err : goal.returns-in-Err
returns-in-Err c =
    rw (← restored_text_lem c.args.q c.args.image.now _ _ _ _ (Err c.in-Err.why) refl refl c.in-Err.ensures) (rw (← c.number.ensures) c.put_refused.ensures)
