-- No second outcome fits: extensions of which the same is told are the same. Assumes nothing.
use Rattle.std.proofs.Common.{◌≡◌, ℕ, ℤ, Result, Ok, Err, sym, refl, ◌∙◌}
use Rattle.told.proofs.Unique.{given_not_refused}
use Rattle.signed.specs.Extend.{told_extend, extend_rule}
use Rattle.signed.specs.declared.WidthOutside.{WidthOutside}

extend-told : (a b : Result ℤ WidthOutside) → told_extend a ≡ told_extend b → a ≡ b
extend-told (Ok x) (Ok y) h = cc
extend-told (Ok x) (Err e) h = given_not_refused h
extend-told (Err e) (Ok y) h = given_not_refused (sym h)
extend-told (Err e) (Err f) h = refl

-- `sign_extend`
pub one-extension : (v w : ℕ) (a b : Result ℤ WidthOutside) → told_extend a ≡ extend_rule v w → told_extend b ≡ extend_rule v w → a ≡ b
one-extension v w a b h k = extend-told a b (h ∙ sym k)
