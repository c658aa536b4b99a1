-- Sign extension (docs/RULES.md, "Bits"): the number of its refusal, and the rule.
use Rattle.std.specs.Prelude.{ℕ, ◌%◌, ◌^◌, cond, [], ◌∷◌, ℤ, nat_le, Result}
use Rattle.told.specs.Told.{Told, gave, refused, told_by}
use Rattle.signed.specs.Signed.{signed_of}
use Rattle.signed.specs.declared.WidthOutside.{WidthOutside}

-- the low w bits of v as a signed number of w bits
abbrev pub extend : ℕ → ℕ → ℤ
extend w v = signed_of w (v % 2 ^ w)

abbrev pub told_extend : Result ℤ WidthOutside → Told ℤ
told_extend = told_by (λ _. 23 ∷ [])

-- widths 1 to 32 are taken, any other is refused
abbrev pub extend_rule : ℕ → ℕ → Told ℤ
extend_rule v w = cond (nat_le 1 w) (cond (nat_le w 32) (gave (extend w v)) (refused (23 ∷ []))) (refused (23 ∷ []))
