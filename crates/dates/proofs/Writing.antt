-- What a written date leaves. Assumes nothing.
use mathlib.Core.Path.{◌≡◌, refl, ap, ◌∙◌, subst}
use mathlib.Core.Bool.{true, false}
use mathlib.Core.List.{List, [], ◌∷◌, ◌++◌}
use Prim.Native.Nat.{ℕ, ◌+◌, ◌≤◌, ◌<◌}
use native.Mathlib.Omega.{arith}
use lib.IntN.{ℤ}
use Rattle.std.specs.Prelude.{Ok, Err}
use lib.ListN.{length, drop}
use lib.Seq.{sets-eq}
use Rattle.told.specs.Told.{Told, gave, refused}
use Rattle.told.specs.Room.{room_rule}
use Rattle.told.proofs.Room.{no_room, enough}
use Rattle.limits.specs.Domain.{outside}
use Rattle.text.specs.Inner.{Put}
use Rattle.date_writer.specs.Inner.{date_text}
use Rattle.date_writer.proofs.Texts.{dated_text, dated-length}
use Rattle.dates.specs.declared.Refusal.TheVariants as refusal
use Rattle.dates.specs.Write.{write_date, LeavesDate, WritesDate}

module _ (z : ℤ) (out : List ℕ) where
  -- by the rule's outcome
  by_rule : (t : Told ℕ) (out' : List ℕ) → t ≡ write_date z (length out) → LeavesDate t z out out' → LeavesDate (write_date z (length out)) z out out'
  by_rule t out' e h = subst (λ t. LeavesDate t z out out') e h

  rule_outside : outside z ≡ true → refused (27 ∷ []) ≡ write_date z (length out)
  unfolding write_date
  rule_outside h = rw h

  pub writes_outside : outside z ≡ true → WritesDate z out (Err refusal.Outside) out
  writes_outside h = (rule_outside h, by_rule (refused (27 ∷ [])) out (rule_outside h) refl)

  module _ (h : outside z ≡ false) where
    rule_room : room_rule 20 (length out) ≡ write_date z (length out)
    unfolding write_date
    rule_room = rw h

    pub writes_short : length out < 20 → WritesDate z out (Err (refusal.Room 20)) out
    writes_short k =
        let e = no_room 20 (length out) k ∙ rule_room in
        (e, by_rule (refused (21 ∷ 20 ∷ [])) out e refl)

    pub writes_there : 20 ≤ length out → (out' : List ℕ) (n : ℕ) → Put out 0 (date_text z) out' n → WritesDate z out (Ok n) out'
    writes_there k out' n p =
        let d = dated_text z h in
        let l : length (date_text z) ≡ 20 = dated-length z (date_text z) d in
        let m : n ≡ 20 = omega (arith, p.ends, l) in
        let e : gave n ≡ write_date z (length out) = ap gave m ∙ enough 20 (length out) k ∙ rule_room in
        let w : 0 + length (date_text z) ≡ length (date_text z) = omega arith in (
          e,
          by_rule (gave n) out' e
              (date_text z, d, p.bytes ∙ sets-eq (date_text z) out 0 (omega (arith, l)) ∙ ap (λ (j : ℕ). date_text z ++ drop j out) w),
        )
