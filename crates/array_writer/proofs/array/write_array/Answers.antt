use Rattle.std.proofs.Common.{◌≡◌, ◌≤◌, ℕ, ◌+◌, ◌*◌, List, ◌∷◌, map, length, ℤ, sym, ap, ◌∙◌, subst, arith, rules, to_z, of_z, to_z-of_z, w64}
use borrow.Author.Rules.{sfits_of}
use lib.ListN.{length-map}
use Rattle.gorilla.specs.Format.{array_bits}
use Rattle.bit_lists.proofs.Lists.{length-put_list}
use Rattle.gorilla.proofs.Putting.{place-pos, place_bit}
use Rattle.code_writer.proofs.Codes.{none_mapped, parts_length}
use Rattle.array_writer.specs.Inner.{ArrayPut}
use Rattle.array_writer.proofs.Arrays.{none_put, none_end, array_put, array_end}
use Rattle.array_writer.proofs.array.write_array.Given as given
use Rattle.array_writer.proofs.array.write_array.Goals as goal
use Rattle.array_writer.proofs.array.write_array.Goals.{After-as_unsigned}

-- what is stored: the first value, and the others
parts : (g : given.Over) (c : After-as_unsigned g) → map g.T.Stored.as_z c.args.values.now ≡ to_z w64 (of_z w64 c.to_signed-first.result) ∷ map g.T.Stored.as_z c.in-Some.rest.now
parts g c =
    let s = c.to_signed-first in
    ap (map g.T.Stored.as_z) c.in-Some.ensures.cases.0 ∙ ap (λ (z : ℤ). z ∷ map g.T.Stored.as_z c.in-Some.rest.now) (sym (to_z-of_z {w = w64} (sfits_of s.type_inv) ∙ s.ensures))

fits : (g : given.Over) (c : After-as_unsigned g)
    → c.args.from * 8 + length (array_bits (to_z w64 (of_z w64 c.to_signed-first.result) ∷ map g.T.Stored.as_z c.in-Some.rest.now)) ≤ length c.args.buf.now * 8
fits g c = subst (λ (l : List ℤ). c.args.from * 8 + length (array_bits l) ≤ length c.args.buf.now * 8) (parts g c) c.requires

pub write_none-requires : goal.write_none-requires
write_none-requires g c = omega (arith, none_mapped g.T.Stored.as_z c.args.values.now c.in_default.ensures.cases)

pub returns-in_default : goal.returns-in_default
returns-in_default g c = (
  c.write_none.ensures.end ∙ none_end g.T.Stored.as_z c.args.values.now c.args.from c.in_default.ensures.cases,
  none_put g.T.Stored.as_z c.args.values.now c.args.buf.now c.args.from (λ j. search rules) c.requires c.write_none.new.buf c.in_default.ensures.cases c.write_none.ensures.buf,
)

pub write_head-p-requires : goal.write_head-p-requires
write_head-p-requires g c = omega (arith, fits g ((goal.at.write_head-p-requires g c).After-as_unsigned), parts_length (to_z w64 (of_z w64 c.to_signed-first.result)) (map g.T.Stored.as_z c.in-Some.rest.now))

pub write_codes-requires : goal.write_codes-requires
write_codes-requires g c =
    let q : ℕ = c.args.from * 8 + 96 in
    let l : length c.write_head-p.new.buf ≡ length c.args.buf.now = ap length c.write_head-p.ensures.buf ∙ length-put_list _ _ _ in (
      place_bit q c.write_head-p.ensures.place,
      omega (
        arith,
        place-pos q c.write_head-p.ensures.place,
        l,
        fits g ((goal.at.write_codes-requires g c).After-as_unsigned),
        parts_length (to_z w64 (of_z w64 c.to_signed-first.result)) (map g.T.Stored.as_z c.in-Some.rest.now),
      ),
    )

pub rounded-requires : goal.rounded-requires
rounded-requires g c =
    let p = place-pos (c.args.from * 8 + 96) c.write_head-p.ensures.place in
    let e = place-pos _ c.write_codes.ensures.0 in (
      omega (arith, p, e, fits g ((goal.at.rounded-requires g c).After-as_unsigned), parts_length (to_z w64 (of_z w64 c.to_signed-first.result)) (map g.T.Stored.as_z c.in-Some.rest.now)),
      place_bit _ c.write_codes.ensures.0,
    )

pub returns : goal.returns
returns g c =
    let at = (goal.at.returns g c).After-as_unsigned in
    let z : ℤ = to_z w64 (of_z w64 c.to_signed-first.result) in
    let zs : List ℤ = map g.T.Stored.as_z c.in-Some.rest.now in
    let n : length c.args.values.now ≡ length (z ∷ zs) = omega (arith, ap length (parts g at), length-map c.args.values.now g.T.Stored.as_z) in
    subst (λ (l : List ℤ). ArrayPut c.args.buf.now c.args.from l c.rounded.result c.write_codes.new.buf) (sym (parts g at)) (
      c.rounded.ensures ∙ array_end z zs c.args.from c.write_head-p.ensures.place c.write_codes.ensures.0,
      array_put z zs c.args.from c.args.buf.now (λ j. search rules) (fits g at) c.write_head-p.new.buf c.write_codes.new.buf _ _ n c.as_unsigned.ensures c.write_head-p.ensures.place
          c.write_head-p.ensures.buf c.write_codes.ensures.1,
    )
