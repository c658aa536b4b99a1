use native.Mathlib.Omega.{arith}
use Prim.Native.Nat.{ℕ, ◌+◌, ◌*◌, ◌%◌, ◌^◌, ◌≤◌, ◌<◌}
use mathlib.Core.Path.{◌≡◌, sym, ap}
use lib.Pow.{shl_exact, pow-add, pow_mono}
use lib.Arith.{digits_lt}
use Rattle.code_writer.proofs.code.joined.Goals as goal
use Rattle.code_writer.proofs.code.joined.Goals.{Start}

whole : (p n w x : ℕ) → p < 2 ^ n → x < 2 ^ w → n + w ≤ 64 → (p * 2 ^ w % 2 ^ 64 ≡ p * 2 ^ w) × (p * 2 ^ w + x < 2 ^ 64)
whole p n w x h k l =
    let e : 2 ^ n * 2 ^ w ≡ 2 ^ (n + w) = sym (pow-add 2 n w) in
    let m : 2 ^ (n + w) ≤ 2 ^ 64 = pow_mono l in
    let b : p * 2 ^ w + x < 2 ^ n * 2 ^ w = digits_lt h k in
    (shl_exact {a = p} n w 64 h l, omega (arith, e, m, b))

whole_of : (st : Start) → (st.args.a.value * 2 ^ st.args.b.width % 2 ^ 64 ≡ st.args.a.value * 2 ^ st.args.b.width) × (st.args.a.value * 2 ^ st.args.b.width + st.args.b.value < 2 ^ 64)
whole_of st = whole st.args.a.value st.args.a.width st.args.b.width st.args.b.value st.requires.0 st.requires.1 st.requires.2

pub overflow_add-result : goal.overflow_add-result
overflow_add-result c = omega (arith, whole_of (goal.at.overflow_add-result c).Start)

pub returns : goal.returns
returns c =
    ap (λ (u : ℕ). record { value = u + c.args.b.value; width = c.args.a.width + c.args.b.width }) (whole_of (goal.at.returns c).Start).0
