-- A law that several proofs cite. Assumes nothing.
use Rattle.std.proofs.Common.{◌≡◌, true, false, T, sym, subst}

-- no test is both true and false
pub never {ℓ} : {X : Type ℓ} → false ≡ true → X
never e = absurd (subst T (sym e) tt)
