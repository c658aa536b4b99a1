-- What our own functions promise each other. No public statement cites this file.
use Rattle.std.specs.Prelude.{ℕ, ◌<◌, ◌≡◌, Bool, true, false, ltb, ℤ, pos, negsuc, refl}
use Rattle.std.specs.Int.Signed.{lt_z}
use Rattle.std.proofs.Common.{sym, arith}
use mathlib.Core.Bool.{true≢false, false≢true}
use borrow.Author.Tests.{lt-ltb, le-ltb, ltb-true, ltb-false}

-- the test holds at no number below n
abbrev pub NoneBelow : (ℕ → Bool) → ℕ → Type 0
NoneBelow t n = (j : ℕ) → j < n → t j ≡ false

-- the three laws of an order test, and that the tests of numbers and of signed numbers have them
pub record Order {K : Type 0} (lt : K → K → Bool) : Type 0 where
  pub asym : (a b : K) → lt a b ≡ true → lt b a ≡ false
  pub le_lt : (a b c : K) → lt b a ≡ false → lt b c ≡ true → lt a c ≡ true
  pub lt_le : (a b c : K) → lt a b ≡ true → lt c b ≡ false → lt a c ≡ true

pub nat_order : Order ltb
nat_order = record {
  asym = λ a b e. le-ltb b a (omega (arith, ltb-true a b e));
  le_lt = λ a b c e f. lt-ltb a c (omega (arith, ltb-false b a e, ltb-true b c f));
  lt_le = λ a b c e f. lt-ltb a c (omega (arith, ltb-true a b e, ltb-false c b f));
}

asym_z : (a b : ℤ) → lt_z a b ≡ true → lt_z b a ≡ false
asym_z (pos a) (pos b) e = nat_order.asym a b e
asym_z (pos a) (negsuc b) e = sym e
asym_z (negsuc a) (pos b) e = refl
asym_z (negsuc a) (negsuc b) e = nat_order.asym b a e

le_lt_z : (a b c : ℤ) → lt_z b a ≡ false → lt_z b c ≡ true → lt_z a c ≡ true
le_lt_z (pos a) (pos b) (pos c) e f = nat_order.le_lt a b c e f
le_lt_z (pos a) (pos b) (negsuc c) e f = f
le_lt_z (pos a) (negsuc b) c e f = absurd (true≢false e)
le_lt_z (negsuc a) b (pos c) e f = refl
le_lt_z (negsuc a) (pos b) (negsuc c) e f = absurd (false≢true f)
le_lt_z (negsuc a) (negsuc b) (negsuc c) e f = nat_order.lt_le c b a f e

lt_le_z : (a b c : ℤ) → lt_z a b ≡ true → lt_z c b ≡ false → lt_z a c ≡ true
lt_le_z (pos a) (pos b) (pos c) e f = nat_order.lt_le a b c e f
lt_le_z (pos a) (pos b) (negsuc c) e f = absurd (true≢false f)
lt_le_z (pos a) (negsuc b) c e f = absurd (false≢true e)
lt_le_z (negsuc a) b (pos c) e f = refl
lt_le_z (negsuc a) (pos b) (negsuc c) e f = absurd (true≢false f)
lt_le_z (negsuc a) (negsuc b) (negsuc c) e f = nat_order.le_lt c b a f e

pub int_order : Order lt_z
int_order = record { asym = asym_z; le_lt = le_lt_z; lt_le = lt_le_z }
