-- Two's complement: round trips, a sum undoes a difference, and exactness where nothing wraps. Assumes nothing.
use Rattle.std.proofs.Common.{◌≡◌, ℕ, ◌^◌, ◌<◌, ℤ, pos, negsuc, ap, ◌∙◌, arith, to_z-of_z, w64, SFits}
use mir.Facts.{of_z-to_z}
use Rattle.signed.specs.Signed.{signed, pattern, sub_w, add_w, sub_s, add_s}

-- ---- round trips
pub pattern-signed : (u : ℕ) → u < 2 ^ 64 → pattern (signed u) ≡ u
pattern-signed u h = of_z-to_z {w = w64} {n = u} (record { fits = h })

pub signed-pattern : (z : ℤ) → SFits w64 z → signed (pattern z) ≡ z
signed-pattern z f = to_z-of_z f

-- ---- a sum undoes a difference, and the other way round
pub add-sub : (a b : ℕ) → a < 2 ^ 64 → b < 2 ^ 64 → add_w (sub_w a b) b ≡ a
add-sub a b h k = omega arith

pub sub-add : (a b : ℕ) → a < 2 ^ 64 → b < 2 ^ 64 → sub_w (add_w a b) b ≡ a
sub-add a b h k = omega arith

-- of signed numbers
pub sub_lt : (a b : ℕ) → sub_w a b < 2 ^ 64
sub_lt a b = omega arith

pattern_lt : (z : ℤ) → SFits w64 z → pattern z < 2 ^ 64
pattern_lt (pos n) f = omega (arith, f.sfits)
pattern_lt (negsuc n) f = omega (arith, f.sfits)

pub add_s-sub_s : (a b : ℤ) → SFits w64 a → SFits w64 b → add_s (sub_s a b) b ≡ a
add_s-sub_s a b f g =
    ap (λ (n : ℕ). signed (add_w n (pattern b))) (pattern-signed (sub_w (pattern a) (pattern b)) (sub_lt (pattern a) (pattern b)))
    ∙ ap signed (add-sub (pattern a) (pattern b) (pattern_lt a f) (pattern_lt b g)) ∙ signed-pattern a f
