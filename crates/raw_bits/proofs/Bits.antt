-- The laws of bits that the proofs cite. Assumes nothing.
use Prim.Native.Nat.{ℕ, zero, suc, ◌+◌, ◌-◌, ◌*◌, ◌/◌, ◌%◌, ◌^◌, ◌≤◌, ◌<◌}
use mathlib.Core.Path.{◌≡◌, subst, refl, sym, ap, ap₂, ◌∙◌}
use mathlib.Core.List.{List, [], ◌∷◌}
use native.Mathlib.Nat.{add-zero, add-suc, mul_assoc, add-mul, add_assoc, zero-lt-suc, mod-lt, pow-suc, div-one, mod-one, lt_of_lt_of_le, one-mul, pow-succ', div-div-eq-div-mul, mul-div_cancel, mod-eq_of_lt, not-suc-le-zero}
use lib.Seq.{set-set, get_or-set_same}
use native.Mathlib.Numerals.{add-one}
use native.Mathlib.Omega.{arith}
use lib.ListN.{length, get_or, set, length-set}
use lib.Pow.{shl_lt, shr_lt, shl_exact, pow_pos, pow_mono, pow-add, shr-shr, mod-pow-add}
use lib.Arith.{digits_lt}
use Rattle.raw_bits.specs.Inner.{bit_at, bits_at, put_bit, put_bits}

pub bit_at_lt : (s : List ℕ) (p : ℕ) → bit_at s p < 2
unfolding bit_at
bit_at_lt s p = mod-lt _ (zero-lt-suc 1)

-- the byte and the bit of a place
pub byte_of : (b r : ℕ) → r < 8 → (b * 8 + r) / 8 ≡ b
byte_of b r h = omega arith

pub bit_of : (b r : ℕ) → r < 8 → (b * 8 + r) % 8 ≡ r
bit_of b r h = omega arith

pub bit_at_eq : (s : List ℕ) (b r : ℕ) → r < 8 → bit_at s (b * 8 + r) ≡ get_or s b 0 / 2 ^ (7 - r) % 2
unfolding bit_at
bit_at_eq s b r h = rw (byte_of b r h, bit_of b r h)

-- n bits are a number below 2 ^ n
pub bits_at_lt : (s : List ℕ) (p n : ℕ) → bits_at s p n < 2 ^ n
unfolding bits_at
bits_at_lt s p zero = omega arith
bits_at_lt s p (suc n) = omega (arith, pow-suc 2 n, bits_at_lt s p n, bit_at_lt s (p + n))

-- a and then b bits
pub bits_at-add : (s : List ℕ) (p a b : ℕ) → bits_at s p (a + b) ≡ bits_at s p a * 2 ^ b + bits_at s (p + a) b
unfolding bits_at
bits_at-add s p a zero = rw add-zero (omega arith)
bits_at-add s p a (suc b) =
    rw (add-suc, bits_at-add s p a b, pow-suc, ← mul_assoc, add_assoc p a b) (omega arith)

-- n bits within one byte
pub bits_at-byte : (s : List ℕ) (b r n : ℕ) → r + n ≤ 8 → bits_at s (b * 8 + r) n ≡ get_or s b 0 / 2 ^ (8 - (r + n)) % 2 ^ n
unfolding bits_at
bits_at-byte s b r zero h = sym (mod-one _)
bits_at-byte s b r (suc n) h =
    let k : r + n < 8 = omega (arith, add-suc r n) in
    let e : 8 - (r + n) ≡ (7 - (r + n)) + 1 = omega arith in
    let f : 8 - (r + suc n) ≡ 7 - (r + n) = omega (arith, add-suc r n) in
    let x : ℕ = get_or s b 0 / 2 ^ (7 - (r + n)) in
    ap₂ (λ (u v : ℕ). u * 2 + v)
    (bits_at-byte s b r n (omega arith) ∙ ap (λ (u : ℕ). get_or s b 0 / 2 ^ u % 2 ^ n) e ∙ ap (λ (u : ℕ). u % 2 ^ n) (sym (shr-shr (get_or s b 0) (7 - (r + n)) 1)))
    (ap (bit_at s) (add_assoc (b * 8) r n) ∙ bit_at_eq s b (r + n) k)
    ∙ sym (mod-pow-add x n 1)
    ∙ ap₂ (λ (u v : ℕ). get_or s b 0 / 2 ^ u % 2 ^ v) (sym f) (add-one n)

pub bits_at-fits : (s : List ℕ) (p n : ℕ) → n ≤ 64 → bits_at s p n < 2 ^ 64
bits_at-fits s p n h = lt_of_lt_of_le (bits_at_lt s p n) (pow_mono h)

-- 1 << t
pub one_shl : (t : ℕ) → t < 64 → 1 * 2 ^ t % 2 ^ 64 ≡ 2 ^ t
one_shl t h = shl_exact {a = 1} 1 t 64 (omega arith) (omega arith) ∙ one-mul (2 ^ t)

-- a and then n bits, v and f, as the reader joins them
pub take-some : (s : List ℕ) (p k b r t : ℕ) {v f x : ℕ} → v ≡ bits_at s p k → b * 8 + r ≡ p + k → r + t ≤ 8 → k + t ≤ 64
    → x ≡ get_or s b 0 → f ≡ x / 2 ^ (8 - (r + t)) % 2 ^ t → v * 2 ^ t % 2 ^ 64 + f ≡ bits_at s p (k + t)
take-some s p k b r t e g h l d f =
    ap₂ (λ (u w : ℕ). u + w)
    (ap (λ (u : ℕ). u * 2 ^ t % 2 ^ 64) e ∙ shl_exact k t 64 (bits_at_lt s p k) l)
    (f ∙ ap (λ (u : ℕ). u / 2 ^ (8 - (r + t)) % 2 ^ t) d ∙ sym (bits_at-byte s b r t h) ∙ ap (λ (u : ℕ). bits_at s u t) g)
    ∙ sym (bits_at-add s p k t)

-- ---- writing

pub length-put_bits : (s : List ℕ) (p v n : ℕ) → length (put_bits s p v n) ≡ length s
unfolding put_bits put_bit
length-put_bits s p v zero = refl
length-put_bits s p v (suc n) = simp length-set (length-put_bits s p (v / 2) n)

-- a and then b bits
pub put_bits-add : (s : List ℕ) (p v a b : ℕ) → put_bits s p v (a + b) ≡ put_bits (put_bits s p (v / 2 ^ b) a) (p + a) v b
unfolding put_bits
put_bits-add s p v a zero = ap₂ (λ (x y : ℕ). put_bits s p x y) (sym (div-one v)) (add-zero a)
put_bits-add s p v a (suc b) =
    ap (put_bits s p v) (add-suc a b)
    ∙ ap₂ (λ (l : List ℕ) (x : ℕ). put_bit l x (v % 2))
    (put_bits-add s p (v / 2) a b ∙ ap (λ (x : ℕ). put_bits (put_bits s p x a) (p + a) (v / 2) b) (div-div-eq-div-mul v 2 (2 ^ b) ∙ ap (λ (x : ℕ). v / x) (sym (pow-succ' 2 b))))
    (sym (add_assoc p a b))

pub put_bit_eq : (s : List ℕ) (b r c : ℕ) → r < 8 → put_bit s (b * 8 + r) c ≡ set s b (get_or s b 0 / 2 ^ (8 - r) * 2 ^ (8 - r) + c * 2 ^ (7 - r))
unfolding put_bit
put_bit_eq s b r c h = rw (byte_of b r h, bit_of b r h)

-- the byte x with n bits v from r on
abbrev pub merged : ℕ → ℕ → ℕ → ℕ → ℕ
merged x r n v = x / 2 ^ (8 - r) * 2 ^ (8 - r) + v % 2 ^ n * 2 ^ (8 - (r + n))

-- one more bit
merged_suc : (x r n v : ℕ) → r + n < 8 → merged x r n (v / 2) / 2 ^ (8 - (r + n)) * 2 ^ (8 - (r + n)) + v % 2 * 2 ^ (7 - (r + n)) ≡ merged x r (suc n) v
merged_suc x r n v h =
    let q : ℕ = 7 - (r + n) in
    let w : ℕ = v / 2 % 2 ^ n in
    let hi : ℕ = x / 2 ^ (8 - r) in
    let M : ℕ = 2 ^ (8 - (r + n)) in
    let e : 8 - r ≡ n + (8 - (r + n)) = omega arith in
    let f : 8 - (r + n) ≡ suc q = omega arith in
    let g : 8 - (r + suc n) ≡ q = omega (arith, add-suc r n) in
    let A : hi * 2 ^ (8 - r) ≡ hi * 2 ^ n * M = ap (λ (u : ℕ). hi * u) (ap (λ (u : ℕ). 2 ^ u) e ∙ pow-add 2 n (8 - (r + n))) ∙ sym (mul_assoc hi (2 ^ n) M) in
    let B : merged x r n (v / 2) ≡ (hi * 2 ^ n + w) * M = ap (λ (u : ℕ). u + w * M) A ∙ sym (add-mul (hi * 2 ^ n) w M) in
    let C : merged x r n (v / 2) / M * M ≡ merged x r n (v / 2) = ap (λ (u : ℕ). u / M * M) B ∙ ap (λ (u : ℕ). u * M) (mul-div_cancel (hi * 2 ^ n + w) (pow_pos (8 - (r + n)))) ∙ sym B in
    let D : w * M ≡ w * 2 * 2 ^ q = ap (λ (u : ℕ). w * u) (ap (λ (u : ℕ). 2 ^ u) f ∙ pow-succ' 2 q) ∙ sym (mul_assoc w 2 (2 ^ q)) in
    let E : v % 2 ^ suc n ≡ w * 2 + v % 2 = ap (λ (u : ℕ). v % 2 ^ u) (sym (add-one n)) ∙ mod-pow-add v n 1 in
    let F : v % 2 ^ suc n * 2 ^ (8 - (r + suc n)) ≡ w * 2 * 2 ^ q + v % 2 * 2 ^ q = ap₂ (λ (u z : ℕ). u * 2 ^ z) E g ∙ add-mul (w * 2) (v % 2) (2 ^ q) in
    omega (arith, C, D, F)

-- the first n + 1 bits, within one byte
pub put_bits-byte : (s : List ℕ) (b r v n : ℕ) → b < length s → r + suc n ≤ 8 → put_bits s (b * 8 + r) v (suc n) ≡ set s b (merged (get_or s b 0) r (suc n) v)
unfolding put_bits
put_bits-byte s b r v zero k h =
    ap (λ (u : ℕ). put_bit s u (v % 2)) (add-zero (b * 8 + r)) ∙ put_bit_eq s b r (v % 2) (omega arith)
    ∙ ap (λ (u : ℕ). set s b (get_or s b 0 / 2 ^ (8 - r) * 2 ^ (8 - r) + v % 2 * 2 ^ u)) (omega arith)
put_bits-byte s b r v (suc n) k h =
    let x : ℕ = get_or s b 0 in
    let i : r + suc n < 8 = omega (arith, add-suc r (suc n)) in
    let y : ℕ = merged x r (suc n) (v / 2) in
    ap₂ (λ (l : List ℕ) (u : ℕ). put_bit l u (v % 2)) (put_bits-byte s b r (v / 2) n k (omega arith)) (add_assoc (b * 8) r (suc n))
    ∙ put_bit_eq (set s b y) b (r + suc n) (v % 2) i
    ∙ set-set s b y _
    ∙ ap (λ (u : ℕ). set s b (u / 2 ^ (8 - (r + suc n)) * 2 ^ (8 - (r + suc n)) + v % 2 * 2 ^ (7 - (r + suc n)))) (get_or-set_same s b y 0 k)
    ∙ ap (set s b) (merged_suc x r (suc n) v i)

-- a byte stays a byte
pub merge_lt : (x r t c : ℕ) → x < 256 → r + t ≤ 8 → c < 2 ^ t → x / 2 ^ (8 - r) * 2 ^ (8 - r) + c * 2 ^ (8 - (r + t)) < 256
merge_lt x r t c hx h hc =
    let e : 8 ≡ r + (8 - r) = omega arith in
    let f : t + (8 - (r + t)) ≡ 8 - r = omega arith in
    let lo : c * 2 ^ (8 - (r + t)) < 2 ^ (8 - r) = subst (λ (u : ℕ). c * 2 ^ (8 - (r + t)) < 2 ^ u) f (shl_lt t (8 - (r + t)) hc) in
    let hi : x / 2 ^ (8 - r) < 2 ^ r = shr_lt r (8 - r) (subst (λ (u : ℕ). x < 2 ^ u) e hx) in
    let g : 2 ^ r * 2 ^ (8 - r) ≡ 256 = sym (pow-add 2 r (8 - r)) ∙ ap (λ (u : ℕ). 2 ^ u) (sym e) in
    subst (λ (u : ℕ). x / 2 ^ (8 - r) * 2 ^ (8 - r) + c * 2 ^ (8 - (r + t)) < u) g (digits_lt hi lo)

-- the same as the code computes it, where no shift loses a bit
pub merge_eq : (x r t c : ℕ) {y : ℕ} → y ≡ x → x < 256 → r + t ≤ 8 → c < 2 ^ t
    → y / 2 ^ (8 - r) * 2 ^ (8 - r) % 2 ^ 64 + c * 2 ^ (8 - (r + t)) % 2 ^ 64 ≡ x / 2 ^ (8 - r) * 2 ^ (8 - r) + c * 2 ^ (8 - (r + t))
merge_eq x r t c e hx h hc =
    let l : x / 2 ^ (8 - r) * 2 ^ (8 - r) + c * 2 ^ (8 - (r + t)) < 256 = merge_lt x r t c hx h hc in
    ap₂ (λ (u v : ℕ). u + v)
    (ap (λ (u : ℕ). u / 2 ^ (8 - r) * 2 ^ (8 - r) % 2 ^ 64) e ∙ mod-eq_of_lt (omega arith))
    (mod-eq_of_lt (omega arith))

-- a turn of the writer: k of w bits are written, and the next t are put into byte b
pub put_some : (s u : List ℕ) (p v w k b r t : ℕ) {c y : ℕ} → u ≡ put_bits s p (v / 2 ^ (w - k)) k → b * 8 + r ≡ p + k → r + t ≤ 8 → 0 < t → k + t ≤ w
    → b < length u → c ≡ v / 2 ^ (w - (k + t)) % 2 ^ t → y ≡ get_or u b 0 / 2 ^ (8 - r) * 2 ^ (8 - r) + c * 2 ^ (8 - (r + t))
    → set u b y ≡ put_bits s p (v / 2 ^ (w - (k + t))) (k + t)
put_some s u p v w k b r zero e g h o l i d f = absurd (not-suc-le-zero o)
put_some s u p v w k b r (suc t) e g h o l i d f =
    let x : ℕ = v / 2 ^ (w - (k + suc t)) in
    let j : (w - (k + suc t)) + suc t ≡ w - k = omega (arith, l) in
    ap (set u b) (f ∙ ap (λ (z : ℕ). get_or u b 0 / 2 ^ (8 - r) * 2 ^ (8 - r) + z * 2 ^ (8 - (r + suc t))) d)
    ∙ sym (put_bits-byte u b r x t i h)
    ∙ ap₂ (λ (z : List ℕ) (q : ℕ). put_bits z q x (suc t)) (e ∙ ap (λ (z : ℕ). put_bits s p z k) (ap (λ (z : ℕ). v / 2 ^ z) (sym j) ∙ sym (shr-shr v (w - (k + suc t)) (suc t)))) g
    ∙ sym (put_bits-add s p x k (suc t))

-- ---- whole bytes
pub one_byte : (s : List ℕ) (b : ℕ) → get_or s b 0 < 256 → bits_at s (b * 8) 8 ≡ get_or s b 0
one_byte s b h =
    ap (λ (u : ℕ). bits_at s u 8) (sym (add-zero (b * 8))) ∙ bits_at-byte s b 0 8 (omega arith)
    ∙ ap (λ (u : ℕ). u % 256) (div-one (get_or s b 0)) ∙ mod-eq_of_lt h

pub next-byte : (s : List ℕ) (i k : ℕ) → get_or s (i + k) 0 < 256 → bits_at s (i * 8) (k * 8 + 8) ≡ bits_at s (i * 8) (k * 8) * 256 + get_or s (i + k) 0
next-byte s i k h =
    let e : i * 8 + k * 8 ≡ (i + k) * 8 = omega arith in
    bits_at-add s (i * 8) (k * 8) 8 ∙ ap (λ (u : ℕ). bits_at s (i * 8) (k * 8) * 256 + u) (ap (λ (u : ℕ). bits_at s u 8) e ∙ one_byte s (i + k) h)

-- ---- whole bytes written
pub byte-set : (s : List ℕ) (i x : ℕ) → ((j : ℕ) → get_or s j 0 < 256) → x < 256 → (j : ℕ) → get_or (set s i x) j 0 < 256
byte-set [] i x b h j = b j
byte-set (y ∷ ys) zero x b h zero = h
byte-set (y ∷ ys) zero x b h (suc j) = b (suc j)
byte-set (y ∷ ys) (suc i) x b h zero = b zero
byte-set (y ∷ ys) (suc i) x b h (suc j) = byte-set ys i x (λ k. b (suc k)) h j

-- l of w bits are left, and the next t are put into the untouched byte b
pub put_left : (s u : List ℕ) (p v w l b t : ℕ) {c y : ℕ} → l ≤ w → t ≤ l → t ≤ 8 → 0 < t → b * 8 + l ≡ p + w → u ≡ put_bits s p (v / 2 ^ l) (w - l) → b < length u → get_or u b 0 < 256
    → c ≡ v / 2 ^ (l - t) % 2 ^ t → y ≡ 0 / 2 ^ 8 * 2 ^ 8 + c * 2 ^ (8 - (0 + t)) → set u b y ≡ put_bits s p (v / 2 ^ (l - t)) (w - (l - t))
put_left s u p v w l b t {c} {y} hl ht h8 h0 hb hu hn hx hc hy =
    let e1 : l ≡ w - (w - l) = omega arith in
    let e2 : l - t ≡ w - (w - l + t) = omega arith in
    let e3 : w - l + t ≡ w - (l - t) = omega arith in
    let e4 : b * 8 + 0 ≡ p + (w - l) = omega arith in
    let z : 0 / 2 ^ 8 * 2 ^ 8 ≡ get_or u b 0 / 2 ^ 8 * 2 ^ 8 = omega arith in
    put_some s u p v w (w - l) b 0 t (hu ∙ ap (λ (q : ℕ). put_bits s p (v / 2 ^ q) (w - l)) e1) e4 (omega arith) h0 (omega arith) hn
    (hc ∙ ap (λ (q : ℕ). v / 2 ^ q % 2 ^ t) e2) (hy ∙ ap (λ (q : ℕ). q + c * 2 ^ (8 - (0 + t))) z)
    ∙ ap₂ (λ (q r : ℕ). put_bits s p (v / 2 ^ q) r) (sym e2) e3

-- t bits, and then the l that are left
pub put_total : (s u : List ℕ) (p v t l q : ℕ) → u ≡ put_bits s p (v / 2 ^ l) t → (0 < l → q ≡ p + t) → put_bits u q v l ≡ put_bits s p v (t + l)
unfolding put_bits
put_total s u p v t zero q e h = e ∙ ap₂ (λ (a b : ℕ). put_bits s p a b) (div-one v) (sym (add-zero t))
put_total s u p v t (suc l) q e h = ap₂ (λ (a : List ℕ) (b : ℕ). put_bits a b v (suc l)) e (h (omega arith)) ∙ sym (put_bits-add s p v t (suc l))

pub put_none : (s : List ℕ) (p v n : ℕ) → n ≡ 0 → s ≡ put_bits s p v n
unfolding put_bits
put_none s p v n e = ap (put_bits s p v) (sym e)

-- the first byte of a write
pub put_first : (s : List ℕ) (v w b r t : ℕ) {c y : ℕ} → r + t ≤ 8 → 0 < t → t ≤ w → b < length s
    → c ≡ v / 2 ^ (w - t) % 2 ^ t → y ≡ get_or s b 0 / 2 ^ (8 - r) * 2 ^ (8 - r) + c * 2 ^ (8 - (r + t)) → set s b y ≡ put_bits s (b * 8 + r) (v / 2 ^ (w - t)) t
put_first s v w b r t h h0 hw hb hc hy =
    let e : w - t ≡ w - (0 + t) = omega arith in
    let f : 0 + t ≡ t = omega arith in
    put_some s s (b * 8 + r) v w 0 b r t (put_none s (b * 8 + r) (v / 2 ^ (w - 0)) 0 refl) (sym (add-zero (b * 8 + r))) h h0 (omega arith) hb
    (hc ∙ ap (λ (q : ℕ). v / 2 ^ q % 2 ^ t) e) hy
    ∙ ap₂ (λ (q n : ℕ). put_bits s (b * 8 + r) (v / 2 ^ q) n) (sym e) f

pub put_all : (s : List ℕ) (p v l : ℕ) {m : ℕ} → m ≡ 0 → put_bits s p (v / 2 ^ m) (l - m) ≡ put_bits s p v l
put_all s p v l {m} e = let z : l - 0 ≡ l = omega arith in ap (λ (q : ℕ). put_bits s p (v / 2 ^ q) (l - q)) e ∙ ap₂ (λ (q n : ℕ). put_bits s p q n) (div-one v) z
