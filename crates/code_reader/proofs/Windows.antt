-- The bits of a window. Assumes nothing.
use Prim.Native.Nat.{ℕ, zero, suc, ◌+◌, ◌-◌, ◌*◌, ◌/◌, ◌%◌, ◌^◌, ◌≤◌, ◌<◌}
use mathlib.Core.Path.{◌≡◌, refl, sym, ap, ap₂, ◌∙◌}
use mathlib.Core.List.{List, []}
use native.Mathlib.Nat.{add-zero, not-suc-le-zero, zero-div}
use native.Mathlib.Omega.{arith}
use borrow.Author.Tests.{lt-ltb, le-ltb}
use lib.Arith.{digits_div, digits_mod}
use lib.ListN.{length, drop, length-drop}
use lib.Pow.{field, shl-shr, shr-shr}
use Rattle.raw_bits.specs.Inner.{bit_at, bits_at}
use Rattle.bits.specs.Place.{pos_of}
use Rattle.raw_bits.proofs.Bits.{bit_at_lt, bits_at-add, bits_at_lt}
use Rattle.bit_lists.specs.BitList.{bits_of}
use Rattle.bit_lists.proofs.Lists.{length-bits_of}
use Rattle.gorilla.specs.Parser.{read, refused, take_bits}
use Rattle.gorilla.proofs.Bridge.{take_at, take_short}
use Rattle.code_reader.specs.Inner.{Holds}
use Rattle.code_reader.specs.declared.window.Window.{Window}

-- a place as a count of bits
pub pos-at : (len b r : ℕ) → r < 8 → b < len → pos_of len (record { byte = b; bit = r }) ≡ b * 8 + r
unfolding pos_of
pos-at len b r k h = rw (lt-ltb b len h, lt-ltb r 8 k) refl

pub pos-past : (len b r : ℕ) → len ≤ b → pos_of len (record { byte = b; bit = r }) ≡ len * 8
unfolding pos_of
pos-past len b r h = rw (le-ltb b len h) refl

pub pos_wide : (len b r : ℕ) → b < len → 8 ≤ r → pos_of len (record { byte = b; bit = r }) ≡ len * 8
unfolding pos_of
pos_wide len b r h k = rw (lt-ltb b len h, le-ltb r 8 k) refl

-- k bits of a number of 64 bits that was moved up by j
moved : (x j k : ℕ) → j + k ≤ 64 → x * 2 ^ j % 2 ^ 64 / 2 ^ (64 - k) ≡ x / 2 ^ (64 - (j + k)) % 2 ^ k
moved x j k h =
    let c : ℕ = 64 - (j + k) in
    let e : 64 ≡ k + (j + c) = omega arith in
    let f : 64 - k ≡ j + c = omega arith in
    ap₂ (λ (u v : ℕ). x * 2 ^ j % 2 ^ u / 2 ^ v) e f ∙ field (x * 2 ^ j) k (j + c)
    ∙ ap (λ (u : ℕ). u % 2 ^ k) (sym (shr-shr (x * 2 ^ j) j c) ∙ ap (λ (u : ℕ). u / 2 ^ c) (shl-shr x j))

-- n bits of the word at byte b
in_word : (s : List ℕ) (b j n : ℕ) → j + n ≤ 64 → bits_at s (b * 8) 64 / 2 ^ (64 - (j + n)) % 2 ^ n ≡ bits_at s (b * 8 + j) n
in_word s b j n h =
    let c : ℕ = 64 - (j + n) in
    let e : 64 ≡ j + n + c = omega arith in
    ap (λ (u : ℕ). bits_at s (b * 8) u / 2 ^ c % 2 ^ n) e ∙ ap (λ (u : ℕ). u / 2 ^ c % 2 ^ n) (bits_at-add s (b * 8) (j + n) c)
    ∙ ap (λ (u : ℕ). u % 2 ^ n) (digits_div (bits_at s (b * 8) (j + n)) (bits_at_lt s (b * 8 + (j + n)) c))
    ∙ ap (λ (u : ℕ). u % 2 ^ n) (bits_at-add s (b * 8) j n) ∙ digits_mod (bits_at s (b * 8) j) (bits_at_lt s (b * 8 + j) n)

-- the word at byte b, moved up by j, has the bits from b * 8 + j on
pub word_moved : (s : List ℕ) (b j k : ℕ) {word : ℕ} → word ≡ bits_at s (b * 8) 64 → j + k ≤ 64 → word * 2 ^ j % 2 ^ 64 / 2 ^ (64 - k) ≡ bits_at s (b * 8 + j) k
word_moved s b j k e h = moved _ j k h ∙ ap (λ (u : ℕ). u / 2 ^ (64 - (j + k)) % 2 ^ k) e ∙ in_word s b j k h

-- ... and so is a window
pub word_held : (s : List ℕ) (b j q : ℕ) {word : ℕ} → word ≡ bits_at s (b * 8) 64 → q ≡ b * 8 + j → j < 64 → b + 8 ≤ length s → (64 - j < 36 → b + 8 ≡ length s)
    → Holds s q (record { bits = word * 2 ^ j % 2 ^ 64; have = 64 - j })
word_held s b j q e f h k l =
    record {
      within = omega arith;
      most = omega arith;
      value = λ n m. word_moved s b j n e (omega (arith, m)) ∙ ap (λ (u : ℕ). bits_at s u n) (sym f);
      last = λ m. let z : b + 8 ≡ length s = l m in omega arith;
    }

-- no bits
no_bits : (s : List ℕ) (q k : ℕ) → k ≤ 0 → 0 / 2 ^ (64 - k) ≡ bits_at s q k
unfolding bits_at
no_bits s q zero h = zero-div (2 ^ 64)
no_bits s q (suc k) h = absurd (not-suc-le-zero h)

pub none_held : (s : List ℕ) (q : ℕ) → q ≡ length s * 8 → Holds s q (record { bits = 0; have = 0 })
none_held s q e = record { within = omega arith; most = omega arith; value = no_bits s q; last = λ h. omega arith }

-- ---- what a window has
module _ {s : List ℕ} {q : ℕ} {w : Window} (h : Holds s q w) where
  -- one bit
  pub bit_in : (n : ℕ) → n < w.have → w.bits / 2 ^ (63 - n) % 2 ≡ bit_at s (q + n)
  unfolding bits_at
  bit_in n k =
      let e : 63 - n ≡ 64 - suc n = omega arith in
      ap (λ (u : ℕ). w.bits / 2 ^ u % 2) e ∙ ap (λ (u : ℕ). u % 2) (h.value (suc n) k) ∙ digits_mod (bits_at s q n) (bit_at_lt s (q + n))

  -- n bits after k
  pub bits_in : (k n : ℕ) → k + n ≤ w.have → w.bits / 2 ^ (64 - (k + n)) % 2 ^ n ≡ bits_at s (q + k) n
  bits_in k n l = ap (λ (u : ℕ). u % 2 ^ n) (h.value (k + n) l ∙ bits_at-add s q k n) ∙ digits_mod (bits_at s q k) (bits_at_lt s (q + k) n)

  -- the next bit, taken off
  pub bit_off : (n : ℕ) → n < w.have → take_bits 1 [] (drop (q + n) (bits_of s)) ≡ read (w.bits / 2 ^ (63 - n) % 2) (drop (q + (n + 1)) (bits_of s))
  unfolding bits_at
  bit_off n k =
      let e : q + n + 1 ≡ q + (n + 1) = omega arith in
      let b : bits_at s (q + n) 1 ≡ w.bits / 2 ^ (63 - n) % 2 = ap (λ (u : ℕ). 0 * 2 + bit_at s u) (add-zero (q + n)) ∙ omega (arith, bit_in n k) in
      take_at [] s 1 (q + n) (omega (arith, h.within)) ∙ ap₂ (λ (u v : ℕ). read u (drop v (bits_of s))) b e

  -- none is left after n
  pub none_off : (n : ℕ) → n ≡ w.have → n < 36 → take_bits 1 [] (drop (q + n) (bits_of s)) ≡ refused []
  none_off n e k = let l : q + w.have ≡ length s * 8 = h.last (omega arith) in take_short [] s 1 (q + n) (omega arith) (omega arith)

  -- all that is left from its start on is in it
  pub left_in : w.have < 36 → w.have ≡ length (drop q (bits_of s))
  left_in k = let l : q + w.have ≡ length s * 8 = h.last k in omega (arith, length-drop q (bits_of s), length-bits_of s)

  -- n bits that are the number 0
  pub zero_in : w.bits ≡ 0 → (j : ℕ) → j < w.have → bit_at s (q + j) ≡ 0
  zero_in e j k = sym (bit_in j k) ∙ ap (λ (u : ℕ). u / 2 ^ (63 - j) % 2) e ∙ ap (λ (u : ℕ). u % 2) (zero-div (2 ^ (63 - j)))
