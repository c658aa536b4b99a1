-- Laws of a write, of the definition that its statement cites: the buffer's bits afterwards, what reads back, and two writes in a row. Assumes nothing.
use Prim.Native.Nat.{ℕ, zero, suc, ◌+◌, ◌-◌, ◌*◌, ◌%◌, ◌^◌, ◌≤◌, ◌<◌}
use mathlib.Core.Path.{◌≡◌, refl, sym, ap, ap₂, ◌∙◌}
use mathlib.Core.List.{List, ◌++◌, append_assoc}
use native.Mathlib.Nat.{mod-one}
use native.Mathlib.Omega.{arith}
use borrow.Author.Tests.{le-ltb}
use lib.ListN.{length, get_or, take, drop, replicate, length-append, length-drop}
use lib.Seq.{take_at, drop_at, length-take-le}
use Rattle.told.specs.Told.{gave}
use Rattle.told.specs.Over.{over}
use Rattle.bit_lists.specs.BitList.{nat_bits, bits_of, nat_from, byte_len, packed}
use Rattle.raw_bits.specs.Inner.{bits_at, put_bits}
use Rattle.raw_bits.proofs.Bits.{length-put_bits}
use Rattle.bit_lists.proofs.Joined.{bytes, put_bits_join}
use Rattle.bit_lists.proofs.Lists.{length-nat_bits, length-bits_of, bits_of-append}
use Rattle.bit_lists.proofs.Packing.{AllBits, bits_nat_bits, bits_append, bits_take, bits_of_lem, from_nat, bits_packed, length-packed}
use Rattle.bit_lists.proofs.Written.{from_at}
use Rattle.bits.specs.Place.{pos_of, place_of}
use Rattle.bits.specs.Read.{read_rule}
use Rattle.bits.specs.Write.{write_rule, written}
use Rattle.bits.specs.declared.Place.{Place}
use Rattle.bits.proofs.Answers.{pos_le, pos-place, read-value, write_done}

module _ (s : List ℕ) (at : Place) (v n : ℕ) (h : suc n ≤ 64) (g : pos_of (length s) at + suc n ≤ length s * 8) where
  abbrev p : ℕ
  p = pos_of (length s) at

  abbrev before : List ℕ
  before = take p (bits_of s)

  length_before : length before ≡ p
  length_before = length-take-le p (bits_of s) (omega (arith, pos_le (length s) at, length-bits_of s))

  length-new : length (before ++ nat_bits (suc n) v) ≡ p + suc n
  length-new = length-append before (nat_bits (suc n) v) ∙ ap₂ (λ (a b : ℕ). a + b) length_before (length-nat_bits (suc n) v)

  written_is : written s at v (suc n) ≡ over (packed (before ++ nat_bits (suc n) v)) s
  unfolding written write_rule
  written_is = simp (le-ltb _ _ h, le-ltb _ _ g)

  -- the bits before the place stay, then stand the bits written, zeros to the end of their last byte, and the bytes after it as they were
  pub written_bits : bits_of (written s at v (suc n))
      ≡ take p (bits_of s) ++ nat_bits (suc n) v ++ replicate (byte_len (p + suc n) * 8 - (p + suc n)) 0 ++ bits_of (drop (byte_len (p + suc n)) s)
  written_bits =
      let bs : List ℕ = before ++ nat_bits (suc n) v in
      let f : AllBits bs = bits_append before (nat_bits (suc n) v) (bits_take p (bits_of s) (bits_of_lem s)) (bits_nat_bits (suc n) v) in
      ap bits_of written_is ∙ bits_of-append (packed bs) (drop (length (packed bs)) s)
      ∙ ap₂ (λ (a b : List ℕ). a ++ b) (bits_packed bs f) (ap (λ (k : ℕ). bits_of (drop k s)) (length-packed bs))
      ∙ ap (λ (k : ℕ). bs ++ replicate (byte_len k * 8 - k) 0 ++ bits_of (drop (byte_len k) s)) length-new

  same_length : length (written s at v (suc n)) ≡ length s
  same_length =
      let w : List ℕ = packed (before ++ nat_bits (suc n) v) in
      ap length written_is ∙ length-append w (drop (length w) s) ∙ omega (arith, length-drop (length w) s, length-packed (before ++ nat_bits (suc n) v), length-new, g)

  value-back : nat_from 0 (take (suc n) (drop p (bits_of (written s at v (suc n))))) ≡ v % 2 ^ suc n
  value-back =
      let z : List ℕ = replicate (byte_len (p + suc n) * 8 - (p + suc n)) 0 in
      let d : List ℕ = bits_of (drop (byte_len (p + suc n)) s) in
      let ns : List ℕ = nat_bits (suc n) v in
      let e : before ++ ns ++ z ++ d ≡ before ++ (ns ++ (z ++ d)) = simp append_assoc in
      ap (λ (bs : List ℕ). nat_from 0 (take (suc n) (drop p bs))) (written_bits ∙ e)
      ∙ ap (λ (bs : List ℕ). nat_from 0 (take (suc n) bs)) (drop_at before (ns ++ (z ++ d)) p length_before)
      ∙ ap (nat_from 0) (take_at ns (z ++ d) (suc n) (length-nat_bits (suc n) v)) ∙ from_nat (suc n) 0 v ∙ omega arith

-- what was written is read back at its place: the low bits of the value
pub reads_back : (s : List ℕ) (at : Place) (v n : ℕ) → n ≤ 64 → pos_of (length s) at + n ≤ length s * 8
    → gave (record { value = v % 2 ^ n; next = place_of (pos_of (length s) at + n) }) ≡ read_rule (written s at v n) at n
unfolding written bits_at
reads_back s at v zero h g = read-value s at 0 (pos_of (length s) at) h refl g (mod-one v) refl
reads_back s at v (suc n) h g =
    let t : List ℕ = written s at v (suc n) in
    let l : length t ≡ length s = same_length s at v n h g in
    let k : pos_of (length s) at + suc n ≤ length t * 8 = omega (arith, l, g) in
    read-value t at (suc n) (pos_of (length s) at) h (ap (λ (m : ℕ). pos_of m at) (sym l)) k
    (sym (value-back s at v n h g) ∙ from_at t (pos_of (length s) at) (suc n) k) refl

-- by positions
put_is : (s : List ℕ) (at : Place) (v n : ℕ) → ((j : ℕ) → get_or s j 0 < 256) → n ≤ 64 → pos_of (length s) at + n ≤ length s * 8
    → put_bits s (pos_of (length s) at) v n ≡ written s at v n
put_is s at v n b h g = (write_done s (put_bits s (pos_of (length s) at) v n) at v n (pos_of (length s) at) b h refl g refl refl).1

-- a write, and one at the place after it, are one write of both
pub two_writes : (s : List ℕ) (at : Place) (v n w m : ℕ) → ((j : ℕ) → get_or s j 0 < 256) → n + m ≤ 64 → pos_of (length s) at + (n + m) ≤ length s * 8
    → written (written s at v n) (place_of (pos_of (length s) at + n)) w m ≡ written s at (v * 2 ^ m + w % 2 ^ m) (n + m)
two_writes s at v n w m b h g =
    let p : ℕ = pos_of (length s) at in
    let t : List ℕ = put_bits s p v n in
    let l : length t ≡ length s = length-put_bits s p v n in
    let e : pos_of (length t) (place_of (p + n)) ≡ p + n = pos-place (length t) (p + n) (omega (arith, l, g)) in
    ap (λ (u : List ℕ). written u (place_of (p + n)) w m) (sym (put_is s at v n b (omega arith) (omega arith)))
    ∙ sym (put_is t (place_of (p + n)) w m (bytes s p v n b) (omega arith) (omega (arith, e, l, g)))
    ∙ ap (λ (q : ℕ). put_bits t q w m) e ∙ put_bits_join s p v n w m ∙ put_is s at (v * 2 ^ m + w % 2 ^ m) (n + m) b h g
