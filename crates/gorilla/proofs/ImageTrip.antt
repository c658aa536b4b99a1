-- An image is read back. Assumes nothing.
use Prim.Native.Nat.{ℕ, suc, ◌+◌, ◌-◌, ◌*◌, ◌/◌, ◌%◌, ◌^◌, ◌<◌}
use mathlib.Core.Path.{◌≡◌, refl, sym, ap, ap₂, ◌∙◌}
use mathlib.Core.Bool.{Bool, true}
use mathlib.Core.List.{List, [], ◌∷◌, ◌++◌, append_assoc, map}
use native.Mathlib.Omega.{arith}
use borrow.Author.Tests.{eq-eqb}
use lib.ListN.{length, get_or, drop, replicate, length-append, length-replicate, length-map}
use lib.Seq.{drop_at}
use lib.IntN.{ℤ, pos}
use mir.Syntax.{w64}
use mir.Facts.{sfits_to_z}
use Rattle.signed.specs.Signed.{signed, pattern, sub_s, add_s}
use Rattle.bit_lists.specs.BitList.{nat_bits, bits_of, byte_len}
use Rattle.gorilla.specs.Parser.{read}
use Rattle.gorilla.specs.Format.{code_bits, codes_bits, values_bits, array_bits, array_bytes, le_bytes, image_bytes}
use Rattle.gorilla.specs.Reading.{le_count, read_part, read_pairs, values_after}
use Rattle.gorilla.proofs.Taking.{take_is}
use Rattle.gorilla.proofs.Trip.{AllFit, received, sent_after, read_array_lem}
use Rattle.bit_lists.proofs.Lists.{length-bits_of, bits_of-append}
use Rattle.bit_lists.proofs.Packing.{AllBits, bits_nat_bits, bits_append, bits_packed}

-- ---- an array's bits are bits
bits_code : (d : ℤ) → AllBits (code_bits d)
unfolding code_bits
bits_code d = bits_append _ _ (bits_nat_bits _ _) (bits_nat_bits _ _)

bits_codes : (p e : ℤ) (xs : List ℤ) → AllBits (codes_bits p e xs)
unfolding codes_bits AllBits
bits_codes p e [] = tt
bits_codes p e (x ∷ xs) = bits_append (code_bits (sub_s (sub_s x p) e)) (codes_bits x (sub_s x p) xs) (bits_code (sub_s (sub_s x p) e)) (bits_codes x (sub_s x p) xs)

bits_values : (xs : List ℤ) → AllBits (values_bits xs)
unfolding values_bits AllBits
bits_values [] = tt
bits_values (x ∷ xs) = bits_append (nat_bits 64 (pattern x)) (codes_bits x (pos 0) xs) (bits_nat_bits 64 (pattern x)) (bits_codes x (pos 0) xs)

pub bits_array : (xs : List ℤ) → AllBits (array_bits xs)
unfolding array_bits
bits_array xs = bits_append _ _ (bits_nat_bits 32 (length xs)) (bits_values xs)

-- ---- one array of an image
pub length-after : (p e : ℤ) (ds : List ℤ) → length (values_after p e ds) ≡ length ds
unfolding values_after
length-after p e [] = refl
length-after p e (d ∷ ds) = ap suc (length-after (add_s p (add_s e d)) (add_s e d) ds)

length_sent : (p e : ℤ) (xs : List ℤ) → length (sent_after p e xs) ≡ length xs
unfolding sent_after
length_sent p e [] = refl
length_sent p e (x ∷ xs) = ap suc (length_sent x (sub_s x p) xs)

pub length_received : (xs : List ℤ) → length (received xs) ≡ length xs
unfolding received
length_received [] = refl
length_received (x ∷ xs) = ap suc (length-after x (pos 0) (sent_after x (pos 0) xs) ∙ length_sent x (pos 0) xs)

-- the padding is passed
align_is : (j : ℕ) (rest : List ℕ) → j < 8 → drop (length (replicate j 0 ++ bits_of rest) % 8) (replicate j 0 ++ bits_of rest) ≡ bits_of rest
align_is j rest h =
    let l : length (replicate j 0 ++ bits_of rest) ≡ j + length rest * 8 = length-append (replicate j 0) (bits_of rest) ∙ ap₂ (λ (a b : ℕ). a + b) (length-replicate j 0) (length-bits_of rest) in
    drop_at (replicate j 0) (bits_of rest) (length (replicate j 0 ++ bits_of rest) % 8) (length-replicate j 0 ∙ omega arith)

pub part_trip : (all a : ℕ) (room : ℕ → Bool) (xs : List ℤ) (rest : List ℕ) → AllFit xs → length xs < 2 ^ 32 → room (length xs) ≡ true
    → read_part all a room (length xs) (bits_of (array_bytes xs ++ rest)) ≡ read (received xs) (bits_of rest)
unfolding read_part
part_trip all a room xs rest f h r =
    let j : ℕ = byte_len (length (array_bits xs)) * 8 - length (array_bits xs) in
    let e : bits_of (array_bytes xs ++ rest) ≡ array_bits xs ++ (replicate j 0 ++ bits_of rest) =
    bits_of-append (array_bytes xs) rest ∙ ap (λ (ys : List ℕ). ys ++ bits_of rest) (bits_packed (array_bits xs) (bits_array xs)) ∙ append_assoc (array_bits xs) (replicate j 0) (bits_of rest) in
    rw (e, read_array_lem all a room xs (replicate j 0 ++ bits_of rest) f h r) (rw (eq-eqb (length (received xs)) (length xs) (length_received xs)) (ap (read (received xs)) (align_is j rest (omega arith))))

-- ---- the header
count_is : (l : List ℕ) (n : ℕ) (rest : List ℕ) → n < 2 ^ 32 → le_count l (bits_of (le_bytes 4 n) ++ rest) ≡ read n rest
unfolding le_count le_bytes bits_of
count_is l n rest h =
    let a : ℕ = n % 256 in
    let b : ℕ = n / 256 % 256 in
    let c : ℕ = n / 256 / 256 % 256 in
    let d : ℕ = n / 256 / 256 / 256 % 256 in
    let D : List ℕ = nat_bits 8 d ++ rest in
    let C : List ℕ = nat_bits 8 c ++ D in
    let B : List ℕ = nat_bits 8 b ++ C in
    let e : nat_bits 8 a ++ (nat_bits 8 b ++ (nat_bits 8 c ++ (nat_bits 8 d ++ []))) ++ rest ≡ nat_bits 8 a ++ B = simp append_assoc in
    rw (e, take_is l 8 a B (omega arith)) (rw (take_is l 8 b C (omega arith)) (rw (take_is l 8 c D (omega arith)) (rw (take_is l 8 d rest (omega arith)) (ap (λ (u : ℕ). read u rest) (omega arith)))))

-- ---- the image
pub fits_signed : (us : List ℕ) → ((j : ℕ) → get_or us j 0 < 2 ^ 64) → AllFit (map signed us)
unfolding AllFit
fits_signed [] f = tt
fits_signed (u ∷ us) f = (sfits_to_z {w = w64} {n = u} (record { fits = f 0 }), fits_signed us (λ j. f (suc j)))

pub image_trip : (all : ℕ) (room : ℕ → Bool) (seqs : List ℕ) (secs : List ℤ) (rest : List ℕ) → ((j : ℕ) → get_or seqs j 0 < 2 ^ 64) → AllFit secs → length seqs ≡ length secs → length seqs < 2 ^ 32
    → room (length seqs) ≡ true → read_pairs all room (bits_of (image_bytes seqs secs ++ rest)) ≡ read (record { seqs = map pattern (received (map signed seqs)); secs = received secs }) (bits_of rest)
unfolding read_pairs image_bytes bits_of
image_trip all room seqs secs rest f g l h r =
    let xs : List ℤ = map signed seqs in
    let lx : length xs ≡ length seqs = length-map seqs signed in
    let T : List ℕ = array_bytes xs ++ (array_bytes secs ++ rest) in
    let e : le_bytes 4 (length seqs) ++ array_bytes xs ++ array_bytes secs ++ rest ≡ le_bytes 4 (length seqs) ++ T = simp append_assoc in
    let p : read_part all 0 room (length seqs) (bits_of T) ≡ read (received xs) (bits_of (array_bytes secs ++ rest)) =
    rw lx at (part_trip all 0 room xs (array_bytes secs ++ rest) (fits_signed seqs f) (omega arith) (ap room lx ∙ r)) in
    let q : read_part all 1 room (length seqs) (bits_of (array_bytes secs ++ rest)) ≡ read (received secs) (bits_of rest) =
    rw (← l) at (part_trip all 1 room secs rest g (omega arith) (ap room (sym l) ∙ r)) in
    rw (e, bits_of-append (le_bytes 4 (length seqs)) T, take_is (1 ∷ []) 8 1 (bits_of (le_bytes 4 (length seqs)) ++ bits_of T) (omega arith))
    (rw (count_is (3 ∷ []) (length seqs) (bits_of T) h) (rw p (rw q)))
