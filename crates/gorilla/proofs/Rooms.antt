-- What is read with some room for its counts is read with any. Assumes nothing.
use Prim.Native.Nat.{ℕ, ◌*◌}
use mathlib.Core.Path.{◌≡◌, sym, ap}
use mathlib.Core.Bool.{Bool, true}
use mathlib.Core.List.{List, [], ◌∷◌}
use lib.ListN.{length}
use lib.IntN.{ℤ}
use Rattle.bit_lists.specs.BitList.{bits_of}
use Rattle.gorilla.specs.Parser.{read, take_bits, item}
use Rattle.gorilla.specs.Reading.{read_array, read_part, Pairs, read_pairs, read_image}
use Rattle.gorilla.proofs.Counts.{both}
use Rattle.gorilla.proofs.Ignored.{passed, steps_of}

array_any : (all a : ℕ) (room : ℕ → Bool) (bs left : List ℕ) {xs : List ℤ} → read_array all a room bs ≡ read xs left → read_array all a (λ n. true) bs ≡ read xs left
unfolding read_array
array_any all a room bs left h =
    let one = both (item all (take_bits 32 (4 ∷ a ∷ [])) bs) _ h in
    let two = passed (room one.value) (10 ∷ a ∷ []) one.between _ one.second in
    rw one.first two.1

part_any : (all a : ℕ) (room : ℕ → Bool) (n : ℕ) (bs left : List ℕ) {xs : List ℤ} → read_part all a room n bs ≡ read xs left → read_part all a (λ n. true) n bs ≡ read xs left
unfolding read_part
part_any all a room n bs left h = let one = both (read_array all a room bs) _ h in rw (array_any all a room bs one.between one.first) one.second

pub any_room : (room : ℕ → Bool) (bytes left : List ℕ) (p : Pairs) → read_image room bytes ≡ read p left → read_image (λ n. true) bytes ≡ read p left
unfolding read_pairs
any_room room bytes left p h =
    let all : ℕ = length bytes * 8 in
    let s = steps_of all room (bits_of bytes) left p h in
    rw s.version_read
    (rw s.count-read
    (rw (part_any all 0 room s.count s.after-header s.after-seqs s.seqs_read)
    (rw (part_any all 1 room s.count s.after-seqs left s.secs_read)
    (ap (λ (q : Pairs). read q left) (λ i. record { seqs = sym s.patterns i; secs = p.secs })))))
