-- Two short runs, computed: with a save that writes, the table comes back in the other arrays; with one that is refused, it stays in its own.
-- And bytes from which the demand holds, though no save writes them.
use mathlib.Core.Path.{◌≡◌, refl}
use mathlib.Core.List.{[], ◌∷◌, ◌++◌}
use Prim.Native.Nat.{ℕ}
use lib.IntN.{pos}
use lib.ListN.{take, replicate}
use Rattle.order.specs.First.{first_from}
use Rattle.fresh.specs.Fresh.{fresh_table}
use Rattle.std.specs.Prelude.{Some}
use Rattle.bit_lists.specs.BitList.{nat_bits, bits_of, nat_from, bytes_of, packed}
use Rattle.gorilla.specs.Format.{code_bits, codes_bits, values_bits, array_bits, le_bytes, image_bytes}
use Rattle.gorilla.specs.Parser.{take_bits}
use Rattle.gorilla.specs.Reading.{cut_number, count_ones, read_code, read_codes, values_after, read_values, read_array, le_count, read_part, read_pairs}
use Rattle.gorilla.specs.Rows.{row_of, strict}
use Rattle.gorilla.specs.Wide.{wide_after, wide_in, wide_of}
use Rattle.keeping.specs.Keep.{evens}
use Rattle.encoder.specs.Encode.{arrays_rule}
use Rattle.told.specs.Room.{room_rule}
use Rattle.offers.specs.Whole.{Table, whole}
use Rattle.theorems.specs.Run.{new, Restoring, plain, naming, Event, offered, reloaded, step, ran_to, GoesOn}
use Rattle.cases.specs.Given.{fifth}
use Rattle.theorems.proofs.Run.{demand}

offer : ℕ → ℕ → Event
offer seq ts = offered (record { 0 = seq }) (record { 0 = pos ts })

reload : Restoring → Event
reload by = reloaded (record { by = by; out = replicate 60 9; following = 7 ∷ []; seqs = replicate 8192 5; secs = replicate 8192 (pos 5) })

begin : Table
begin = new (replicate 8192 3) (replicate 8192 (pos 3))

-- what the first three places of each array hold, and the state
runs : let w = ran_to begin (offer 100 0 ∷ reload plain ∷ offer 164 10 ∷ reload (naming 10) ∷ offer 9 19 ∷ offer 9 20 ∷ reload plain ∷ []) in
    let v = ran_to begin (offer 0 0 ∷ offer 1 2147483648 ∷ reload plain ∷ []) in
    (take 3 w.seqs ≡ 100 ∷ 164 ∷ 5 ∷ [])
    × (take 3 w.secs ≡ pos 0 ∷ pos 10 ∷ pos 5 ∷ [])
    × (w.state ≡ fresh_table 8192 10 2 (Some (record { 0 = pos 10 })))
    × (take 3 v.seqs ≡ 0 ∷ 1 ∷ 3 ∷ [])
    × (take 3 v.secs ≡ pos 0 ∷ pos 2147483648 ∷ pos 3 ∷ [])
unfolding offer reload begin step ran_to evens first_from arrays_rule room_rule wide_of wide_in wide_after strict nat_bits bits_of nat_from bytes_of packed take_bits code_bits codes_bits values_bits array_bits le_bytes image_bytes row_of cut_number count_ones read_code read_codes values_after read_values read_array le_count read_part read_pairs
runs = (refl, refl, refl, refl, refl)

-- P5's image with padding that is not zeros, and a byte after it
from_others : GoesOn 60 (whole (fresh_table 8192 60 2 (Some (record { 0 = pos 60 }))) (100 ∷ 164 ∷ replicate 8190 3) (pos 0 ∷ pos 60 ∷ replicate 8190 (pos 3)))
unfolding first_from nat_bits bits_of nat_from take_bits cut_number count_ones read_code read_codes values_after read_values read_array le_count read_part read_pairs
from_others = (demand 60).1 (fifth 0x0F 0x7F ++ (7 ∷ [])) (replicate 8192 3) _ (replicate 8192 (pos 3)) _ _ (refl, refl, refl)
