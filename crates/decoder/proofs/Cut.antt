-- What the calls answer of an image that is cut off. Assumes nothing.
use Prim.Native.Nat.{ℕ, ◌-◌, ◌/◌, ◌<◌, min}
use mathlib.Core.Path.{◌≡◌, refl, sym, ap, subst}
use mathlib.Core.Bool.{Bool, true}
use mathlib.Core.List.{List}
use lib.Dec.{leb}
use lib.ListN.{length, take}
use Rattle.told.specs.Told.{gave}
use Rattle.told.specs.Told as told
use Rattle.told.proofs.Unique.{given_not_refused, same_gift}
use Rattle.gorilla.specs.Parser.{Read, read, refused}
use Rattle.gorilla.specs.Reading.{Pairs, read_image}
use Rattle.gorilla.specs.Stops.{CutOff}
use Rattle.gorilla.proofs.Cuts.{cut_refused}
use Rattle.gorilla.proofs.Rooms.{any_room}
use Rattle.decoder.specs.Decode.{listed, count_of, decode_rule, image_len_of, image_len_rule}
use Rattle.decoder.specs.Cut.{LenTellsWhere, DecodeTellsWhere}

-- what one answer tells, another does that is made of it
pub cut_as : {P Q : List ℕ → Type 0} (bytes : List ℕ) → ((l : List ℕ) → P l → Q l) → CutOff bytes P → CutOff bytes Q
cut_as bytes f c = record {
  empty = λ e. f _ (c.empty e);
  header = λ l m. f _ (c.header l m);
  arrays = λ l. let r = c.arrays l in (r.0, f r.0 r.1, r.2);
}

-- an image that is read with some room has the length that is told with any
pub told_len_lem : (room : ℕ → Bool) (bytes left : List ℕ) (p : Pairs) → read_image room bytes ≡ read p left → image_len_rule bytes ≡ gave (length bytes - length left / 8)
unfolding image_len_rule
told_len_lem room bytes left p e = ap (image_len_of bytes) (any_room room bytes left p e)

pub len_tells_where : LenTellsWhere
unfolding image_len_rule
len_tells_where bytes n k h o = go (read_image (λ m. true) bytes) refl h
  where
    go : (r : Read Pairs) → read_image (λ m. true) bytes ≡ r → image_len_of bytes r ≡ gave n → CutOff (take k bytes) (λ l. image_len_rule (take k bytes) ≡ told.refused l)
    go (read p left) e g = cut_as (take k bytes) (λ l f. ap (image_len_of (take k bytes)) f) (cut_refused (λ m. true) bytes left p k e (subst (λ (u : ℕ). k < u) (sym (same_gift g)) o))
    go (refused l) e g = given_not_refused (sym g)

pub decode_tells_where : DecodeTellsWhere
unfolding listed
decode_tells_where bytes seqs secs count h = go (listed bytes seqs secs) refl h
  where
    go : (r : Read Pairs) → listed bytes seqs secs ≡ r → count_of r ≡ gave count
        → (n : ℕ) × (image_len_rule bytes ≡ gave n) × ((k : ℕ) → k < n → CutOff (take k bytes) (λ l. decode_rule (take k bytes) seqs secs ≡ told.refused l))
    go (read p left) e g =
        (length bytes - length left / 8, told_len_lem _ bytes left p e, λ k o. cut_as (take k bytes) (λ l f. ap count_of f) (cut_refused (λ m. leb m (min (length seqs) (length secs))) bytes left p k e o))
    go (refused l) e g = given_not_refused (sym g)
