-- What the two restores answer of an image that is cut off. Assumes nothing.
use Prim.Native.Nat.{ℕ, ◌-◌, ◌/◌, ◌<◌}
use mathlib.Core.Path.{◌≡◌, refl, sym, ap}
use mathlib.Core.Bool.{Bool, true, false, cond}
use mathlib.Core.List.{[], ◌∷◌}
use lib.Dec.{leb}
use lib.ListN.{length, take}
use Rattle.told.specs.Told.{gave, refused}
use Rattle.told.proofs.Unique.{given_not_refused}
use Rattle.gorilla.specs.Parser.{Read, read}
use Rattle.gorilla.specs.Parser as parser
use Rattle.gorilla.specs.Reading.{Pairs}
use Rattle.gorilla.specs.Stops.{CutOff}
use Rattle.gorilla.proofs.Cuts.{cut_refused}
use Rattle.limits.specs.Settings.{bad_settings}
use Rattle.fresh.specs.Fresh.{default_capacity}
use Rattle.decoder.specs.Decode.{image_len_rule}
use Rattle.decoder.proofs.Cut.{cut_as, told_len_lem}
use Rattle.restoring.specs.Restore.{read_table, judged, too_short}
use Rattle.restoring.specs.Cut.{RestoreTellsWhere}

pub restore_tells_where : RestoreTellsWhere
restore_tells_where interval bytes seqs secs t h = go (bad_settings default_capacity interval) (too_short (length seqs) (length secs)) h
  where
    read_then : (r : Read Pairs) → read_table bytes ≡ r → judged interval r ≡ gave t
        → (n : ℕ) × (image_len_rule bytes ≡ gave n) × ((k : ℕ) → k < n → CutOff (take k bytes) (λ l. judged interval (read_table (take k bytes)) ≡ refused l))
    read_then (read p left) f g =
        (length bytes - length left / 8, told_len_lem (λ m. leb m 8192) bytes left p f, λ k o. cut_as (take k bytes) (λ l r. ap (judged interval) r) (cut_refused (λ m. leb m 8192) bytes left p k f o))
    read_then (parser.refused l) f g = given_not_refused (sym g)

    go : (b s : Bool) → cond b (refused (15 ∷ [])) (cond s (refused (14 ∷ [])) (judged interval (read_table bytes))) ≡ gave t
        → (n : ℕ) × (image_len_rule bytes ≡ gave n) × ((k : ℕ) → k < n → CutOff (take k bytes) (λ l. cond b (refused (15 ∷ [])) (cond s (refused (14 ∷ [])) (judged interval (read_table (take k bytes)))) ≡ refused l))
    go true s g = given_not_refused (sym g)
    go false true g = given_not_refused (sym g)
    go false false g = read_then (read_table bytes) refl g
