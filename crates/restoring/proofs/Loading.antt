-- What the list reader leaves in restore's own arrays, and what restore makes of it. Assumes nothing.
use Prim.Native.Nat.{ℕ, ◌≤◌}
use mathlib.Core.Path.{◌≡◌, refl, sym, ap, ap₂, ◌∙◌}
use mathlib.Core.Bool.{false}
use mathlib.Core.List.{List}
use native.Mathlib.Omega.{arith}
use borrow.Author.Tests.{ltb-false}
use lib.Dec.{leb, ltb}
use lib.ListN.{length, take}
use lib.Seq.{take_at}
use lib.IntN.{ℤ}
use Rattle.told.specs.Told.{Told, gave, refused}
use Rattle.told.specs.Over.{filled}
use Rattle.gorilla.specs.Parser.{Read, read}
use Rattle.gorilla.specs.Parser as parser
use Rattle.gorilla.specs.Reading.{Pairs, pairs_read}
use Rattle.gorilla.proofs.Counts.{image_counts}
use Rattle.order.proofs.Bools.{neither}
use Rattle.limits.specs.Settings.{bad_settings}
use Rattle.fresh.specs.Fresh.{default_capacity}
use Rattle.tracker.specs.declared.SequenceTracker.{SequenceTracker}
use Rattle.decoder.specs.Decode.{listed, count_of, decode_rule}
use Rattle.decoder.proofs.Stored as stored
use Rattle.decoder.specs.Decode as decode
use Rattle.settling.specs.Settle.{settled_of}
use Rattle.restoring.specs.Restore.{read_table, judged, too_short, restore_at}

-- what was read into arrays xs and ys, of which n places are values now
pub record Loaded (bytes xs : List ℕ) (ys : List ℤ) (n : ℕ) : Type 0 where
  pub seqs : take n xs ≡ (pairs_read (read_table bytes)).seqs
  pub secs : take n ys ≡ (pairs_read (read_table bytes)).secs
  pub judge : (interval : ℕ) → settled_of interval (take n xs) (take n ys) (length (take n xs)) ≡ judged interval (read_table bytes)

-- an array that is filled by what is told stays so for what restore tells
pub into : {A : Type 0} (w w' : Told SequenceTracker) (x v v' old : List A) → x ≡ filled w v old → v ≡ v' → w' ≡ w → x ≡ filled w' v' old
into {A} w w' x v v' old e f g = e ∙ ap (λ (u : List A). filled w u old) f ∙ ap (λ (u : Told SequenceTracker). filled u v' old) (sym g)

module _ (bytes S : List ℕ) (T : List ℤ) (hs : length S ≡ 8192) (ht : length T ≡ 8192) where
  listed_is : listed bytes S T ≡ read_table bytes
  unfolding listed
  listed_is = rw (hs, ht)

  pub loaded : (n : ℕ) (S' : List ℕ) (T' : List ℤ) → gave n ≡ decode_rule bytes S T → S' ≡ decode.seqs_after bytes S T → T' ≡ decode.secs_after bytes S T → Loaded bytes S' T' n
  loaded n S' T' g es et =
      go (read_table bytes) refl (g ∙ ap count_of listed_is) (es ∙ ap (stored.seqs_over S) listed_is) (et ∙ ap (stored.secs_over T) listed_is)
    where
      go : (r : Read Pairs) → read_table bytes ≡ r → gave n ≡ count_of (read_table bytes) → S' ≡ stored.seqs_over S (read_table bytes) → T' ≡ stored.secs_over T (read_table bytes) → Loaded bytes S' T' n
      go (read p left) e h f k =
          let counts = image_counts (λ m. leb m 8192) bytes e in
          let c : ◌≡◌ {A = Told ℕ} (gave n) (gave (length p.secs)) = h ∙ ap count_of e in
          let b : length p.secs ≡ n = sym cc in
          let a : length p.seqs ≡ n = counts.0 ∙ b in
          let s : take n S' ≡ p.seqs = ap (take n) (f ∙ ap (stored.seqs_over S) e) ∙ take_at p.seqs _ n a in
          let t : take n T' ≡ p.secs = ap (take n) (k ∙ ap (stored.secs_over T) e) ∙ take_at p.secs _ n b in
          record {
            seqs = s ∙ ap (λ (r : Read Pairs). (pairs_read r).seqs) (sym e);
            secs = t ∙ ap (λ (r : Read Pairs). (pairs_read r).secs) (sym e);
            judge = λ interval. ap₂ (λ (x : List ℕ) (y : List ℤ). settled_of interval x y (length x)) s t ∙ ap (judged interval) (sym e);
          }
      go (parser.refused l) e h f k =
          let c : ◌≡◌ {A = Told ℕ} (gave n) (refused l) = h ∙ ap count_of e in
          let z : ◌≡◌ {A = ℕ} 0 1 = cc in
          absurd (omega arith)

  -- the reader's refusal is restore's
  pub unread : {what : List ℕ} (interval : ℕ) → refused what ≡ decode_rule bytes S T → refused what ≡ judged interval (read_table bytes)
  unread {what} interval h = go (read_table bytes) refl (h ∙ ap count_of listed_is)
    where
      go : (r : Read Pairs) → read_table bytes ≡ r → refused what ≡ count_of (read_table bytes) → refused what ≡ judged interval (read_table bytes)
      go (read p left) e k =
          let c : ◌≡◌ {A = Told ℕ} (refused what) (gave (length p.secs)) = k ∙ ap count_of e in
          let z : ◌≡◌ {A = ℕ} 0 1 = cc in
          absurd (omega arith)
      go (parser.refused l) e k =
          let c : ◌≡◌ {A = Told ℕ} (refused what) (refused l) = k ∙ ap count_of e in
          let d : what ≡ l = cc in
          ap refused d ∙ ap (judged interval) (sym e)

pub places : (m n : ℕ) → too_short m n ≡ false → (8192 ≤ m) × (8192 ≤ n)
places m n h =
    let both = neither (ltb m 8192) (ltb n 8192) h in
    (omega (arith, ltb-false m 8192 both.0), omega (arith, ltb-false n 8192 both.1))

-- where the interval is valid and the arrays have the places, what was read is judged
pub long : (interval : ℕ) (bytes xs : List ℕ) (ys : List ℤ) → bad_settings default_capacity interval ≡ false → too_short (length xs) (length ys) ≡ false
    → judged interval (read_table bytes) ≡ restore_at interval bytes xs ys
long interval bytes xs ys v h = rw (v, h)
