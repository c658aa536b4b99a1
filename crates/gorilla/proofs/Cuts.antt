-- An image that is cut off is refused. Assumes nothing.
use Prim.Native.Nat.{ℕ, zero, suc, ◌+◌, ◌-◌, ◌*◌, ◌/◌, ◌%◌, ◌≤◌, ◌<◌}
use mathlib.Core.Path.{◌≡◌, refl, sym, ap, ◌∙◌}
use mathlib.Core.Bool.{Bool, true, false}
use mathlib.Core.List.{List, [], ◌∷◌, ◌++◌, map}
use native.Mathlib.Omega.{arith}
use borrow.Author.Tests.{ltb-true, ltb-false}
use lib.Dec.{ltb, eqb}
use lib.ListN.{length, get_or, take, drop, length-append, length-drop, take-append-drop}
use lib.Seq.{take-append-le, drop-append-le, length-take-le}
use Rattle.signed.specs.Signed.{pattern}
use Rattle.bit_lists.specs.BitList.{bits_of, nat_from}
use Rattle.bit_lists.proofs.Lists.{length-bits_of, bits_of-append}
use Rattle.bits.specs.Place.{place_of}
use Rattle.gorilla.specs.Rows.{widths}
use Rattle.gorilla.specs.Parser.{read, refused, Reader, and_then, ◌>>=◌, give, require, take_bits, with, item, told_at, align}
use Rattle.gorilla.specs.Reading.{cut_number, count_ones, read_code, read_codes, read_values, read_array, le_count, read_part, Pairs, read_arrays, read_pairs, read_image}
use Rattle.gorilla.specs.Stops.{TellsPlace, CutRefused}
use Rattle.gorilla.proofs.Taking.{enough, few, were_enough}
use Rattle.gorilla.proofs.Readers.{refused_not_read, item_was, item-read}
use Rattle.gorilla.proofs.Counts.{both}
use Rattle.gorilla.proofs.Ignored.{count-length, Steps, steps_of}
use Rattle.gorilla.proofs.Stops.{stops_there}

-- What a reader makes of bs, where with `more` after them it reads x and leaves `left`: it reads x too and leaves all but `more`, or it is refused with an l of
-- which P holds.
data Cut {A : Type 0} (P : List ℕ → Type 0) (m : Reader A) (bs more : List ℕ) (x : A) (left : List ℕ) : Type 0 where
  kept : (left' : List ℕ) → m bs ≡ read x left' → left ≡ left' ++ more → Cut P m bs more x left
  lost : (l : List ℕ) → m bs ≡ refused l → P l → Cut P m bs more x left

-- `more` is whole bytes; m is a reader in an input of so many bits
record Cuts {A : Type 0} (P : List ℕ → Type 0) (m : ℕ → Reader A) : Type 0 where
  cuts : (n n' : ℕ) (bs more left : List ℕ) (x : A) → length more % 8 ≡ 0 → m n (bs ++ more) ≡ read x left → Cut P (m n') bs more x left

module _ (P : List ℕ → Type 0) where
  give_cuts : {A : Type 0} (x : A) → Cuts P (λ n. give x)
  give_cuts x = record {
    cuts = λ n n' bs more left y w h. let e : x ≡ y = cc in let f : bs ++ more ≡ left = cc in kept bs (ap (λ u. read u bs) e) (sym f);
  }

  require_cuts : (b : Bool) (l : List ℕ) → Cuts P (λ n. require b l)
  require_cuts true l = give_cuts tt
  require_cuts false l = record { cuts = λ n n' bs more left y w h. refused_not_read h }

  bits_cuts : (k : ℕ) (l : List ℕ) → P l → Cuts P (λ n. take_bits k l)
  bits_cuts k l q = record { cuts = λ n n' bs more left x w h. go bs more left x h (ltb (length bs) k) refl }
    where
      go : (bs more left : List ℕ) (x : ℕ) → take_bits k l (bs ++ more) ≡ read x left → (t : Bool) → ltb (length bs) k ≡ t → Cut P (take_bits k l) bs more x left
      go bs more left x h true e = lost l (few l k bs (ltb-true (length bs) k e)) q
      go bs more left x h false e =
          let o : k ≤ length bs = ltb-false (length bs) k e in
          let w = were_enough l k (bs ++ more) h in
          kept (drop k bs) (enough l k bs o ∙ ap (λ (v : ℕ). read v (drop k bs)) (ap (nat_from 0) (sym (take-append-le k bs more o)) ∙ sym w.1)) (w.2 ∙ drop-append-le k bs more o)

  ones_cuts : ((k : ℕ) (l : List ℕ) → P (cut_number k ∷ l)) → (a i k c : ℕ) (bs more left : List ℕ) (x : ℕ) → count_ones a i k c (bs ++ more) ≡ read x left
      → Cut P (count_ones a i k c) bs more x left
  unfolding count_ones
  ones_cuts q a i zero c bs more left x h = let e : c ≡ x = cc in let f : bs ++ more ≡ left = cc in kept bs (ap (λ (u : ℕ). read u bs) e) (sym f)
  ones_cuts q a i (suc k) c [] more left x h = lost (cut_number c ∷ a ∷ i ∷ []) refl (q c (a ∷ i ∷ []))
  ones_cuts q a i (suc k) c (zero ∷ bs) more left x h = let e : c ≡ x = cc in let f : bs ++ more ≡ left = cc in kept bs (ap (λ (u : ℕ). read u bs) e) (sym f)
  ones_cuts q a i (suc k) c (suc b ∷ bs) more left x h = again (ones_cuts q a i k (c + 1) bs more left x h)
    where
      again : Cut P (count_ones a i k (c + 1)) bs more x left → Cut P (count_ones a i (suc k) c) (suc b ∷ bs) more x left
      again (kept r e f) = kept r e f
      again (lost l e f) = lost l e f

  then_cuts : {A B : Type 0} {m : ℕ → Reader A} {f : A → ℕ → Reader B} → Cuts P m → ((x : A) → Cuts P (f x)) → Cuts P (λ n. ◌>>=◌ (m n) (λ x. f x n))
  then_cuts {A} {B} {m} {f} M F = record {
    cuts = λ n n' bs more left y w h.
        let b = both (m n (bs ++ more)) (λ x. f x n) h in
        first n n' bs more left y w b.value b.between b.second (M.cuts n n' bs more b.between b.value w b.first);
  }
    where
      second : (n' : ℕ) (bs more left mid : List ℕ) (x : A) (y : B) → m n' bs ≡ read x mid → Cut P (f x n') mid more y left → Cut P (◌>>=◌ (m n') (λ u. f u n')) bs more y left
      second n' bs more left mid x y e (kept r g k) = kept r (rw e g) k
      second n' bs more left mid x y e (lost l g k) = lost l (rw e g) k

      first : (n n' : ℕ) (bs more left : List ℕ) (y : B) → length more % 8 ≡ 0 → (x : A) (mid : List ℕ) → f x n mid ≡ read y left → Cut P (m n') bs more x mid
          → Cut P (◌>>=◌ (m n') (λ u. f u n')) bs more y left
      first n n' bs more left y w x mid h (kept r e g) = second n' bs more left r x y e ((F x).cuts n n' r more left y w (ap (f x n) (sym g) ∙ h))
      first n n' bs more left y w x mid h (lost l e g) = lost l (rw e) g

  -- an item that is refused tells a place, which P does not look at
  item_cuts : ((l k : List ℕ) → P l → P (l ++ k)) → {A : Type 0} {m : ℕ → Reader A} → Cuts P m → Cuts P (λ n. item n (m n))
  item_cuts q {A} {m} M = record { cuts = λ n n' bs more left x w h. go n' bs more left x (M.cuts n n' bs more left x w (item_was n (m n) (bs ++ more) h)) }
    where
      go : (n' : ℕ) (bs more left : List ℕ) (x : A) → Cut P (m n') bs more x left → Cut P (item n' (m n')) bs more x left
      go n' bs more left x (kept r e g) = kept r (item-read n' (m n') bs e) g
      go n' bs more left x (lost l e g) = lost (with l (place_of (n' - length bs))) (ap (told_at (n' - length bs)) e) (q l _ g)

  align_cuts : Cuts P (λ n. align)
  align_cuts = record {
    cuts = λ n n' bs more left x w h.
        let k : ℕ = length bs % 8 in
        let e : drop (length (bs ++ more) % 8) (bs ++ more) ≡ left = cc in
        let o : length (bs ++ more) % 8 ≡ k = omega (arith, w, length-append bs more) in
        let f : k ≤ length bs = omega arith in
        kept (drop k bs) refl (sym e ∙ ap (λ (u : ℕ). drop u (bs ++ more)) o ∙ drop-append-le k bs more f);
  }

-- ---- the arrays: refused by 4 to 8
place-told : (l k : List ℕ) → TellsPlace l → TellsPlace (l ++ k)
place-told [] k h = absurd (omega (arith, h.0))
place-told (x ∷ l) k h = h

cut_number_lem : (k : ℕ) (l : List ℕ) → TellsPlace (cut_number k ∷ l)
unfolding cut_number
cut_number_lem zero l = (omega arith, omega arith)
cut_number_lem (suc k) l = (omega arith, omega arith)

code_cuts : (a i : ℕ) → Cuts TellsPlace (λ n. read_code n a i)
unfolding read_code
code_cuts a i =
    item_cuts TellsPlace place-told
    (then_cuts TellsPlace (record { cuts = λ n n' bs more left x w h. ones_cuts TellsPlace cut_number_lem a i 4 0 bs more left x h }) (λ k.
    then_cuts TellsPlace (bits_cuts TellsPlace (get_or widths k 0) (8 ∷ a ∷ i ∷ get_or widths k 0 ∷ []) (omega arith, omega arith)) (λ v. give_cuts TellsPlace _)))

codes_cuts : (a k i : ℕ) → Cuts TellsPlace (λ n. read_codes n a k i)
unfolding read_codes
codes_cuts a zero i = give_cuts TellsPlace []
codes_cuts a (suc k) i = then_cuts TellsPlace (code_cuts a i) (λ d. then_cuts TellsPlace (codes_cuts a k (i + 1)) (λ ds. give_cuts TellsPlace (d ∷ ds)))

values_cuts : (a c : ℕ) → Cuts TellsPlace (λ n. read_values n a c)
unfolding read_values
values_cuts a zero = give_cuts TellsPlace []
values_cuts a (suc k) =
    then_cuts TellsPlace (item_cuts TellsPlace place-told (bits_cuts TellsPlace 64 (5 ∷ a ∷ []) (omega arith, omega arith))) (λ v. then_cuts TellsPlace (codes_cuts a k 1) (λ ds. give_cuts TellsPlace _))

part_cuts : (a : ℕ) (room : ℕ → Bool) (c : ℕ) → Cuts TellsPlace (λ n. read_part n a room c)
unfolding read_part read_array
part_cuts a room c =
    then_cuts TellsPlace
    (then_cuts TellsPlace (item_cuts TellsPlace place-told (bits_cuts TellsPlace 32 (4 ∷ a ∷ []) (omega arith, omega arith))) (λ k. then_cuts TellsPlace (require_cuts TellsPlace (room k) _) (λ u. values_cuts a k))) (λ xs.
    then_cuts TellsPlace (require_cuts TellsPlace (eqb (length xs) c) _) (λ u. then_cuts TellsPlace (align_cuts TellsPlace) (λ v. give_cuts TellsPlace xs)))

arrays_cuts : (room : ℕ → Bool) (c : ℕ) → Cuts TellsPlace (λ n. read_arrays n room c)
arrays_cuts room c = then_cuts TellsPlace (part_cuts 0 room c) (λ xs. then_cuts TellsPlace (part_cuts 1 room c) (λ ys. give_cuts TellsPlace _))

-- ---- the header
-- a count that has its 32 bits is read
abbrev count_in : List ℕ → ℕ
count_in bs =
    nat_from 0 (take 8 bs) + 256 * (nat_from 0 (take 8 (drop 8 bs)) + 256 * (nat_from 0 (take 8 (drop 8 (drop 8 bs))) + 256 * nat_from 0 (take 8 (drop 8 (drop 8 (drop 8 bs))))))

count-there : (l bs : List ℕ) → 32 ≤ length bs → le_count l bs ≡ read (count_in bs) (drop 8 (drop 8 (drop 8 (drop 8 bs))))
unfolding le_count
count-there l bs h =
    let d₁ = length-drop 8 bs in
    let d₂ = length-drop 8 (drop 8 bs) in
    let d₃ = length-drop 8 (drop 8 (drop 8 bs)) in
    rw (enough l 8 bs (omega arith)) (rw (enough l 8 (drop 8 bs) (omega arith)) (rw (enough l 8 (drop 8 (drop 8 bs)) (omega arith)) (rw (enough l 8 (drop 8 (drop 8 (drop 8 bs))) (omega arith)) refl)))

-- one that has not is refused
abbrev Is : List ℕ → List ℕ → Type 0
Is k l = l ≡ k

count_cuts : (k : List ℕ) → Cuts (Is k) (λ n. le_count k)
unfolding le_count
count_cuts k = then_cuts (Is k) byte (λ a. then_cuts (Is k) byte (λ b. then_cuts (Is k) byte (λ c. then_cuts (Is k) byte (λ d. give_cuts (Is k) _))))
  where
    byte : Cuts (λ l. l ≡ k) (λ n. take_bits 8 k)
    byte = bits_cuts (λ l. l ≡ k) 8 k refl

-- ---- an image: its header, and its arrays
module _ (room : ℕ → Bool) (bytes left : List ℕ) (p : Pairs) (k : ℕ) (h : read_image room bytes ≡ read p left) (o : k < length bytes - length left / 8) where
  abbrev cut : List ℕ
  cut = take k bytes

  abbrev more : List ℕ
  more = bits_of (drop k bytes)

  length_cut : length cut ≡ k
  length_cut = length-take-le k bytes (omega (arith, o))

  length_more : length more ≡ (length bytes - k) * 8
  length_more = length-bits_of (drop k bytes) ∙ ap (λ (u : ℕ). u * 8) (length-drop k bytes)

  parts : bits_of bytes ≡ bits_of cut ++ more
  parts = ap bits_of (sym (take-append-drop k bytes)) ∙ bits_of-append cut (drop k bytes)

  s : Steps (length bytes * 8) room (bits_of cut ++ more) p left
  s = steps_of (length bytes * 8) room (bits_of cut ++ more) left p (ap (read_pairs (length bytes * 8) room) (sym parts) ∙ h)

  -- where the version is there
  abbrev Version : Type 0
  Version = (mid : List ℕ) × (take_bits 8 (1 ∷ []) (bits_of cut) ≡ read 1 mid) × (s.after_version ≡ mid ++ more) × (length mid ≡ k * 8 - 8)

  version : 1 ≤ k → Version
  version l = go ((bits_cuts (λ u. Unit {0}) 8 (1 ∷ []) tt).cuts 0 0 (bits_of cut) more s.after_version 1 (omega (arith, length_more)) s.version_read)
    where
      go : Cut (λ u. Unit {0}) (take_bits 8 (1 ∷ [])) (bits_of cut) more 1 s.after_version → Version
      go (kept mid e f) = let v = were_enough (1 ∷ []) 8 (bits_of cut) e in (mid, e, f, ap length v.2 ∙ length-drop 8 (bits_of cut) ∙ ap (λ (u : ℕ). u - 8) (length-bits_of cut ∙ ap (λ (u : ℕ). u * 8) length_cut))
      go (lost k e f) = refused_not_read (sym e ∙ enough (1 ∷ []) 8 (bits_of cut) (omega (arith, length-bits_of cut, length_cut)))

  -- no byte
  pub no_byte : length cut ≡ 0 → read_image room cut ≡ refused (1 ∷ [])
  unfolding read_pairs
  no_byte e = rw (few (1 ∷ []) 8 (bits_of cut) (omega (arith, length-bits_of cut)))

  -- the count, of what follows the version
  abbrev Header : List ℕ → Type 0
  Header mid = Cut (Is (3 ∷ [])) (le_count (3 ∷ [])) mid more s.count s.after-header

  header : (v : Version) → Header v.0
  header v = (count_cuts (3 ∷ [])).cuts 0 0 v.0 more s.after-header s.count (omega (arith, length_more)) (ap (le_count (3 ∷ [])) (sym v.2) ∙ s.count-read)

  -- one to four bytes
  pub in_header : 1 ≤ length cut → length cut ≤ 4 → read_image room cut ≡ refused (3 ∷ [])
  unfolding read_pairs
  in_header l m =
      let v = version (omega (arith, length_cut)) in
      rw v.1 (go v.0 v.3 (header v))
    where
      go : (mid : List ℕ) → length mid ≡ k * 8 - 8 → Header mid → and_then (le_count (3 ∷ []) mid) (λ n. read_arrays (length cut * 8) room n) ≡ refused (3 ∷ [])
      go mid e (kept r f g) = absurd (omega (arith, count-length (3 ∷ []) mid r s.count f, length_cut))
      go mid e (lost l f g) = rw f (ap (λ (u : List ℕ). refused u) g)

  -- more
  abbrev In : Type 0
  In = (l : List ℕ) × (read_image room cut ≡ refused l) × TellsPlace l

  arrays-read : read_arrays (length bytes * 8) room s.count s.after-header ≡ read (record { seqs = map pattern s.values; secs = p.secs }) left
  arrays-read = rw s.seqs_read (rw s.secs_read)

  in_arrays : 5 ≤ length cut → In
  unfolding read_pairs
  in_arrays l =
      let v = version (omega (arith, length_cut)) in
      go v.0 v.1 v.3 (header v)
    where
      last : (mid r : List ℕ) → take_bits 8 (1 ∷ []) (bits_of cut) ≡ read 1 mid → le_count (3 ∷ []) mid ≡ read s.count r
          → Cut TellsPlace (read_arrays (length cut * 8) room s.count) r more (record { seqs = map pattern s.values; secs = p.secs }) left → In
      last mid r e f (kept q g t) = absurd (omega (arith, o, length_more, ap length t, length-append q more))
      last mid r e f (lost k g t) = (k, rw e (rw f g), t)

      go : (mid : List ℕ) → take_bits 8 (1 ∷ []) (bits_of cut) ≡ read 1 mid → length mid ≡ k * 8 - 8 → Header mid → In
      go mid e f (kept r g t) =
          last mid r e g ((arrays_cuts room s.count).cuts (length bytes * 8) (length cut * 8) r more left _ (omega (arith, length_more))
          (ap (read_arrays (length bytes * 8) room s.count) (sym t) ∙ arrays-read))
      go mid e f (lost k g t) = refused_not_read (sym g ∙ count-there (3 ∷ []) mid (omega (arith, length_cut)))

pub cut_refused : CutRefused
cut_refused room bytes left p k h o = record {
  empty = no_byte room bytes left p k h o;
  header = in_header room bytes left p k h o;
  arrays = λ l. let r = in_arrays room bytes left p k h o l in (r.0, r.1, stops_there room (take k bytes) r.0 r.1 r.2);
}
