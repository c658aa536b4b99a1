-- The laws of specs/Laws.antt. Assumes nothing.
use mathlib.Core.Path.{◌≡◌, refl, ap, ◌∙◌, sym, subst}
use mathlib.Core.Bool.{Bool, true, false, cond, ◌&&◌}
use mathlib.Core.List.{List, [], ◌∷◌}
use Rattle.std.specs.Prelude.{Ok}
use Prim.Native.Nat.{ℕ, suc, ◌-◌}
use native.Mathlib.Omega.{arith}
use borrow.Author.Tests.{lt-ltb}
use lib.Dec.{ltb}
use lib.IntN.{ℤ, pos, negsuc, ◌-ℤ◌}
use lib.ListN.{length, take}
use Rattle.told.specs.Told.{gave, refused}
use Rattle.told.specs.Over.{over}
use Rattle.told.specs.Room.{room_rule}
use Rattle.told.proofs.Unique.{given_not_refused, same_gift}
use Rattle.told.proofs.Places.{over_starts}
use Rattle.limits.specs.Domain.{outside}
use Rattle.order.proofs.Bools.{passed}
use Rattle.calendar.specs.declared.Date.{Date}
use Rattle.calendar.specs.Calendar.{second_of, is_date}
use Rattle.calendar.proofs.Laws.{calendar}
use Rattle.calendar.proofs.Moments.{valid_means}
use Rattle.gorilla.specs.Parser.{Read, read, refused as not_read}
use Rattle.date_writer.specs.DateText.{text_of, Dated}
use Rattle.date_writer.specs.Inner.{date_text, Digits}
use Rattle.date_writer.proofs.Digits.{valid_digits}
use Rattle.date_writer.proofs.Texts.{dated_text, one_text, dated-length, dated-order, from_month, from_day, from_hour, from_minute, from_second}
use Rattle.text_reader.proofs.Readers.{then_read}
use Rattle.date_reader.specs.declared.Zone.{Zone}
use Rattle.date_reader.specs.declared.Stamp.{Stamp}
use Rattle.date_reader.specs.Grammar.{either, fraction, offset, end, date_time}
use Rattle.date_reader.proofs.Ends.{whole}
use Rattle.date_reader.proofs.Fractions.{left_out}
use Rattle.date_reader.proofs.Written.{two-read, four-read}
use Rattle.dates.specs.Read.{is_offset, offset_of, utc_of, if_inside, judged, judged_text, read_date}
use Rattle.dates.specs.Write.{write_date, LeavesDate, WritesDate}
use Rattle.dates.specs.Laws.{Says, Dates}

-- ---- a text that was written, read
abbrev utc : Zone
utc = record { ahead = true; hours = 0; minutes = 0 }

text_read : (d : Date) → Digits d → date_time (text_of d) ≡ read (record { date = d; zone = utc }) []
unfolding date_time text_of either fraction offset end
text_read d h =
    then_read _ (four-read d.year (from_month d) h.0)
    ∙ then_read _ (two-read d.month (from_day d) h.1)
    ∙ then_read _ (two-read d.day (from_hour d) h.2)
    ∙ then_read _ (two-read d.hour (from_minute d) h.3)
    ∙ then_read _ (two-read d.minute (from_second d) h.4)
    ∙ then_read _ (two-read d.second (90 ∷ []) h.5)

no_offset : (z : ℤ) → z -ℤ offset_of utc ≡ z
unfolding offset_of
no_offset (pos n) = ap pos (omega arith)
no_offset (negsuc n) = let e : suc n - 1 ≡ n = omega arith in rw (lt-ltb 0 (suc n) (omega arith)) (ap negsuc e)

utc_is : is_offset utc ≡ true
unfolding is_offset
utc_is = refl

pub reads_back : (z : ℤ) (t : List ℕ) → Dated z t → read_date t ≡ gave z
unfolding judged
reads_back z t h =
    let d = h.0 in
    let e : utc_of (record { date = d; zone = utc }) ≡ z = no_offset (second_of d) ∙ h.1.1 in
    let i : outside z ≡ false = rw h.1.1 at (calendar.in_domain d h.1.0) in
    rw h.2 (rw (text_read d (valid_digits d (valid_means d h.1.0)), h.1.0, utc_is, e, i))

-- ---- what is read, exactly
judged_says : (s : List ℕ) (z : ℤ) (r : Stamp) → date_time s ≡ read r [] → judged r ≡ gave z → Says s z
unfolding judged
judged_says s z r g h = go (is_date r.date) (is_offset r.zone) refl refl h
  where
    last : (b : Bool) → outside (utc_of r) ≡ b → cond b (refused (27 ∷ [])) (gave (utc_of r)) ≡ gave z → is_date r.date ≡ true → is_offset r.zone ≡ true → Says s z
    last true e k p q = given_not_refused (sym k)
    last false e k p q =
        let w : utc_of r ≡ z = same_gift k in
        record { stamp = r; grammar = g; date = p; offset = q; second = w; inside = rw w at e }

    go : (a b : Bool) → is_date r.date ≡ a → is_offset r.zone ≡ b → cond (a && b) (if_inside (utc_of r)) (refused (26 ∷ [])) ≡ gave z → Says s z
    go true true p q k = last (outside (utc_of r)) refl k p q
    go true false p q k = given_not_refused (sym k)
    go false b p q k = given_not_refused (sym k)

read_says : (s : List ℕ) (z : ℤ) → read_date s ≡ gave z → Says s z
read_says s z h = go (date_time s) refl h
  where
    go : (m : Read Stamp) → date_time s ≡ m → judged_text m ≡ gave z → Says s z
    go (read r left) e k = judged_says s z r (e ∙ ap (read r) (whole s r left e)) k
    go (not_read l) e k = given_not_refused (sym k)

says_read : (s : List ℕ) (z : ℤ) → Says s z → read_date s ≡ gave z
unfolding judged
says_read s z h = rw h.grammar (rw (h.date, h.offset, h.second, h.inside))

-- ---- what was written, read
twenty : (z : ℤ) (room n : ℕ) → gave n ≡ write_date z room → n ≡ 20
unfolding write_date room_rule
twenty z room n e = sym (same_gift (passed (ltb room 20) _ (gave 20) n (passed (outside z) _ _ n (sym e)).1).1)

written_read : (z : ℤ) (out out' : List ℕ) (n : ℕ) → WritesDate z out (Ok n) out' → read_date (take n out') ≡ gave z
written_read z out out' n h =
    let l : LeavesDate (gave n) z out out' = subst (λ t. LeavesDate t z out out') (sym h.0) h.1 in
    let e : n ≡ length l.0 = twenty z (length out) n h.0 ∙ sym (dated-length z l.0 l.1) in
    let w : take n out' ≡ l.0 = ap (take n) l.2 ∙ ap (λ (k : ℕ). take k (over l.0 out)) e ∙ over_starts l.0 out in
    ap read_date w ∙ reads_back z l.0 l.1

pub dates : Dates
dates = record {
  a_text = λ z h. (date_text z, dated_text z h);
  one_text = one_text;
  twenty = λ z t h. (dated-length z t h, rw h.1.1 at (calendar.in_domain h.0 h.1.0));
  reads_back = reads_back;
  apart = λ z w t h k. same_gift (sym (reads_back z t h) ∙ reads_back w t k);
  order = dated-order;
  written = written_read;
  fraction = λ head ds tail e k l h g. ap judged_text (left_out head ds tail e k l h g);
  exactly = λ s z. (read_says s z, says_read s z);
}
