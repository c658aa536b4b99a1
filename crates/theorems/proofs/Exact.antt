-- With room for the image a strict save is refused, and then with 20, exactly where the image reads back as other pairs, and writes it exactly where it reads back.
use mathlib.Core.Path.{◌≡◌, refl, sym, ap, ◌∙◌}
use mathlib.Core.Logic.{◌↔◌}
use mathlib.Core.List.{List}
use Prim.Native.Nat.{ℕ, ◌≤◌, min}
use native.Mathlib.Omega.{arith}
use borrow.Author.Tests.{le-leb, le-ltb}
use lib.Dec.{leb}
use lib.ListN.{length, get_or, drop}
use lib.Seq.{take_at}
use Rattle.told.specs.Told.{Told, gave, refused, if_good}
use Rattle.told.proofs.Unique.{same-list}
use Rattle.bit_lists.specs.BitList.{bits_of}
use Rattle.gorilla.specs.Parser.{read}
use Rattle.gorilla.specs.Reading.{Pairs}
use Rattle.gorilla.specs.Wide.{wide_of}
use Rattle.gorilla.proofs.RoundTrip.{received_pairs, reads, exact, number_20}
use Rattle.order.proofs.Bools.{not_given}
use Rattle.told.specs.Room.{room_rule}
use Rattle.decoder.specs.Decode.{listed}
use Rattle.offers.specs.Whole.{Table}
use Rattle.theorems.specs.Alike.{kept_in, image_for, strict_to, save_to}
use Rattle.theorems.specs.Run.{Reload, Lent, listed_for, ReadsOthers}
use Rattle.theorems.proofs.Sound.{Sound}
use Rattle.theorems.proofs.Reload.{kept_fit, seqs_long, at_most, save_is, wrote}

module _ (interval : ℕ) (w : Table) (S : Sound interval w) (l : Reload) (lent : Lent l.seqs l.secs) (room : length (image_for w) ≤ length l.out) where
  plain_is : save_to w l.out ≡ gave (length (image_for w))
  unfolding room_rule
  plain_is = rw S.good (rw (le-ltb (length l.out) (length (image_for w)) room))

  strict_is : strict_to w l.out ≡ if_good (wide_of (kept_in w).seqs (kept_in w).secs) (gave (length (image_for w)))
  unfolding room_rule
  strict_is = save_is interval w S l.out ∙ rw (le-ltb (length l.out) (length (image_for w)) room)

  comes_back : listed_for w l ≡ read (received_pairs (kept_in w)) (bits_of l.following)
  unfolding listed
  comes_back =
      rw (plain_is, take_at (image_for w) (drop (length (image_for w)) l.out) (length (image_for w)) refl)
      (reads (kept_in w) (λ k. leb k (min (length l.seqs) (length l.secs))) l.following (kept_fit interval w S)
      (le-leb (length (kept_in w).seqs) (min (length l.seqs) (length l.secs)) (omega (arith, seqs_long interval w S, at_most interval w S, lent.0, lent.1))))

  -- what reads back is the kept pairs exactly where no difference is wide
  same_back : (p : Pairs) → listed_for w l ≡ read p (bits_of l.following) → (p ≡ kept_in w) ↔ (wide_of (kept_in w).seqs (kept_in w).secs ≡ gave tt)
  same_back p e =
      let k : read p (bits_of l.following) ≡ read (received_pairs (kept_in w)) (bits_of l.following) = sym e ∙ comes_back in
      let j : p ≡ received_pairs (kept_in w) = cc in
      let x = exact (kept_in w) (kept_fit interval w S) in
      (λ h. x.1 (sym j ∙ h), λ h. j ∙ x.0 h)

  pub refuses : ((what : List ℕ) × (strict_to w l.out ≡ refused what)) ↔ ReadsOthers w l
  refuses =
      let x = wide_of (kept_in w).seqs (kept_in w).secs in (
        λ r. (received_pairs (kept_in w), comes_back, λ h. narrow x r.0 (sym strict_is ∙ r.1) ((exact (kept_in w) (kept_fit interval w S)).1 h)),
        λ k. let r = wide x (λ z. k.2 ((same_back k.0 k.1).1 z)) in (r.0, strict_is ∙ r.1),
      )
    where
      narrow : (x : Told (Unit {0})) (what : List ℕ) → if_good x (gave (length (image_for w))) ≡ refused what → x ≡ gave tt → ⊥
      narrow (gave tt) what h z = not_given what (length (image_for w)) (sym h)
      narrow (refused l) what h z = not_given l tt z

      wide : (x : Told (Unit {0})) → (x ≡ gave tt → ⊥) → (what : List ℕ) × (if_good x (gave (length (image_for w))) ≡ refused what)
      wide (gave tt) h = absurd (h refl)
      wide (refused l) h = (l, refl)

  pub with_20 : (what : List ℕ) → strict_to w l.out ≡ refused what → get_or what 0 0 ≡ 20
  with_20 what e = go (wide_of (kept_in w).seqs (kept_in w).secs) refl (sym strict_is ∙ e)
    where
      go : (x : Told (Unit {0})) → wide_of (kept_in w).seqs (kept_in w).secs ≡ x → if_good x (gave (length (image_for w))) ≡ refused what → get_or what 0 0 ≡ 20
      go (gave tt) z h = absurd (not_given what (length (image_for w)) (sym h))
      go (refused l) z h = number_20 (kept_in w).seqs (kept_in w).secs what (z ∙ ap refused (same-list h))

  pub writes : (strict_to w l.out ≡ gave (length (image_for w))) ↔ (listed_for w l ≡ read (kept_in w) (bits_of l.following))
  writes = (
    λ e. comes_back ∙ ap (λ (p : Pairs). read p (bits_of l.following)) ((exact (kept_in w) (kept_fit interval w S)).0 (wrote interval w S l.out (length (image_for w)) e).0),
    λ e. let z = (same_back (kept_in w) e).0 refl in strict_is ∙ rw z,
  )
