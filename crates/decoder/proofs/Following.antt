-- An image that was written has its own length, what follows it is the rest, and just strict pairs are read back; after any accepted input more bytes change nothing. Assumes nothing.
use Prim.Native.Nat.{ℕ, ◌-◌, ◌/◌, ◌≤◌, min}
use mathlib.Core.Path.{◌≡◌, refl, sym, ap, ◌∙◌}
use mathlib.Core.Bool.{true}
use mathlib.Core.Logic.{◌↔◌}
use mathlib.Core.List.{List, ◌++◌}
use native.Mathlib.Omega.{arith}
use borrow.Author.Tests.{le-leb}
use lib.Dec.{leb}
use lib.IntN.{ℤ}
use lib.ListN.{length, take, drop, length-append}
use lib.Seq.{take_at, drop_at, drop-append-le}
use Rattle.told.specs.Over.{over}
use Rattle.told.specs.Told.{Told, gave}
use Rattle.told.specs.Told as told
use Rattle.bit_lists.specs.BitList.{bits_of}
use Rattle.gorilla.specs.Format.{image_bytes}
use Rattle.gorilla.specs.Parser.{Read, read, refused}
use Rattle.gorilla.specs.Reading.{Pairs, read_image}
use Rattle.gorilla.specs.RoundTrip.{Fit}
use Rattle.bit_lists.proofs.Lists.{length-bits_of}
use Rattle.gorilla.proofs.RoundTrip.{received_pairs, received_lengths, reads, exact}
use Rattle.gorilla.proofs.Ignored.{following-ignored}
use Rattle.decoder.specs.Decode.{listed, count_of, decode_rule, seqs_after, secs_after, image_len_of, image_len_rule, start_of}
use Rattle.decoder.specs.Following.{image_then, RestFollows, DecodesBack, CallsIgnoreFollowing}

image_len_is : (p : Pairs) (following : List ℕ) → Fit p → image_len_rule (image_then p following) ≡ gave (length (image_bytes p.seqs p.secs))
unfolding image_len_rule
image_len_is p following F =
    let b : List ℕ = image_bytes p.seqs p.secs in
    let e : length (b ++ following) - length (bits_of following) / 8 ≡ length b = omega (arith, length-append b following, length-bits_of following) in
    ap (image_len_of (b ++ following)) (reads p (λ n. true) following F refl) ∙ ap gave e

pub rest_follows : RestFollows
rest_follows p following F =
    let b : List ℕ = image_bytes p.seqs p.secs in
    let e = image_len_is p following F in
    (e, ap (λ (t : Told ℕ). drop (start_of (b ++ following) t) (b ++ following)) e ∙ drop_at b following (length b) refl)

-- ---- into lent arrays

same_front : {A : Type 0} (a b old : List A) → length a ≡ length b → over a old ≡ over b old → a ≡ b
same_front a b old e h = sym (take_at a (drop (length a) old) (length b) e) ∙ ap (take (length b)) h ∙ take_at b (drop (length b) old) (length b) refl

module _ (p : Pairs) (following seqs : List ℕ) (secs : List ℤ) (F : Fit p) (h : length p.seqs ≤ min (length seqs) (length secs)) where
  listed_is : listed (image_then p following) seqs secs ≡ read (received_pairs p) (bits_of following)
  unfolding listed
  listed_is = reads p (λ n. leb n (min (length seqs) (length secs))) following F (le-leb (length p.seqs) (min (length seqs) (length secs)) h)

  held : (received_pairs p ≡ p) ↔ ((over (received_pairs p).seqs seqs ≡ over p.seqs seqs) × (over (received_pairs p).secs secs ≡ over p.secs secs))
  held =
      let l = received_lengths p in (
        λ e. (ap (λ (q : Pairs). over q.seqs seqs) e, ap (λ (q : Pairs). over q.secs secs) e),
        λ e. λ i. record { seqs = same_front (received_pairs p).seqs p.seqs seqs l.0 e.0 i; secs = same_front (received_pairs p).secs p.secs secs l.1 e.1 i },
      )

pub decodes_back : DecodesBack
decodes_back p following seqs secs F h =
    let e = listed_is p following seqs secs F h in
    let x = exact p F in
    let y = held p following seqs secs F h in
    rw e (ap gave ((received_lengths p).1 ∙ sym F.same), (λ w. y.0 (x.0 w), λ b. x.1 (y.1 b)))

-- ---- of any accepted input

none_given : (l : List ℕ) (n : ℕ) → told.refused l ≡ gave n → ⊥
none_given l n e = let z : ◌≡◌ {A = ℕ} 0 1 = cc in omega arith

module _ (bytes following seqs : List ℕ) (secs : List ℤ) (n : ℕ) where
  decode_followed : (r : Read Pairs) → listed bytes seqs secs ≡ r → count_of r ≡ gave n
      → (decode_rule (bytes ++ following) seqs secs ≡ gave n)
      × (seqs_after (bytes ++ following) seqs secs ≡ seqs_after bytes seqs secs)
      × (secs_after (bytes ++ following) seqs secs ≡ secs_after bytes seqs secs)
  unfolding listed
  decode_followed (read p left) e h = rw (following-ignored (λ k. leb k (min (length seqs) (length secs))) bytes following left p e, e) (h, refl, refl)
  decode_followed (refused l) e h = absurd (none_given l n h)

  len_followed : (r : Read Pairs) → read_image (λ k. true) bytes ≡ r → image_len_of bytes r ≡ gave n → (image_len_rule (bytes ++ following) ≡ gave n) × (n ≤ length bytes)
  unfolding image_len_rule
  len_followed (read p left) e h =
      let k : length bytes - length left / 8 ≡ n = cc in
      let same : length (bytes ++ following) - length (left ++ bits_of following) / 8 ≡ n =
      omega (arith, k, length-append bytes following, length-append left (bits_of following), length-bits_of following) in
      (ap (image_len_of (bytes ++ following)) (following-ignored (λ j. true) bytes following left p e) ∙ ap gave same, omega arith)
  len_followed (refused l) e h = absurd (none_given l n h)

pub calls_ignore_following : CallsIgnoreFollowing
unfolding image_len_rule
calls_ignore_following bytes following seqs secs n = (
  λ h. decode_followed bytes following seqs secs n (listed bytes seqs secs) refl h,
  λ h. let k = len_followed bytes following seqs secs n (read_image (λ j. true) bytes) refl h in
      (k.0, rw (k.0, h) (drop-append-le n bytes following k.1)),
)
