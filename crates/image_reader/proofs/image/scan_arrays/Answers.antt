use native.Mathlib.Omega.{arith}
use Prim.Native.Nat.{ℕ, ◌*◌, ◌≤◌}
use mathlib.Core.Path.{◌≡◌, refl, sym, ◌∙◌}
use mathlib.Core.Bool.{Bool}
use mathlib.Core.List.{List, [], ◌∷◌}
use borrow.Author.Tests.{leb-true}
use lib.Dec.{leb}
use lib.ListN.{length, drop}
use lib.IntN.{ℤ}
use Rattle.bit_lists.specs.BitList.{bits_of}
use Rattle.gorilla.specs.Array.{array_no}
use Rattle.gorilla.specs.Parser.{read, refused}
use Rattle.gorilla.specs.Reading.{read_part}
use Rattle.gorilla.specs.declared.Array.{Array}
use Rattle.gorilla.specs.declared.Array.TheVariants.{Sequences, Seconds}
use Rattle.array_reader.specs.Inner.{values_of, Agrees, ReadsArray}
use Rattle.std.specs.Prelude.{Ok, Err}
use Rattle.array_reader.specs.declared.array.Stretch.{Stretch}
use Rattle.code_reader.specs.declared.Refusal.{Refusal}
use Rattle.image_reader.specs.Inner.{ReadsArrays}
use Rattle.array_reader.proofs.Arrays.{array_length, array_room, part-found, part_differs, part-refused}
use Rattle.image_reader.proofs.Header.{arrays-found, first-refused, second-refused}
use Rattle.image_reader.proofs.image.scan_arrays.Goals as goal

-- an array that was found, as one part of an image of n pairs
module _ (s : List ℕ) (from max n : ℕ) (a : Array) (f : Stretch) (h : ReadsArray s from max a (Ok f)) where
  abbrev xs : List ℤ
  xs = values_of s (array_no a) f

  length_is : length xs ≡ f.count
  length_is = array_length s (array_no a) f.count f.first f.at h.1.0

  part : f.count ≡ n → (room : ℕ → Bool) → Agrees max room → read_part (length s * 8) (array_no a) room n (drop (from * 8) (bits_of s)) ≡ read xs (drop (f.end * 8) (bits_of s))
  part d room agrees = part-found (length s * 8) (array_no a) room n (drop (from * 8) (bits_of s)) (h.0 room agrees) (length_is ∙ d)

  differs : (f.count ≡ n → ⊥) → (room : ℕ → Bool) → Agrees max room → read_part (length s * 8) (array_no a) room n (drop (from * 8) (bits_of s)) ≡ refused (9 ∷ array_no a ∷ [])
  differs d room agrees = part_differs (length s * 8) (array_no a) room n (drop (from * 8) (bits_of s)) (h.0 room agrees) (λ l. d (sym length_is ∙ l))

  most : f.count ≤ max
  most = omega (arith, leb-true (length xs) max (array_room (length s * 8) (array_no a) (λ m. leb m max) (drop (from * 8) (bits_of s)) (h.0 (λ m. leb m max) (λ m k. refl))), length_is)

-- an array that was refused
module _ (s : List ℕ) (max n : ℕ) (r : Refusal) where
  first-cut : ReadsArray s 5 max Sequences (Err r) → ReadsArrays s max n (Err r)
  first-cut h =
      (λ room agrees. sym (first-refused (length s * 8) room n (drop 40 (bits_of s)) (part-refused (length s * 8) 0 room n (drop 40 (bits_of s)) (h.0 room agrees))), tt)

  second-cut : (f : Stretch) → ReadsArray s 5 max Sequences (Ok f) → f.count ≡ n → ReadsArray s f.end max Seconds (Err r) → ReadsArrays s max n (Err r)
  second-cut f h e k = (
    λ room agrees. sym (second-refused (length s * 8) room n (drop 40 (bits_of s)) (part s 5 max n Sequences f h e room agrees)
        (part-refused (length s * 8) 1 room n (drop (f.end * 8) (bits_of s)) (k.0 room agrees))),
    tt,
  )

pub returns-in_err-seqs : goal.returns-in_err-seqs
returns-in_err-seqs c =
    let e : c.from_residual.result ≡ Err c.in_err-seqs.field-0.0 = grind arith in
    rw e (first-cut c.args.s.now c.args.max c.args.n _ c.in_err-seqs.ensures)

pub returns-in_err-secs : goal.returns-in_err-secs
returns-in_err-secs c =
    let e : c.from_residual-in_err-secs.result ≡ Err c.in_err-secs.field-0.0 = grind arith in
    rw e (second-cut c.args.s.now c.args.max c.args.n _ c.in_ok-seqs.seqs c.in_ok-seqs.ensures c.if-seqs-n.false c.in_err-secs.ensures)

pub returns-then-seqs-n : goal.returns-then-seqs-n
returns-then-seqs-n c =
    let s = c.args.s.now in
    (λ room agrees. sym (first-refused (length s * 8) room c.args.n (drop 40 (bits_of s)) (differs s 5 c.args.max c.args.n Sequences c.in_ok-seqs.seqs c.in_ok-seqs.ensures c.if-seqs-n.true room agrees)), tt)

pub returns-then-secs-n : goal.returns-then-secs-n
returns-then-secs-n c =
    let s = c.args.s.now in
    let n = c.args.n in (
      λ room agrees. sym (second-refused (length s * 8) room n (drop 40 (bits_of s)) (part s 5 c.args.max n Sequences c.in_ok-seqs.seqs c.in_ok-seqs.ensures c.if-seqs-n.false room agrees)
          (differs s c.in_ok-seqs.seqs.end c.args.max n Seconds c.in_ok-secs.secs c.in_ok-secs.ensures c.if-secs-n.true room agrees)),
      tt,
    )

pub returns : goal.returns
returns c =
    let s = c.args.s.now in
    let max = c.args.max in
    let n = c.args.n in
    let g = c.in_ok-seqs in
    let h = c.in_ok-secs in (
      λ room agrees. sym (arrays-found (length s * 8) room n (drop 40 (bits_of s)) (part s 5 max n Sequences g.seqs g.ensures c.if-seqs-n.false room agrees) (part s g.seqs.end max n Seconds h.secs h.ensures c.if-secs-n.false room agrees)),
      (
        g.ensures.1.0,
        h.ensures.1.0,
        omega (arith, c.if-seqs-n.false, c.if-secs-n.false),
        omega (arith, most s g.seqs.end max n Seconds h.secs h.ensures),
        h.ensures.1.1,
      ),
    )
