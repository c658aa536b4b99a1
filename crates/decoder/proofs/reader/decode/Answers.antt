use native.Mathlib.Omega.{arith}
use Prim.Native.Nat.{ℕ, min}
use mathlib.Core.Path.{◌≡◌, sym, ap, ◌∙◌}
use mathlib.Core.List.{List}
use Rattle.std.proofs.Common.{map-id}
use lib.Dec.{leb}
use lib.ListN.{length}
use lib.IntN.{ℤ}
use Rattle.told.specs.Over.{over}
use Rattle.told.specs.Told.{gave}
use Rattle.decoder.specs.Decode.{listed, count_of, Decodes}
use Rattle.array_reader.specs.Inner.{values_of}
use Rattle.image_reader.specs.Inner.{told_image, ReadsImage}
use Rattle.std.specs.Prelude.{Result, Ok, Err}
use Rattle.code_reader.specs.declared.Refusal.{Refusal}
use Rattle.image_reader.specs.declared.image.Parts.{Parts}
use Rattle.array_reader.proofs.Arrays.{array_length}
use Rattle.decoder.proofs.Stored.{seqs_over, secs_over}
use Rattle.decoder.proofs.reader.decode.Goals as goal

-- what was looked over is what the list reader reads
scan_is : (bytes seqs : List ℕ) (secs : List ℤ) {max : ℕ} (x : Result Parts Refusal) → max ≡ min (length seqs) (length secs) → ReadsImage bytes max x → told_image bytes x ≡ listed bytes seqs secs
unfolding listed
scan_is bytes seqs secs x e h = h.0 (λ n. leb n (min (length seqs) (length secs))) (λ n k. ap (leb n) (sym e))

pub fill-requires : goal.fill-requires
fill-requires c = let h = c.in_ok-p.ensures.1 in (omega (arith, h.2, h.3, c.min-max.ensures), (0, h.0))

pub fill-requires-2 : goal.fill-requires-2
fill-requires-2 c = let h = c.in_ok-p.ensures.1 in (omega (arith, h.3, c.min-max.ensures), (1, h.1))

pub returns : goal.returns
returns c =
    let s = c.args.bytes.now in
    let p = c.in_ok-p.p in
    let h = c.in_ok-p.ensures.1 in
    let i = scan_is s c.args.seqs.now c.args.secs.now (Ok p) c.min-max.ensures c.in_ok-p.ensures in (
      ap gave (sym (array_length s 1 p.secs.count p.secs.first p.secs.at h.1)) ∙ ap count_of i,
      c.fill.ensures 0 h.0 ∙ ap (seqs_over c.args.seqs.now) i,
      c.fill-2.ensures 1 h.1 ∙ ap (λ (xs : List ℤ). over xs c.args.secs.now) (map-id (values_of s 1 p.secs)) ∙ ap (secs_over c.args.secs.now) i,
    )

-- a refused image
none_read : (bytes seqs : List ℕ) (secs : List ℤ) {max : ℕ} (r : Result ℕ Refusal) (x : Refusal) → r ≡ Err x → max ≡ min (length seqs) (length secs) → ReadsImage bytes max (Err x)
    → Decodes bytes seqs secs r seqs secs
none_read bytes seqs secs r x k m h =
    let e = scan_is bytes seqs secs (Err x) m h in
    rw k (ap count_of e, ap (seqs_over seqs) e, ap (secs_over secs) e)

pub returns-in_err-p : goal.returns-in_err-p
returns-in_err-p c =
    let e : c.from_residual.result ≡ Err c.in_err-p.field-0.0 = grind arith in
    none_read c.args.bytes.now c.args.seqs.now c.args.secs.now _ _ e c.min-max.ensures c.in_err-p.ensures
