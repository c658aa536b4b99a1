use Rattle.std.proofs.Common.{◌≡◌, ℕ, ◌/◌, ◌%◌, List, [], ◌∷◌, take, set, refl, sym, ap, ap₂, ◌∙◌, w64, arith, length-set}
use Rattle.std.specs.Int.{to_le_bytes}
use Rattle.std.proofs.lemmas.Slice.{put_mid-paste}
use lib.Seq.{sets-eq}
use Rattle.gorilla.specs.Format.{le_bytes}
use Rattle.image_writer.proofs.image.write_header.Goals as goal

low_four : (n : ℕ) → take 4 (to_le_bytes w64 n) ≡ le_bytes 4 n
unfolding le_bytes
low_four n =
    let third : n / 65536 ≡ n / 256 / 256 = omega arith in
    let fourth : n / 16777216 ≡ n / 256 / 256 / 256 = omega arith in
    ap₂ (λ (x y : ℕ). n % 256 ∷ n / 256 % 256 ∷ x % 256 ∷ y % 256 ∷ []) third fourth

pub returns : goal.returns
unfolding le_bytes
returns c =
    let s : List ℕ = set c.args.out.now 0 1 in
    let b : List ℕ = le_bytes 4 c.args.count in
    let h : c.copy_from_slice.new.self ≡ b = c.copy_from_slice.ensures.after ∙ ap (take 4) c.to_le_bytes.ensures ∙ low_four c.args.count in
    put_mid-paste 1 4 s c.copy_from_slice.new.self b 4 h refl refl ∙ sym (sets-eq b s 1 (omega (arith, length-set {A = ℕ})))
