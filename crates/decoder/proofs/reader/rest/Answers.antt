use native.Mathlib.Nat.{add_comm}
use native.Mathlib.Omega.{arith}
use Prim.Native.Nat.{ℕ, ◌+◌, ◌-◌, ◌≤◌}
use mathlib.Core.Path.{◌≡◌, ap, ◌∙◌}
use mathlib.Core.List.{List}
use lib.ListN.{length, take, drop}
use Rattle.std.specs.Prelude.{Result, Ok, Err}
use Rattle.std.specs.Result.{result_unwrap_or}
use Rattle.code_reader.specs.declared.Refusal.{Refusal}
use Rattle.decoder.specs.Decode.{told_image_len, image_len_rule, start_of, rest_from, rest_rule, onwards}
use Rattle.decoder.proofs.Lengths.{len_within, tail_is}
use Rattle.decoder.proofs.reader.rest.Goals as goal

-- where the part starts: within the bytes, and where the rest does
within : (s : List ℕ) (r : Result ℕ Refusal) {d : ℕ} → d ≤ length s → told_image_len r ≡ image_len_rule s → result_unwrap_or r d ≤ length s
within s (Ok n) l h = len_within s h
within s (Err e) l h = l

start_is : (s : List ℕ) (r : Result ℕ Refusal) → told_image_len r ≡ image_len_rule s → result_unwrap_or r (length s) ≡ rest_from s
start_is s (Ok n) h = ap (start_of s) h
start_is s (Err e) h = ap (start_of s) h

-- a part that starts where the rest does is the rest
part_is : (s : List ℕ) (n : ℕ) → n ≡ rest_from s → take (length s - n) (drop n s) ≡ rest_rule s
part_is s n e = tail_is s n ∙ ap (λ (k : ℕ). drop k s) e

-- ... and stands there
part_at : (s : List ℕ) (p : ℕ × ℕ) (n : ℕ) → n ≡ rest_from s → ◌≡◌ {A = ℕ × ℕ} (p.0, n + p.1) (onwards p (rest_from s))
part_at s p n e = ap (λ (o : ℕ). (p.0, o)) (add_comm n p.1 ∙ ap (λ (k : ℕ). p.1 + k) e)

pub slice_bounds-result-count : goal.slice_bounds-result-count
slice_bounds-result-count c = rw c.unwrap_or-start.ensures (within c.args.bytes.now c.image_len.result (omega arith) c.image_len.ensures)

pub slice_bounds-result-start : goal.slice_bounds-result-start
slice_bounds-result-start c = rw c.unwrap_or-start.ensures (within c.args.bytes.now c.image_len.result (omega arith) c.image_len.ensures)

pub returns : goal.returns
returns c =
    let s = c.args.bytes.now in
    let e : c.unwrap_or-start.result ≡ rest_from s = c.unwrap_or-start.ensures ∙ start_is s c.image_len.result c.image_len.ensures in
    record { rest = part_is s c.unwrap_or-start.result e; part = part_at s c.args.bytes.ref_ptr c.unwrap_or-start.result e }
