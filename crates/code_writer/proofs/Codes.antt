-- The codes of an array, one value after the other: counted and written. A walk over the array holds a value with
-- its delta, t, and the values xs that are next. Assumes nothing.
use Prim.Native.Nat.{ℕ, ◌+◌, ◌*◌, ◌≤◌}
use mathlib.Core.Path.{◌≡◌, refl, sym, ap, ap₂, ◌∙◌, subst}
use mathlib.Core.List.{List, [], ◌∷◌, ◌++◌, append_assoc, map}
use native.Mathlib.Omega.{arith}
use lib.ListN.{length, length-append}
use lib.IntN.{ℤ, pos}
use Rattle.signed.specs.Signed.{pattern, sub_s}
use Rattle.gorilla.specs.declared.Track.{Track}
use Rattle.gorilla.specs.declared.Coded.{Coded}
use Rattle.gorilla.specs.Inner.{advanced}
use Rattle.bit_lists.specs.BitList.{nat_bits}
use Rattle.raw_bits.specs.Inner.{put_list}
use Rattle.gorilla.specs.Format.{code_bits, codes_bits, values_bits, array_bits}
use Rattle.bit_lists.proofs.Lists.{length-nat_bits, length-put_list, put_append}
use Rattle.gorilla.proofs.Putting.{length-code, narrow}
use Rattle.code_writer.specs.Inner.{Leads}

-- a code has at most 36 bits
pub code-most : (d : ℤ) → length (code_bits d) ≤ 36
code-most d = omega (arith, length-code d, narrow d)

pub codes_most : (p e : ℤ) (xs : List ℤ) → length (codes_bits p e xs) ≤ 36 * length xs
unfolding codes_bits
codes_most p e [] = omega arith
codes_most p e (x ∷ xs) =
    let d : ℤ = sub_s (sub_s x p) e in
    omega (arith, length-append (code_bits d) (codes_bits x (sub_s x p) xs), code-most d, codes_most x (sub_s x p) xs)

-- ---- an array's parts
pub none_length : length (array_bits []) ≡ 32
unfolding array_bits values_bits
none_length = omega (arith, length-append (nat_bits 32 0) [], length-nat_bits 32 0)

pub none_mapped : {A : Type 0} (f : A → ℤ) (xs : List A) → length xs ≡ 0 → length (array_bits (map f xs)) ≡ 32
none_mapped f [] h = none_length
none_mapped f (x ∷ xs) h = absurd (omega (arith, h))

pub array_parts : (x : ℤ) (xs : List ℤ) → array_bits (x ∷ xs) ≡ (nat_bits 32 (length (x ∷ xs)) ++ nat_bits 64 (pattern x)) ++ codes_bits x (pos 0) xs
unfolding array_bits values_bits
array_parts x xs = sym (append_assoc (nat_bits 32 (length (x ∷ xs))) (nat_bits 64 (pattern x)) (codes_bits x (pos 0) xs))

pub parts_length : (x : ℤ) (xs : List ℤ) → length (array_bits (x ∷ xs)) ≡ 96 + length (codes_bits x (pos 0) xs)
parts_length x xs =
    let A : List ℕ = nat_bits 32 (length (x ∷ xs)) in
    let B : List ℕ = nat_bits 64 (pattern x) in
    omega (arith, ap length (array_parts x xs), length-append (A ++ B) (codes_bits x (pos 0) xs), length-append A B, length-nat_bits 32 (length (x ∷ xs)), length-nat_bits 64 (pattern x))

-- at most 36 bits a value beside the head's 96, of which the first value's are 36
pub array_most : (xs : List ℤ) → length (array_bits xs) ≤ 60 + 36 * length xs
array_most [] = omega (arith, none_length)
array_most (x ∷ xs) = omega (arith, parts_length x xs, codes_most x (pos 0) xs)

-- ---- from a value to the next: c is where it leads, and bs are the bits of its code
pub leads_one : (x : ℤ) (xs : List ℤ) (t : Track) (c : Coded) (z : ℤ) → c ≡ advanced t x → z ≡ c.dod → (bs : List ℕ) → bs ≡ code_bits z → Leads (x ∷ xs) t bs xs c.next
unfolding codes_bits
leads_one x xs t c z e f bs b =
    ap (λ (k : Coded). code_bits k.dod ++ codes_bits k.next.prev k.next.delta xs) (sym e)
    ∙ ap (λ (l : List ℕ). l ++ codes_bits c.next.prev c.next.delta xs) (ap code_bits (sym f) ∙ sym b)

leads_length : (xs : List ℤ) (t : Track) (bs : List ℕ) (ys : List ℤ) (u : Track) → Leads xs t bs ys u
    → length (codes_bits t.prev t.delta xs) ≡ length bs + length (codes_bits u.prev u.delta ys)
leads_length xs t bs ys u l = ap length l ∙ length-append bs (codes_bits u.prev u.delta ys)

-- ---- counted: the bits so far, with those of the codes that are left, are the array's
pub record Counted (all : List ℤ) (t : Track) (total : ℕ) (xs : List ℤ) : Type 0 where
  pub most : total + 36 * length xs ≤ 60 + 36 * length all
  pub rest : total + length (codes_bits t.prev t.delta xs) ≡ length (array_bits all)

count_head : (x : ℤ) (xs : List ℤ) → Counted (x ∷ xs) (record { prev = x; delta = pos 0 }) 96 xs
count_head x xs = record { most = omega arith; rest = sym (parts_length x xs) }

pub count_first : {A : Type 0} (f : A → ℤ) (values rest : List A) (x : A) (p : ℤ) → values ≡ x ∷ rest → p ≡ f x → Counted (map f values) (record { prev = p; delta = pos 0 }) 96 (map f rest)
count_first {A} f values rest x p h k =
    subst (λ (l : List A). Counted (map f l) (record { prev = p; delta = pos 0 }) 96 (map f rest)) (sym h)
    (subst (λ (y : ℤ). Counted (f x ∷ map f rest) (record { prev = y; delta = pos 0 }) 96 (map f rest)) (sym k) (count_head (f x) (map f rest)))

pub count_next : {all : List ℤ} {t u : Track} {total : ℕ} {xs ys : List ℤ} (bs : List ℕ) (n : ℕ) → Counted all t total xs → Leads xs t bs ys u → n ≡ length bs
    → n + 36 * length ys ≤ 36 * length xs → Counted all u (total + n) ys
count_next {all} {t} {u} {total} {xs} {ys} bs n k l g h = record { most = omega (arith, h, k.most); rest = omega (arith, g, leads_length xs t bs ys u l, k.rest) }

pub count_last : {A : Type 0} (f : A → ℤ) (xs : List A) {all : List ℤ} {t : Track} {total : ℕ} → length xs ≡ 0 → Counted all t total (map f xs) → total ≡ length (array_bits all)
unfolding codes_bits
count_last f [] {all} {t} {total} h k = omega (arith, k.rest)
count_last f (x ∷ xs) h k = absurd (omega (arith, h))

-- ---- written: what is left, put from bit m of buf on, is all the bits C, put from bit q of s on
pub record Written (C s : List ℕ) (q : ℕ) (buf : List ℕ) (m : ℕ) (t : Track) (xs : List ℤ) : Type 0 where
  pub same : length buf ≡ length s
  pub rest : m + length (codes_bits t.prev t.delta xs) ≡ q + length C
  pub puts : put_list buf m (codes_bits t.prev t.delta xs) ≡ put_list s q C

pub write_first : (s : List ℕ) (q : ℕ) (t : Track) (xs : List ℤ) → Written (codes_bits t.prev t.delta xs) s q s q t xs
write_first s q t xs = record { same = refl; rest = refl; puts = refl }

module _ {C s : List ℕ} {q : ℕ} {buf : List ℕ} {m : ℕ} {t : Track} {xs : List ℤ} (w : Written C s q buf m t xs) where
  pub write_next : {ys : List ℤ} {u : Track} (bs : List ℕ) → Leads xs t bs ys u → (v : List ℕ) (n : ℕ) → n ≡ m + length bs → v ≡ put_list buf m bs → Written C s q v n u ys
  write_next {ys} {u} bs l v n g k =
      let R : List ℕ = codes_bits u.prev u.delta ys in record {
        same = ap length k ∙ length-put_list buf m bs ∙ w.same;
        rest = omega (arith, g, leads_length xs t bs ys u l, w.rest);
        puts = ap₂ (λ (y : List ℕ) (x : ℕ). put_list y x R) k g ∙ sym (put_append buf m bs R) ∙ ap (put_list buf m) (sym l) ∙ w.puts;
      }

-- no value is left
pub write_last : {A : Type 0} (f : A → ℤ) (xs : List A) {C s : List ℕ} {q : ℕ} {buf : List ℕ} {m : ℕ} {t : Track} → length xs ≡ 0 → Written C s q buf m t (map f xs)
    → (m ≡ q + length C) × (buf ≡ put_list s q C)
unfolding codes_bits put_list
write_last f [] h w = (omega (arith, w.rest), w.puts)
write_last f (x ∷ xs) h w = absurd (omega (arith, h))
