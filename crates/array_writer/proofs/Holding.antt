-- The codes of an array, written a word at a time: the codes so far stand in buf before place p, but for the bits h that
-- are held. Assumes nothing.
use Prim.Native.Nat.{ℕ, ◌+◌, ◌*◌, ◌^◌, ◌≤◌, ◌<◌}
use mathlib.Core.Path.{◌≡◌, sym, ap, ap₂, ◌∙◌, subst}
use mathlib.Core.List.{List, map}
use native.Mathlib.Nat.{add-zero}
use native.Mathlib.Omega.{arith}
use lib.ListN.{length}
use lib.IntN.{ℤ}
use Rattle.bits.specs.Place.{place_of}
use Rattle.bits.specs.declared.Place.{Place}
use Rattle.gorilla.specs.declared.Track.{Track}
use Rattle.bit_lists.specs.BitList.{nat_bits}
use Rattle.gorilla.specs.Format.{codes_bits}
use Rattle.raw_bits.specs.Inner.{put_list}
use Rattle.bit_lists.proofs.Lists.{length-nat_bits, put_append}
use Rattle.gorilla.proofs.Putting.{place-pos, place_bit}
use Rattle.code_writer.specs.declared.Held.{Held}
use Rattle.code_writer.specs.Inner.{Leads, held_bits, Fits}
use Rattle.code_writer.proofs.Codes.{Written, write_first, write_next, write_last}
use Rattle.code_writer.proofs.Once.{joined_bits, joined_fits}

abbrev pub bit_of : Place → ℕ
bit_of p = p.byte * 8 + p.bit

-- once the held bits are put, the rest is to be written after them
pub record Holding (C s : List ℕ) (q : ℕ) (buf : List ℕ) (p : Place) (h : Held) (t : Track) (xs : List ℤ) : Type 0 where
  pub low : p.bit < 8
  pub most : h.width ≤ 64
  pub fits : Fits h
  pub done : Written C s q (put_list buf (bit_of p) (held_bits h)) (bit_of p + h.width) t xs

pub hold_first : (s : List ℕ) (p : Place) (t : Track) (xs : List ℤ) → p.bit < 8 → Holding (codes_bits t.prev t.delta xs) s (bit_of p) s p (record { value = 0; width = 0 }) t xs
unfolding put_list nat_bits
hold_first s p t xs l = record {
  low = l;
  most = omega arith;
  fits = omega arith;
  done = subst (λ (m : ℕ). Written (codes_bits t.prev t.delta xs) s (bit_of p) s m t xs) (sym (add-zero (bit_of p))) (write_first s (bit_of p) t xs);
}

module _ {C s : List ℕ} {q : ℕ} {buf : List ℕ} {p : Place} {h : Held} {t : Track} {xs : List ℤ} (w : Holding C s q buf p h t xs) where
  -- the codes that are next, up to those of ys: g are their bits
  module _ (g : Held) (k : Fits g) {ys : List ℤ} {u : Track} (l : Leads xs t (held_bits g) ys u) where
    -- held with the others
    pub hold_more : (n : Held) → h.width + g.width ≤ 64 → n ≡ record { value = h.value * 2 ^ g.width + g.value; width = h.width + g.width }
        → Holding C s q buf p n u ys
    hold_more n r b =
        let m : ℕ = bit_of p in
        let v : n.width ≡ h.width + g.width = ap (λ (x : Held). x.width) b in
        let o : m + length (held_bits h) ≡ m + h.width = ap (λ (x : ℕ). m + x) (length-nat_bits h.width h.value) in
        let e : put_list buf m (held_bits n) ≡ put_list (put_list buf m (held_bits h)) (m + h.width) (held_bits g) =
        ap (put_list buf m) (joined_bits h g n w.fits k b) ∙ put_append buf m (held_bits h) (held_bits g)
        ∙ ap (λ (x : ℕ). put_list (put_list buf m (held_bits h)) x (held_bits g)) o in record {
          low = w.low;
          most = omega (arith, v, r);
          fits = joined_fits h g n w.fits k b;
          done = write_next w.done (held_bits g) l (put_list buf m (held_bits n)) (m + n.width) (omega (arith, v, length-nat_bits g.width g.value)) e;
        }

    -- held alone, the others put
    pub hold_put : (y : List ℕ) (r : Place) → g.width ≤ 64 → r ≡ place_of (bit_of p + h.width) → y ≡ put_list buf (bit_of p) (held_bits h)
        → Holding C s q y r g u ys
    hold_put y r z a b =
        let m : ℕ = bit_of p + h.width in
        let o : bit_of r ≡ m = place-pos m a in
        let e : put_list y (bit_of r) (held_bits g) ≡ put_list (put_list buf (bit_of p) (held_bits h)) m (held_bits g) =
        ap₂ (λ (x : List ℕ) (n : ℕ). put_list x n (held_bits g)) b o in record {
          low = place_bit m a;
          most = z;
          fits = k;
          done = write_next w.done (held_bits g) l (put_list y (bit_of r) (held_bits g)) (bit_of r + g.width) (omega (arith, o, length-nat_bits g.width g.value)) e;
        }

-- the held bits are put after the last code
pub hold_last : {A : Type 0} (f : A → ℤ) (xs : List A) {C s : List ℕ} {q : ℕ} {buf : List ℕ} {p : Place} {h : Held} {t : Track} → length xs ≡ 0 → Holding C s q buf p h t (map f xs)
    → (u : List ℕ) (r : Place) → r ≡ place_of (bit_of p + h.width) → u ≡ put_list buf (bit_of p) (held_bits h) → (r ≡ place_of (q + length C)) × (u ≡ put_list s q C)
hold_last f xs l w u r a b =
    let d = write_last f xs l w.done in
    (a ∙ ap place_of d.0, b ∙ d.1)
