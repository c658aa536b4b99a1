-- Digits and words at the front of a text. Assumes nothing.
use Rattle.std.proofs.Common.{◌≡◌, refl, ap, ◌∙◌, sym, ℕ, ◌+◌, ◌-◌, ◌*◌, ◌^◌, ◌≤◌, Bool, true, false, ltb, eqb, List, [], ◌∷◌, length, take, drop, Option, Some, None, Bor, MatchOption, leb, arith}
use Rattle.std.specs.Cmp.Lexicographic.{pointwise}
use mathlib.Core.Bool.{cond, ◌&&◌}
use borrow.Author.Tests.{lt-ltb, le-ltb, ltb-false}
use Rattle.gorilla.specs.Parser.{read, refused}
use Rattle.text_reader.specs.Digits.{is_digit, more_of, digits}
use Rattle.text_reader.specs.Words.{word}
use Rattle.text_reader.proofs.Numbers.{more_lacks}
use Rattle.text_reader.specs.Inner.{Lacks, as_rest, digit_of, in_64_bits, one_more, DigitsOf}

-- ---- words
word_is : (l w s : List ℕ) → word l w s ≡ cond (pointwise eqb (take (length w) s) w) (read tt (drop (length w) s)) (refused l)
unfolding word
word_is l [] s = refl
word_is l (a ∷ w) [] = refl
word_is l (a ∷ w) (x ∷ s) = go (eqb x a) (word_is l w s)
  where
    go : (b : Bool) → word l w s ≡ cond (pointwise eqb (take (length w) s) w) (read tt (drop (length w) s)) (refused l)
        → cond b (word l w s) (refused l) ≡ cond (b && pointwise eqb (take (length w) s) w) (read tt (drop (length w) s)) (refused l)
    go true e = e
    go false e = refl

pub stripped : (w s : List ℕ) (r : Option (Bor (List ℕ)))
    → MatchOption r (pointwise eqb (take (length w) s) w ≡ false)
    (λ x. (pointwise eqb (take (length w) s) w ≡ true) × (x.now ≡ drop (length w) s) × (length x.now + length w ≡ length s))
    → (l : List ℕ) → as_rest l r ≡ word l w s
stripped w s (Some x) h l = rw (word_is l w s, h.0, h.1)
stripped w s None h l = rw (word_is l w s, h)

-- ---- digits
-- the first byte's digit, as the test came out
abbrev if_digit : Bool → ℕ → List ℕ → Option (ℕ × List ℕ)
if_digit b x s = cond {A = Option (ℕ × List ℕ)} b (Some (x - 48, s)) None

abbrev number_of : Option (ℕ × List ℕ) → ℕ
number_of (Some p) = p.0
number_of None = 0

abbrev left_of : Option (ℕ × List ℕ) → List ℕ
left_of (Some p) = p.1
left_of None = []

-- a byte that is a digit stands first, and its number is d
pub record Digit (s : List ℕ) (d : ℕ) (rest : List ℕ) : Type 0 where
  pub byte : ℕ
  pub there : s ≡ byte ∷ rest
  pub is : is_digit byte ≡ true
  pub number : byte - 48 ≡ d

pub digit_there : (s rest : List ℕ) (d : ℕ) → digit_of s ≡ Some (d, rest) → Digit s d rest
digit_there [] rest d h = absurd cc
digit_there (x ∷ s) rest d h = go (is_digit x) refl h
  where
    go : (b : Bool) → is_digit x ≡ b → if_digit b x s ≡ Some (d, rest) → Digit (x ∷ s) d rest
    go false e k = absurd cc
    go true e k = record { byte = x; there = ap (λ t. x ∷ t) (ap left_of k); is = e; number = ap number_of k }

pub no_digit : (s : List ℕ) → digit_of s ≡ None → Lacks is_digit s
no_digit [] h = tt
no_digit (x ∷ s) h = go (is_digit x) refl h
  where
    go : (b : Bool) → is_digit x ≡ b → if_digit b x s ≡ None → is_digit x ≡ false
    go false e k = e
    go true e k = absurd cc

pub digit_most : {s rest : List ℕ} {d : ℕ} → Digit s d rest → d ≤ 9
unfolding is_digit
digit_most {d = d} a = most a.byte a.is a.number
  where
    most : (x : ℕ) → (leb 48 x && leb x 57) ≡ true → x - 48 ≡ d → d ≤ 9
    most x e f = grind arith

more_digit : (s rest : List ℕ) (d n : ℕ) → Digit s d rest → more_of n s ≡ more_of (n * 10 + d) rest
unfolding more_of
more_digit s rest d n a = rw (a.there, a.is, a.number)

some_digits : (s rest : List ℕ) (d : ℕ) → Digit s d rest → (l : List ℕ) → digits l s ≡ more_of 0 s
unfolding digits
some_digits s rest d a l = rw (a.there, a.is)

pub no_digits : (s : List ℕ) → digit_of s ≡ None → (l : List ℕ) → digits l s ≡ refused l
unfolding digits
no_digits [] h l = refl
no_digits (x ∷ s) h l = rw (no_digit (x ∷ s) h)

pub grown : (value : Option ℕ) (n d : ℕ) → value ≡ in_64_bits n → one_more value d ≡ in_64_bits (n * 10 + d)
grown value n d e = rw e (go (ltb n (2 ^ 64)) refl)
  where
    go : (b : Bool) → ltb n (2 ^ 64) ≡ b → one_more (cond b (Some n) None) d ≡ in_64_bits (n * 10 + d)
    go true k = refl
    go false k = rw (le-ltb (n * 10 + d) (2 ^ 64) (omega (arith, ltb-false n (2 ^ 64) k)))

-- ---- the digits up to a place: those that were read make `value`, and `rest` is left
pub record SoFar (s : List ℕ) (value : Option ℕ) (rest : List ℕ) : Type 0 where
  pub number : ℕ
  pub told : value ≡ in_64_bits number
  pub read : (l : List ℕ) → digits l s ≡ more_of number rest

pub so_far_one : (s rest : List ℕ) (d : ℕ) → digit_of s ≡ Some (d, rest) → SoFar s (Some d) rest
so_far_one s rest d h =
    let a = digit_there s rest d h in
    record {
      number = d;
      told = sym (rw (lt-ltb d (2 ^ 64) (omega (arith, digit_most a))));
      read = λ l. let e : 0 * 10 + d ≡ d = omega arith in some_digits s rest d a l ∙ rw e at (more_digit s rest d 0 a);
    }

pub so_far_more : (s : List ℕ) (value : Option ℕ) (rest after : List ℕ) (d : ℕ) → SoFar s value rest → digit_of rest ≡ Some (d, after) → SoFar s (one_more value d) after
so_far_more s value rest after d f h = record {
  number = f.number * 10 + d;
  told = grown value f.number d f.told;
  read = λ l. f.read l ∙ more_digit rest after d f.number (digit_there rest after d h);
}

pub so_far_all : (s : List ℕ) (value : Option ℕ) (rest : List ℕ) → SoFar s value rest → digit_of rest ≡ None → DigitsOf s (Some (value, rest))
so_far_all s value rest f h = (f.number, f.told, λ l. f.read l ∙ more_lacks rest f.number (no_digit rest h))
