-- A number of k digits, and up to k digits, as the code reads them: digit by digit, i of which were read. Assumes nothing.
use Rattle.std.proofs.Common.{◌≡◌, refl, ap, ◌∙◌, ℕ, suc, ◌+◌, ◌-◌, ◌*◌, ◌^◌, ◌≤◌, ◌<◌, List, [], ◌∷◌, Some, None, arith}
use Rattle.std.proofs.Math.Nat.{pow-suc, pow-le-pow_right}
use Rattle.std.proofs.Math.Numerals.{add-one}
use Rattle.gorilla.specs.Parser.{read}
use Rattle.text_reader.specs.Digits.{is_digit}
use Rattle.text_reader.specs.Inner.{Lacks, digit_of}
use Rattle.text_reader.proofs.Fronts.{Digit, digit_there, digit_most, no_digit}
use Rattle.date_reader.specs.Grammar.{bad, more_digits, number, up_to}

pub record Partly (s : List ℕ) (k n : ℕ) (rest : List ℕ) (i : ℕ) : Type 0 where
  pub left : number k s ≡ more_digits (k - i) n rest
  pub small : n < 10 ^ i

one_there : (j n d : ℕ) (s rest : List ℕ) → Digit s d rest → more_digits (suc j) n s ≡ more_digits j (n * 10 + d) rest
unfolding more_digits
one_there j n d s rest a = rw (a.there, a.is, a.number)

one_lacks : (j n : ℕ) (s : List ℕ) → Lacks is_digit s → more_digits (suc j) n s ≡ bad
unfolding more_digits
one_lacks j n [] h = refl
one_lacks j n (x ∷ s) h = rw h

pub partly_none : (s : List ℕ) (k : ℕ) → Partly s k 0 s 0
partly_none s k = let e : k - 0 ≡ k = omega arith in record { left = rw e; small = omega arith }

up_to_lacks : (j : ℕ) (s : List ℕ) → Lacks is_digit s → up_to (suc j) s ≡ read tt s
unfolding up_to
up_to_lacks j [] h = refl
up_to_lacks j (x ∷ s) h = rw h

module _ (s : List ℕ) (k n : ℕ) (rest : List ℕ) (i : ℕ) (p : Partly s k n rest i) where
  module _ (h : i < k) where
    step : k - i ≡ suc (k - (i + 1))
    step = omega arith

    turn : number k s ≡ more_digits (suc (k - (i + 1))) n rest
    turn = p.left ∙ ap (λ j. more_digits j n rest) step

    pub partly_more : (d : ℕ) (after : List ℕ) → digit_of rest ≡ Some (d, after) → Partly s k (n * 10 + d) after (i + 1)
    partly_more d after e =
        let a = digit_there rest after d e in
        record {
          left = turn ∙ one_there (k - (i + 1)) n d rest after a;
          small = rw (add-one i) (omega (arith, digit_most a, p.small, pow-suc 10 i));
        }

    pub partly_bad : digit_of rest ≡ None → number k s ≡ bad
    partly_bad e = turn ∙ one_lacks (k - (i + 1)) n rest (no_digit rest e)

  pub partly_fits : (d : ℕ) (after : List ℕ) → digit_of rest ≡ Some (d, after) → i < k → k ≤ 4 → n * 10 + d < 2 ^ 64
  partly_fits d after e h l = omega (arith, digit_most (digit_there rest after d e), p.small, pow-le-pow_right {n = 10} (omega arith) {i = i} {j = 4} (omega arith))

  pub partly_all : k ≤ i → number k s ≡ read n rest
  unfolding more_digits
  partly_all h = let e : k - i ≡ 0 = omega arith in p.left ∙ ap (λ j. more_digits j n rest) e

-- ---- up to k digits
module _ (s : List ℕ) (k : ℕ) (rest : List ℕ) (i : ℕ) (p : up_to k s ≡ up_to (k - i) rest) where
  module _ (h : i < k) where
    up_to_turn : up_to k s ≡ up_to (suc (k - (i + 1))) rest
    up_to_turn = let e : k - i ≡ suc (k - (i + 1)) = omega arith in p ∙ ap (λ j. up_to j rest) e

    pub up_to_more : (d : ℕ) (after : List ℕ) → digit_of rest ≡ Some (d, after) → up_to k s ≡ up_to (k - (i + 1)) after
    unfolding up_to
    up_to_more d after e = let a = digit_there rest after d e in up_to_turn ∙ rw (a.there, a.is)

    pub up_to_end : digit_of rest ≡ None → up_to k s ≡ read tt rest
    up_to_end e = up_to_turn ∙ up_to_lacks (k - (i + 1)) rest (no_digit rest e)

  pub up_to_all : k ≤ i → up_to k s ≡ read tt rest
  unfolding up_to
  up_to_all h = let e : k - i ≡ 0 = omega arith in p ∙ ap (λ j. up_to j rest) e
