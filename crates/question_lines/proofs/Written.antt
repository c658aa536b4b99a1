-- A line that is written is read as it was written. Assumes nothing.
use mathlib.Core.Path.{◌≡◌, refl, ap, ◌∙◌}
use mathlib.Core.Bool.{Bool, true, false}
use mathlib.Core.List.{List, [], ◌∷◌, ◌++◌, append_assoc}
use Prim.Native.Nat.{ℕ, zero, suc, ◌+◌, ◌-◌, ◌*◌, ◌/◌, ◌%◌, ◌^◌, ◌≤◌, ◌<◌}
use native.Mathlib.Omega.{arith}
use native.Mathlib.Nat.{pow-suc}
use borrow.Author.Tests.{le-leb, ne_eqb, ltb-true, ltb-false}
use lib.Dec.{ltb}
use lib.IntN.{ℤ, pos, negsuc}
use mir.Syntax.{w64}
use mir.Val.{SFits}
use Rattle.text.specs.Text.{digits as spelled, decimal, signed_decimal}
use Rattle.text.proofs.Numbers.{small, large}
use Rattle.tracker.specs.declared.Seq.{Seq}
use Rattle.tracker.specs.declared.Second.{Second}
use Rattle.lookup.specs.declared.FindOption.{FindOption}
use Rattle.lookup.specs.declared.FindOption.TheVariants.{RoundUp, RoundDown}
use Rattle.gorilla.specs.Parser.{read, refused, Reader, ◌>>=◌, give}
use Rattle.text_reader.specs.Digits.{is_digit, more_of, digits}
use Rattle.text_reader.specs.Words.{word}
use Rattle.text_reader.specs.Inner.{Lacks}
use Rattle.text_reader.proofs.Readers.{then_read, then_refused, or_read, or_refused}
use Rattle.text_reader.proofs.Numbers.{more_there, more_lacks, some-there}
use Rattle.question_lines.specs.declared.Question.{Question}
use Rattle.question_lines.specs.declared.Question.TheVariants.{BySeq, ByTime}
use Rattle.question_lines.specs.Grammar.{not_the_form, number, seq_number, not_negative, second, ending, by_seq, by_time, question}
use Rattle.question_lines.specs.Laws.{ending_of, line_of, Numbered}

-- ---- a number in decimal
fall : (k n : ℕ) → n < 10 ^ suc k → n / 10 < 10 ^ k
fall k n h = omega (arith, pow-suc 10 k)

one-digit : (n : ℕ) (l rest : List ℕ) → n < 10 → digits l ((48 + n) ∷ rest) ≡ more_of n rest
one-digit n l rest h =
    let e : 0 * 10 + n ≡ n = omega arith in
    some-there ((48 + n) ∷ rest) rest n (omega arith) refl l ∙ more_there ((48 + n) ∷ rest) rest n 0 (omega arith) refl ∙ ap (λ (m : ℕ). more_of m rest) e

spelled_read : (k n : ℕ) (l rest : List ℕ) → n < 10 ^ suc k → digits l (spelled (suc k) n ++ rest) ≡ more_of n rest
spelled_read zero n l rest h = let b : n < 10 = omega arith in rw (small 0 n b) (one-digit n l rest b)
spelled_read (suc k) n l rest h = go (spelled_read k (n / 10) l ((48 + n % 10) ∷ rest) (fall (suc k) n h)) (ltb n 10) refl
  where
    go : digits l (spelled (suc k) (n / 10) ++ ((48 + n % 10) ∷ rest)) ≡ more_of (n / 10) ((48 + n % 10) ∷ rest) → (b : Bool) → ltb n 10 ≡ b
        → digits l (spelled (suc (suc k)) n ++ rest) ≡ more_of n rest
    go i true e = let b : n < 10 = omega (arith, ltb-true) in rw (small (suc k) n b) (one-digit n l rest b)
    go i false e =
        let b : 10 ≤ n = omega (arith, ltb-false) in
        let f : n / 10 * 10 + n % 10 ≡ n = omega arith in
        rw (large (suc k) n b, append_assoc)
        (i ∙ more_there ((48 + n % 10) ∷ rest) rest (n % 10) (n / 10) (omega arith) refl ∙ ap (λ (m : ℕ). more_of m rest) f)

-- no minus stands first
spelled_plain : (k n : ℕ) (l rest : List ℕ) → n < 10 ^ suc k → word l (45 ∷ []) (spelled (suc k) n ++ rest) ≡ refused l
unfolding word
spelled_plain zero n l rest h = let b : n < 10 = omega arith in rw (small 0 n b) (rw (ne_eqb (48 + n) 45 (λ e. omega arith)))
spelled_plain (suc k) n l rest h = go (spelled_plain k (n / 10) l ((48 + n % 10) ∷ rest) (fall (suc k) n h)) (ltb n 10) refl
  where
    go : word l (45 ∷ []) (spelled (suc k) (n / 10) ++ ((48 + n % 10) ∷ rest)) ≡ refused l → (b : Bool) → ltb n 10 ≡ b
        → word l (45 ∷ []) (spelled (suc (suc k)) n ++ rest) ≡ refused l
    go i true e = let b : n < 10 = omega (arith, ltb-true) in rw (small (suc k) n b) (rw (ne_eqb (48 + n) 45 (λ e. omega arith)))
    go i false e = let b : 10 ≤ n = omega (arith, ltb-false) in rw (large (suc k) n b, append_assoc) i

module _ (rest : List ℕ) (other : Lacks is_digit rest) where
  number_read : (most n : ℕ) → n ≤ most → n < 2 ^ 64 → number most (decimal n ++ rest) ≡ read n rest
  unfolding decimal
  number_read most n h b = then_read _ (spelled_read 19 n not_the_form rest (omega arith) ∙ more_lacks rest n other) ∙ rw (le-leb n most h)

  pub second-read : (z : ℤ) → SFits w64 z → second (signed_decimal z ++ rest) ≡ read (record { 0 = z }) rest
  unfolding signed_decimal decimal word
  second-read (pos n) f =
      or_refused (not_negative (decimal n ++ rest)) (then_refused _ (spelled_plain 19 n not_the_form rest (omega (arith, f.sfits))))
      ∙ then_read _ (number_read (2 ^ 63 - 1) n (omega (arith, f.sfits)) (omega (arith, f.sfits)))
  second-read (negsuc n) f = or_read _ (then_read _ (number_read (2 ^ 63) (suc n) (omega (arith, f.sfits)) (omega (arith, f.sfits))))

  pub seq_read : (n : ℕ) → n < 2 ^ 64 → seq_number (decimal n ++ rest) ≡ read (record { 0 = n }) rest
  seq_read n h = then_read _ (number_read (2 ^ 64 - 1) n (omega arith) h)

-- ---- what follows it
ending-read : (option : FindOption) (rest : List ℕ) → ending (ending_of option ++ rest) ≡ read option rest
unfolding word
ending-read RoundUp rest = refl
ending-read RoundDown rest = refl

ending-other : (option : FindOption) (rest : List ℕ) → Lacks is_digit (ending_of option ++ rest)
unfolding is_digit
ending-other RoundUp rest = refl
ending-other RoundDown rest = refl

-- ---- the line, from after its number on
seq_ended : Seq → Reader Question
seq_ended seq = do
  option ← ending
  give (BySeq seq option)

time_ended : Second → Reader Question
time_ended ts = do
  option ← ending
  give (ByTime ts option)

seq_line : (t r : List ℕ) (seq : Seq) → seq_number t ≡ read seq r → by_seq (115 ∷ 101 ∷ 113 ∷ 32 ∷ t) ≡ seq_ended seq r
unfolding by_seq word seq_ended
seq_line t r seq e = then_read _ e

time-line : (t r : List ℕ) (ts : Second) → second t ≡ read ts r → by_time (116 ∷ 105 ∷ 109 ∷ 101 ∷ 32 ∷ t) ≡ time_ended ts r
unfolding by_time word time_ended
time-line t r ts e = then_read _ e

time-other : (t : List ℕ) → by_seq (116 ∷ t) ≡ refused not_the_form
unfolding by_seq word
time-other t = refl

pub line_read : (q : Question) → Numbered q → (rest : List ℕ) → question (line_of q ++ rest) ≡ read q rest
unfolding question seq_ended time_ended
line_read (BySeq seq option) h rest =
    let e = ap seq_number (append_assoc (decimal seq.0) (ending_of option) rest) ∙ seq_read (ending_of option ++ rest) (ending-other option rest) seq.0 h in
    or_read _ (seq_line _ (ending_of option ++ rest) seq e ∙ then_read _ (ending-read option rest))
line_read (ByTime ts option) h rest =
    let e = ap second (append_assoc (signed_decimal ts.0) (ending_of option) rest) ∙ second-read (ending_of option ++ rest) (ending-other option rest) ts.0 h in
    or_refused _ (time-other _) ∙ time-line _ (ending_of option ++ rest) ts e ∙ then_read _ (ending-read option rest)
