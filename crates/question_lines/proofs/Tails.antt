-- A line leaves the end of the bytes from some place on. Assumes nothing.
use mathlib.Core.Path.{◌≡◌, refl, sym, ◌∙◌}
use mathlib.Core.Bool.{Bool, true, false, cond}
use mathlib.Core.List.{List, [], ◌∷◌}
use Prim.Native.Nat.{ℕ, suc, ◌+◌, ◌-◌, ◌*◌, ◌≤◌}
use native.Mathlib.Omega.{arith}
use lib.Dec.{eqb}
use lib.ListN.{length, drop, length-drop}
use lib.Seq.{drop-drop}
use Rattle.gorilla.specs.Parser.{Read, read, refused, Reader, and_then, give, require}
use Rattle.text_reader.specs.Digits.{is_digit, more_of, digits}
use Rattle.text_reader.specs.Words.{word, first_of, or_else}
use Rattle.question_lines.specs.declared.Question.{Question}
use Rattle.std.specs.Borrow.{Bor}
use Rattle.std.specs.Prelude.{Option, Some, None}
use Rattle.question_lines.specs.Line.{LineAt, seen}
use Rattle.question_lines.specs.Inner.{as_read}
use Rattle.question_lines.specs.Grammar.{not_the_form, number, ending, negative, not_negative, second, up, down, by_seq, by_time, question}

-- the rest is what stands in s from some place on
abbrev TailOf : List ℕ → List ℕ → Type 0
TailOf s rest = (at : ℕ) × (at ≤ length s) × (rest ≡ drop at s)

-- a reader that leaves such a rest
abbrev Tails : {A : Type 0} → Reader A → Type 0
Tails {A} m = (s : List ℕ) (x : A) (rest : List ℕ) → m s ≡ read x rest → TailOf s rest

all-of : (s : List ℕ) → TailOf s s
all-of s = (0, omega arith, refl)

after : (s t rest : List ℕ) → TailOf s t → TailOf t rest → TailOf s rest
after s t rest a b = (
  a.0 + b.0,
  omega (arith, a.1, b.1, simp length-drop at (rw a.2 at b.1)),
  b.2 ∙ rw a.2 (drop-drop b.0 a.0 s),
)

then : {A B : Type 0} (m : Reader A) (f : A → Reader B) → Tails m → ((x : A) → Tails (f x)) → Tails (λ s. and_then (m s) f)
then {A = A} m f p q s y rest = go (m s) refl
  where
    go : (r : Read A) → m s ≡ r → and_then r f ≡ read y rest → TailOf s rest
    go (read x t) e h = after s t rest (p s x t e) (q x t y rest h)
    go (refused l) e h = absurd cc

either : {A : Type 0} (a b : Reader A) → Tails a → Tails b → Tails (or_else a b)
either {A = A} a b p q s y rest = go (a s) refl
  where
    go : (r : Read A) → a s ≡ r → first_of r (b s) ≡ read y rest → TailOf s rest
    go (read x t) e h = p s y rest (e ∙ h)
    go (refused l) e h = q s y rest h

given : {A : Type 0} (x : A) → Tails (give x)
given x s y rest h = let e : s ≡ rest = cc in rw (← e) (all-of s)

required : (b : Bool) (l : List ℕ) → Tails (require b l)
required true l s y rest h = let e : s ≡ rest = cc in rw (← e) (all-of s)
required false l s y rest h = absurd cc

next-of : (x : ℕ) (s rest : List ℕ) → TailOf s rest → TailOf (x ∷ s) rest
next-of x s rest a = (suc a.0, omega (arith, a.1), a.2)

word-tails : (l w : List ℕ) → Tails (word l w)
unfolding word
word-tails l [] s y rest = λ h. let e : s ≡ rest = cc in rw (← e) (all-of s)
word-tails l (a ∷ w) [] y rest = λ h. absurd cc
word-tails l (a ∷ w) (x ∷ s) y rest = go (word-tails l w s y rest) (eqb x a)
  where
    go : (word l w s ≡ read y rest → TailOf s rest) → (b : Bool) → cond b (word l w s) (refused l) ≡ read y rest → TailOf (x ∷ s) rest
    go i true h = next-of x s rest (i h)
    go i false h = absurd cc

more-tails : (n : ℕ) → Tails (more_of n)
unfolding more_of
more-tails n [] y rest = λ h. let e : [] ≡ rest = cc in rw (← e) (all-of [])
more-tails n (x ∷ s) y rest = go (more-tails (n * 10 + (x - 48)) s y rest) (is_digit x)
  where
    go : (more_of (n * 10 + (x - 48)) s ≡ read y rest → TailOf s rest) → (b : Bool)
        → cond b (more_of (n * 10 + (x - 48)) s) (read n (x ∷ s)) ≡ read y rest → TailOf (x ∷ s) rest
    go i true h = next-of x s rest (i h)
    go i false h = let e : x ∷ s ≡ rest = cc in rw (← e) (all-of (x ∷ s))

digits-tails : (l : List ℕ) → Tails (digits l)
unfolding digits
digits-tails l [] y rest = λ h. absurd cc
digits-tails l (x ∷ s) y rest = go (is_digit x)
  where
    go : (b : Bool) → cond b (more_of 0 (x ∷ s)) (refused l) ≡ read y rest → TailOf (x ∷ s) rest
    go true h = more-tails 0 (x ∷ s) y rest h
    go false h = absurd cc

number-tails : (most : ℕ) → Tails (number most)
number-tails most = then _ _ (digits-tails not_the_form) (λ n. then _ _ (required _ not_the_form) (λ _. given n))

ending-tails : Tails ending
ending-tails = then _ _ (word-tails not_the_form _) (λ _. then _ _ (either up down (then _ _ (word-tails not_the_form _) (λ _. given _)) (then _ _ (word-tails not_the_form _) (λ _. given _))) (λ option. then _ _ (word-tails not_the_form _) (λ _. given option)))

second-tails : Tails second
second-tails = either negative not_negative
    (then _ _ (word-tails not_the_form _) (λ _. then _ _ (number-tails _) (λ n. given _)))
    (then _ _ (number-tails _) (λ n. given _))

by-seq-tails : Tails by_seq
unfolding by_seq
by-seq-tails = then _ _ (word-tails not_the_form _) (λ _. then _ _ (word-tails not_the_form _) (λ _. then _ _ (then _ _ (number-tails _) (λ n. given _)) (λ seq. then _ _ ending-tails (λ option. given _))))

by-time-tails : Tails by_time
unfolding by_time
by-time-tails = then _ _ (word-tails not_the_form _) (λ _. then _ _ (word-tails not_the_form _) (λ _. then _ _ second-tails (λ ts. then _ _ ending-tails (λ option. given _))))

pub question-tails : Tails question
unfolding question
question-tails = either by_seq by_time by-seq-tails by-time-tails

-- what was read of a line is what stands there
pub question_at : (s : List ℕ) (r : Option (Question × Bor (List ℕ))) → as_read r ≡ question s → LineAt s (question s) (seen r)
question_at s (Some (q, rest)) h = (sym h, question-tails s q rest.now (sym h))
question_at s None h = sym h
