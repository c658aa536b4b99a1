-- What our own functions promise each other. No public statement cites this file.
use Rattle.std.specs.Prelude.{ℕ, ◌+◌, ◌-◌, ◌*◌, ◌^◌, ◌≡◌, Bool, false, cond, List, [], ◌∷◌, Option, Some, None, ltb}
use Rattle.std.specs.Borrow.{Bor}
use Prim.Native.Char.{code}
use Rattle.gorilla.specs.Parser.{Read, read, refused}
use Rattle.text_reader.specs.Digits.{is_digit, digits}

-- an answer, with the bytes that it lends
abbrev pub seen : {A : Type 0} → Option (A × Bor (List ℕ)) → Option (A × List ℕ)
seen (Some (x, rest)) = Some (x, rest.now)
seen None = None

-- what was read, with what is left; or the refusal l
abbrev pub as_read : {A : Type 0} → List ℕ → Option (A × Bor (List ℕ)) → Read A
as_read l (Some (x, rest)) = read x rest.now
as_read l None = refused l

-- what is left; or the refusal l
abbrev pub as_rest : List ℕ → Option (Bor (List ℕ)) → Read (Unit {0})
as_rest l (Some rest) = read tt rest.now
as_rest l None = refused l

-- the digit that stands first
abbrev pub digit_of : List ℕ → Option (ℕ × List ℕ)
digit_of [] = None
digit_of (x ∷ s) = cond (is_digit x) (Some (x - code "0", s)) None

-- a number, where it is one of 64 bits
abbrev pub in_64_bits : ℕ → Option ℕ
in_64_bits n = cond (ltb n (2 ^ 64)) (Some n) None

-- with one digit more
abbrev pub one_more : Option ℕ → ℕ → Option ℕ
one_more None d = None
one_more (Some n) d = in_64_bits (n * 10 + d)

-- one or more digits, all that stand here, and their number
abbrev pub DigitsOf : List ℕ → Option (Option ℕ × List ℕ) → Type 0
DigitsOf s None = (l : List ℕ) → digits l s ≡ refused l
DigitsOf s (Some (value, rest)) = (n : ℕ) × (value ≡ in_64_bits n) × ((l : List ℕ) → digits l s ≡ read n rest)

-- no byte that passes the test stands first
abbrev pub Lacks : (ℕ → Bool) → List ℕ → Type 0
Lacks t [] = Unit {0}
Lacks t (x ∷ l) = t x ≡ false
