-- Words at the start of a text, and the alternatives of a grammar.
use Rattle.std.specs.Prelude.{ℕ, cond, List, [], ◌∷◌, eqb}
use Rattle.gorilla.specs.Parser.{Read, read, refused, Reader}

-- these very bytes; refused with l where others stand, or too few
unfoldable pub word : List ℕ → List ℕ → Reader (Unit {0})
word l [] s = read tt s
word l (a ∷ w) [] = refused l
word l (a ∷ w) (x ∷ s) = cond (eqb x a) (word l w s) (refused l)

-- what was read; refused, the other
abbrev pub first_of : {A : Type 0} → Read A → Read A → Read A
first_of (read x s) other = read x s
first_of (refused l) other = other

-- one reader or, where it refuses, another from the same place on
abbrev pub or_else : {A : Type 0} → Reader A → Reader A → Reader A
or_else a b = λ s. first_of (a s) (b s)
