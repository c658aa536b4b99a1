-- What an exported call answers, from what the call below it tells: the refusal's number, 0 where it is not refused, three values, and a place.
use Rattle.std.specs.Prelude.{ℕ, ◌-◌, cond, ◌&&◌, List, [], ◌∷◌, ℤ, leb, length, get_or, take, drop}
use Rattle.told.specs.Told.{Told, gave, refused}
use Rattle.bits.specs.Read.{Piece}
use Rattle.signed.specs.Signed.{pattern}
use Rattle.bits.specs.declared.Place.{Place}
use Rattle.tracker.specs.declared.Seq.{Seq}
use Rattle.tracker.specs.declared.Second.{Second}
use Rattle.lookup.specs.Find.{Partner, partner, nothing}
use Rattle.answers.specs.declared.Answer.{Answer}

-- how many of these numbers stand before a place: 4 to 8 tell one in their last two, and the others tell none
abbrev pub before_place : List ℕ → ℕ
before_place l = cond (leb 4 (get_or l 0 0) && leb (get_or l 0 0) 8) (length l - 2) (length l)

-- the number, what is given or what the refusal also tells, in order, and the place; 0 where there is no more
abbrev pub answer_of : List ℕ → Answer
answer_of l = record {
  number = get_or l 0 0;
  a = get_or (take (before_place l) l) 1 0;
  b = get_or (take (before_place l) l) 2 0;
  c = get_or (take (before_place l) l) 3 0;
  byte = get_or (drop (before_place l) l) 0 0;
  bit = get_or (drop (before_place l) l) 1 0;
}

-- of a call that gives these values, or refuses
abbrev pub of : {A : Type 0} → (A → List ℕ) → Told A → Answer
of values (gave a) = answer_of (0 ∷ values a)
of values (refused what) = answer_of what

-- a count or a length
abbrev pub of_count : Told ℕ → Answer
of_count = of (λ n. n ∷ [])

-- a signed number, by its 64 bits
abbrev pub of_signed : Told ℤ → Answer
of_signed = of (λ z. pattern z ∷ [])

-- the bits that were read, and the place after them: its byte, its bit
abbrev pub of_piece : Told Piece → Answer
of_piece = of (λ p. p.value ∷ p.next.byte ∷ p.next.bit ∷ [])

-- the place after the bits that were written: its byte, its bit
abbrev pub of_place : Told Place → Answer
of_place = of (λ p. p.byte ∷ p.bit ∷ [])

-- a check, of a table alone or before many questions: what passes gives no values
abbrev pub of_check : Told (Unit {0}) → Answer
of_check = of (λ _. [])

-- a lookup: 1 and the partner's 64 bits, or 0 where nothing is answered
abbrev pub found : {A : Type 0} → (A → ℕ) → Partner A → List ℕ
found bits (partner x) = 1 ∷ bits x ∷ []
found bits nothing = 0 ∷ []

abbrev pub of_ts : Told (Partner Second) → Answer
of_ts = of (found (λ s. pattern s.0))

abbrev pub of_seq : Told (Partner Seq) → Answer
of_seq = of (found (λ q. q.0))
