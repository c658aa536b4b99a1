-- A date-time that is read is the whole text. Assumes nothing.
use mathlib.Core.Path.{◌≡◌, sym}
use mathlib.Core.List.{List, [], ◌∷◌}
use Prim.Native.Nat.{ℕ}
use native.Mathlib.Omega.{arith}
use Rattle.gorilla.specs.Parser.{Read, read, refused, Reader, and_then, give}
use Rattle.date_reader.specs.Grammar.{number, either, byte, fraction, offset, end, date_time}

pub read_not_refused : {A X : Type 0} {a : A} {s l : List ℕ} → refused l ≡ read a s → X
read_not_refused h = let z : ◌≡◌ {A = ℕ} 0 1 = cc in absurd (omega arith)

pub same_rest : {A : Type 0} {a b : A} {s t : List ℕ} → read a s ≡ read b t → s ≡ t
same_rest h = cc

-- whatever is read at the end of a reader, nothing is left of the text
abbrev Ends : {A : Type 0} → Read A → Type 0
Ends {A} m = (a : A) (l : List ℕ) → m ≡ read a l → l ≡ []

then_ends : {A B : Type 0} (m : Read A) (f : A → Reader B) → ((a : A) (s : List ℕ) → Ends (f a s)) → Ends (and_then m f)
then_ends (read a s) f h = h a s
then_ends (refused l) f h = λ b t e. read_not_refused e

end-ends : {A : Type 0} (a : A) (s : List ℕ) → Ends (and_then (end s) (λ _. give a))
unfolding end
end-ends a [] = λ b l e. sym (same_rest e)
end-ends a (x ∷ s) = λ b l e. read_not_refused e

pub whole : (s : List ℕ) → Ends (date_time s)
unfolding date_time
whole s =
    then_ends (number 4 s) _ (λ year s. then_ends (byte 45 s) _ (λ _ s.
    then_ends (number 2 s) _ (λ month s. then_ends (byte 45 s) _ (λ _ s.
    then_ends (number 2 s) _ (λ day s. then_ends (either 84 116 s) _ (λ _ s.
    then_ends (number 2 s) _ (λ hour s. then_ends (byte 58 s) _ (λ _ s.
    then_ends (number 2 s) _ (λ minute s. then_ends (byte 58 s) _ (λ _ s.
    then_ends (number 2 s) _ (λ second s. then_ends (fraction s) _ (λ _ s.
    then_ends (offset s) _ (λ zone s.
    end-ends (record { date = record { year = year; month = month; day = day; hour = hour; minute = minute; second = second }; zone = zone }) s)))))))))))))
