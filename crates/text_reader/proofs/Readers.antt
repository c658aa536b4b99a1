-- One reader after another, and one in place of another. Assumes nothing.
use mathlib.Core.Path.{◌≡◌, ap}
use mathlib.Core.List.{List}
use Prim.Native.Nat.{ℕ}
use Rattle.gorilla.specs.Parser.{Read, read, refused, Reader, and_then}
use Rattle.text_reader.specs.Words.{first_of}

pub then_read : {A B : Type 0} {m : Read A} (f : A → Reader B) {x : A} {s : List ℕ} → m ≡ read x s → and_then m f ≡ f x s
then_read f e = ap (λ m. and_then m f) e

pub then_refused : {A B : Type 0} {m : Read A} (f : A → Reader B) {l : List ℕ} → m ≡ refused l → and_then m f ≡ refused l
then_refused f e = ap (λ m. and_then m f) e

pub or_read : {A : Type 0} {m : Read A} (other : Read A) {x : A} {s : List ℕ} → m ≡ read x s → first_of m other ≡ read x s
or_read other e = ap (λ m. first_of m other) e

pub or_refused : {A : Type 0} {m : Read A} (other : Read A) {l : List ℕ} → m ≡ refused l → first_of m other ≡ other
or_refused other e = ap (λ m. first_of m other) e
