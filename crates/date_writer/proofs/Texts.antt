-- Each second of the domain has one text, of twenty bytes, and the order of texts is the order of seconds. Assumes nothing.
use mathlib.Core.Path.{◌≡◌, refl, ap, ◌∙◌, sym}
use mathlib.Core.Bool.{Bool, true, false, ◌&&◌, ◌||◌}
use mathlib.Core.List.{List, [], ◌∷◌, ◌++◌}
use Prim.Native.Nat.{ℕ, ◌+◌, ◌/◌, ◌%◌, ◌<◌}
use native.Mathlib.Omega.{arith}
use borrow.Author.Tests.{lt-ltb, le-ltb, eq-eqb, ne_eqb}
use lib.Dec.{ltb, eqb}
use lib.IntN.{ℤ, pos}
use lib.ListN.{length, get_or}
use lib.Signed.{lt_z}
use Rattle.limits.specs.Domain.{outside}
use Rattle.calendar.specs.declared.Date.{Date}
use Rattle.calendar.specs.Inner.{date_of, moment_at}
use Rattle.calendar.specs.Laws.{numbers, before}
use Rattle.calendar.proofs.Order.{by_first}
use Rattle.calendar.proofs.Laws.{is_date-of, one_date, calendar}
use Rattle.date_writer.specs.DateText.{two, four, text_of, Dated, AllDated}
use Rattle.date_writer.specs.Inner.{date_text}

pub text_length : (d : Date) → length (text_of d) ≡ 20
unfolding text_of
text_length d = refl

pub dated_text : (z : ℤ) → outside z ≡ false → Dated z (date_text z)
dated_text z h = (date_of (moment_at z), is_date-of z h, refl)

pub one_text : (z : ℤ) (t u : List ℕ) → Dated z t → Dated z u → t ≡ u
one_text z t u h k = h.2 ∙ ap text_of (one_date z h.0 k.0 h.1 k.1) ∙ sym k.2

-- two functions that make the texts of some seconds make the same of each
pub same_texts : (f g : ℤ → List ℕ) (secs : List ℤ) → AllDated f secs → AllDated g secs → (i : ℕ) → i < length secs → f (get_or secs i (pos 0)) ≡ g (get_or secs i (pos 0))
same_texts f g secs h k i l = one_text (get_or secs i (pos 0)) (f (get_or secs i (pos 0))) (g (get_or secs i (pos 0))) (h i l) (k i l)

pub dated-length : (z : ℤ) (t : List ℕ) → Dated z t → length t ≡ 20
dated-length z t h = ap length h.2 ∙ text_length h.0

-- ---- the order of texts
-- one place of two lists, and the rest of them
abbrev level : ℕ → ℕ → Bool → Bool
level x y rest = ltb x y || eqb x y && rest

-- two places that are the high and the low part of a number are as one place that has the number
as_one : (x y x' y' n m : ℕ) (rest : Bool) → (x < y → n < m) → (y < x → m < n) → (x ≡ y → x' < y' → n < m) → (x ≡ y → y' < x' → m < n) → (x ≡ y → x' ≡ y' → n ≡ m)
    → level x y (level x' y' rest) ≡ level n m rest
as_one x y x' y' n m rest f g h k l =
    by_first (λ t. t ≡ level n m rest) x y (level x' y' rest) (λ a. yes (f a))
    (λ e. by_first (λ t. t ≡ level n m rest) x' y' rest (λ a. yes (h e a)) (λ q. even (l e q)) (λ a. no (k e a)))
    (λ a. no (g a))
  where
    yes : n < m → true ≡ level n m rest
    yes a = rw (lt-ltb n m a)

    no : m < n → false ≡ level n m rest
    no a = rw (le-ltb n m (omega arith), ne_eqb n m (λ e. omega (arith, e)))

    even : n ≡ m → rest ≡ level n m rest
    even e = rw (le-ltb n m (omega arith), eq-eqb n m e)

two-before : (n m : ℕ) (s t : List ℕ) → before (two n ++ s) (two m ++ t) ≡ level n m (before s t)
unfolding before
two-before n m s t =
    as_one (48 + n / 10) (48 + m / 10) (48 + n % 10) (48 + m % 10) n m (before s t) (λ a. omega arith) (λ a. omega arith) (λ e a. omega arith) (λ e a. omega arith) (λ e q. omega arith)

four-before : (n m : ℕ) (s t : List ℕ) → before (four n ++ s) (four m ++ t) ≡ level n m (before s t)
four-before n m s t =
    two-before (n / 100) (m / 100) (two (n % 100) ++ s) (two (m % 100) ++ t)
    ∙ ap (level (n / 100) (m / 100)) (two-before (n % 100) (m % 100) s t)
    ∙ as_one (n / 100) (m / 100) (n % 100) (m % 100) n m (before s t) (λ a. omega arith) (λ a. omega arith) (λ e a. omega arith) (λ e a. omega arith) (λ e q. omega arith)

-- what follows the minutes, the hours, the days, the months and the year
abbrev pub from_second : Date → List ℕ
from_second d = 58 ∷ two d.second ++ (90 ∷ [])

abbrev pub from_minute : Date → List ℕ
from_minute d = 58 ∷ two d.minute ++ from_second d

abbrev pub from_hour : Date → List ℕ
from_hour d = 84 ∷ two d.hour ++ from_minute d

abbrev pub from_day : Date → List ℕ
from_day d = 45 ∷ two d.day ++ from_hour d

abbrev pub from_month : Date → List ℕ
from_month d = 45 ∷ two d.month ++ from_day d

pub texts_order : (d e : Date) → before (text_of d) (text_of e) ≡ before (numbers d) (numbers e)
unfolding text_of before
texts_order d e =
    four-before d.year e.year (from_month d) (from_month e)
    ∙ ap (level d.year e.year) (two-before d.month e.month (from_day d) (from_day e)
    ∙ ap (level d.month e.month) (two-before d.day e.day (from_hour d) (from_hour e)
    ∙ ap (level d.day e.day) (two-before d.hour e.hour (from_minute d) (from_minute e)
    ∙ ap (level d.hour e.hour) (two-before d.minute e.minute (from_second d) (from_second e)
    ∙ ap (level d.minute e.minute) (two-before d.second e.second (90 ∷ []) (90 ∷ []))))))

pub dated-order : (z w : ℤ) (t u : List ℕ) → Dated z t → Dated w u → before t u ≡ lt_z z w
dated-order z w t u h k =
    let e : before t u ≡ before (text_of h.0) (text_of k.0) = rw (h.2, k.2) in
    e ∙ texts_order h.0 k.0 ∙ calendar.order h.0 k.0 h.1.0 k.1.0 ∙ rw (h.1.1, k.1.1)
