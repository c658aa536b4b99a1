-- No second outcome fits the statement of a log.
use mathlib.Core.Path.{◌≡◌, refl, sym, ap, ◌∙◌}
use mathlib.Core.Bool.{cond}
use mathlib.Core.List.{List, [], ◌∷◌, ◌++◌}
use Prim.Native.Nat.{ℕ, ◌-◌}
use lib.Dec.{eqb}
use lib.IntN.{ℤ}
use lib.ListN.{length, get_or}
use Rattle.std.specs.Prelude.{Result, Ok, Err}
use Rattle.told.specs.Told.{Told}
use Rattle.told.proofs.Unique.{given_not_refused, same-list, same_gift}
use Rattle.tracker.specs.Refusal.{told}
use Rattle.tracker.specs.declared.Refusal.{Refusal}
use Rattle.tracker.specs.declared.Refusal.TheVariants.{Disagrees, SequenceDrops, SecondDrops, SecondOutside, Settings, OfferedOutside, OfferedDrops, TotalsFull}
use Rattle.tracker.proofs.Unique.{refusal_of}
use Rattle.offers.specs.Whole.{Left, Leaves}
use Rattle.offers.proofs.Unique.{one_left}
use Rattle.offer_log.specs.Log.{Log, done, stopped, told_logged, told_refusal, told_log}
use Rattle.offer_log.specs.declared.Logged.{Logged}
use Rattle.offer_log.specs.declared.Logged.TheVariants.{Done, Stopped}
use Rattle.offer_log.specs.declared.Refusal as log
use Rattle.offer_log.specs.declared.Refusal.TheVariants.{Table, Own, Other, LengthsDiffer}

-- what is told last
abbrev last_told : List ℕ → ℕ
last_told l = get_or l (length l - 1) 0

-- a position told last, and the refusal before it
last-back : (why : Refusal) (n : ℕ) → (refusal_of (told why ++ (n ∷ [])) ≡ why) × (last_told (told why ++ (n ∷ [])) ≡ n)
last-back (SequenceDrops i) n = (refl, refl)
last-back (SecondDrops i) n = (refl, refl)
last-back (SecondOutside i) n = (refl, refl)
last-back Disagrees n = (refl, refl)
last-back Settings n = (refl, refl)
last-back OfferedOutside n = (refl, refl)
last-back OfferedDrops n = (refl, refl)
last-back TotalsFull n = (refl, refl)

-- what was refused before the first record: the lists by 18, one table by its refusal alone, one of two by one number more
refused_of : List ℕ → log.Refusal
refused_of l =
    cond (eqb (get_or l 0 0) 18) LengthsDiffer
    (cond (eqb (length l) (length (told (refusal_of l)))) (Table (refusal_of l))
    (cond (eqb (last_told l) 0) (Own (refusal_of l)) (Other (refusal_of l))))

logged_of : Log → Logged
logged_of (done table n) = Done table n
logged_of (stopped l table n) = Stopped (last_told l) (refusal_of l) table n

-- the answer can be had back from what is told
of_two : (which : ℕ) (why : Refusal) → refused_of (told why ++ (which ∷ [])) ≡ cond (eqb which 0) (Own why) (Other why)
unfolding refused_of
of_two which (SequenceDrops i) = refl
of_two which (SecondDrops i) = refl
of_two which (SecondOutside i) = refl
of_two which Disagrees = refl
of_two which Settings = refl
of_two which OfferedOutside = refl
of_two which OfferedDrops = refl
of_two which TotalsFull = refl

refused-back : (r : log.Refusal) → refused_of (told_refusal r) ≡ r
unfolding refused_of
refused-back LengthsDiffer = refl
refused-back (Table (SequenceDrops i)) = refl
refused-back (Table (SecondDrops i)) = refl
refused-back (Table (SecondOutside i)) = refl
refused-back (Table Disagrees) = refl
refused-back (Table Settings) = refl
refused-back (Table OfferedOutside) = refl
refused-back (Table OfferedDrops) = refl
refused-back (Table TotalsFull) = refl
refused-back (Own why) = of_two 0 why
refused-back (Other why) = of_two 1 why

logged-back : (l : Logged) → logged_of (told_logged l) ≡ l
unfolding logged_of
logged-back (Done table n) = refl
logged-back (Stopped at why table n) = rw ((last-back why at).0, (last-back why at).1)

pub one_log : (a b : Result Logged log.Refusal) → told_log a ≡ told_log b → a ≡ b
one_log (Ok a) (Ok b) e = ap Ok (sym (logged-back a) ∙ ap logged_of (same_gift e) ∙ logged-back b)
one_log (Ok a) (Err b) e = given_not_refused e
one_log (Err a) (Ok b) e = given_not_refused (sym e)
one_log (Err a) (Err b) e = ap Err (sym (refused-back a) ∙ ap refused_of (same-list e) ∙ refused-back b)

-- of `offer_all`, `offer_pairs` and `extend_from`
pub one_logged : (left : Left (Told Log)) (a b : Result Logged log.Refusal) (seqs₁ seqs₂ : List ℕ) (secs₁ secs₂ : List ℤ)
    → Leaves left (told_log a) seqs₁ secs₁ → Leaves left (told_log b) seqs₂ secs₂ → (a ≡ b) × (seqs₁ ≡ seqs₂) × (secs₁ ≡ secs₂)
one_logged = one_left told_log one_log
