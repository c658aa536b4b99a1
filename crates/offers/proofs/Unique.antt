-- No second outcome fits the statement of an offer.
use mathlib.Core.Path.{◌≡◌, refl, sym, ap, ◌∙◌}
use mathlib.Core.List.{List}
use Prim.Native.Nat.{ℕ}
use lib.IntN.{ℤ}
use Rattle.std.specs.Prelude.{Result, Ok, Err}
use Rattle.told.specs.Told.{Told}
use Rattle.told.proofs.Unique.{given_not_refused, same-list, same_gift}
use Rattle.tracker.specs.declared.Refusal.{Refusal}
use Rattle.tracker.specs.declared.Seq.{Seq}
use Rattle.tracker.specs.declared.Second.{Second}
use Rattle.tracker.proofs.Unique.{refusal_of, refusal-back, table-told}
use Rattle.offers.specs.Whole.{Table, Left, Leaves}
use Rattle.offers.specs.Offer.{Outcome, recorded, went_back, too_soon, pair_refused, told_outcome, told_offer, offer_to, offered_to, offering}
use Rattle.offers.specs.declared.Offered.{Offered}
use Rattle.offers.specs.declared.Offered.TheVariants.{Recorded, WentBack, TooSoon, PairRefused}

offered_of : Outcome → Offered
offered_of (recorded t) = Recorded t
offered_of (went_back t) = WentBack t
offered_of (too_soon t) = TooSoon t
offered_of (pair_refused l t) = PairRefused (refusal_of l) t

-- the answer can be had back from what is told
pub one_answer : (a b : Result Offered Refusal) → told_offer a ≡ told_offer b → a ≡ b
unfolding offered_of
one_answer (Ok a) (Ok b) e = ap Ok (sym (back a) ∙ ap offered_of (same_gift e) ∙ back b)
  where
    back : (o : Offered) → offered_of (told_outcome o) ≡ o
    back (Recorded t) = refl
    back (WentBack t) = refl
    back (TooSoon t) = refl
    back (PairRefused r t) = ap (λ q. PairRefused q t) (refusal-back r)
one_answer (Ok a) (Err b) e = given_not_refused e
one_answer (Err a) (Ok b) e = given_not_refused (sym e)
one_answer (Err a) (Err b) e = ap Err (table-told a b (same-list e))

-- no second answer and no second arrays fit what a call leaves, where the answer is had back from what it tells
pub one_left : {A R : Type 0} (tells : R → A) → ((a b : R) → tells a ≡ tells b → a ≡ b) → (left : Left A) (a b : R) (seqs₁ seqs₂ : List ℕ) (secs₁ secs₂ : List ℤ)
    → Leaves left (tells a) seqs₁ secs₁ → Leaves left (tells b) seqs₂ secs₂ → (a ≡ b) × (seqs₁ ≡ seqs₂) × (secs₁ ≡ secs₂)
one_left tells one left a b seqs₁ seqs₂ secs₁ secs₂ p q = (one a b (p.0 ∙ sym q.0), p.1 ∙ sym q.1, p.2 ∙ sym q.2)

-- of `offer`
pub one-offer : (w : Table) (seq : Seq) (ts : Second) (a b : Result Offered Refusal) (seqs₁ seqs₂ : List ℕ) (secs₁ secs₂ : List ℤ)
    → Leaves (offering w seq ts) (told_offer a) seqs₁ secs₁ → Leaves (offering w seq ts) (told_offer b) seqs₂ secs₂ → (a ≡ b) × (seqs₁ ≡ seqs₂) × (secs₁ ≡ secs₂)
one-offer w seq ts = one_left told_offer one_answer (offering w seq ts)

-- what an offer leaves, by what its answer tells
pub left_by_lem : (w : Table) (seq : Seq) (ts : Second) {told : Told Outcome} {seqs : List ℕ} {secs : List ℤ} → told ≡ offer_to w seq ts → seqs ≡ (offered_to w seq ts told).seqs → secs ≡ (offered_to w seq ts told).secs
    → Leaves (offering w seq ts) told seqs secs
left_by_lem w seq ts e x z = (e, x ∙ ap (λ (o : Told Outcome). (offered_to w seq ts o).seqs) e, z ∙ ap (λ (o : Told Outcome). (offered_to w seq ts o).secs) e)
