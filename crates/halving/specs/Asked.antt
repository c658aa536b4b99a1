-- What a lookup answers from the kept pairs, beside what it would answer from all recorded ones, as if none had been dropped.
use Rattle.std.specs.Prelude.{ℕ, ◌+◌, ◌*◌, ◌/◌, ◌^◌, ◌≤◌, ◌<◌, ◌≡◌, ◌↔◌, Bool, List, map, length}
use Rattle.told.specs.Told.{Told, gave}
use Rattle.tracker.specs.declared.TrackedSeq.{TrackedSeq}
use Rattle.lookup.specs.Find.{Partner, partner, standing, place}
use Rattle.lookup.specs.declared.FindOption.{FindOption}
use Rattle.lookup.specs.declared.FindOption.TheVariants.{RoundUp, RoundDown}
use Rattle.halving.specs.History.{History}
use Rattle.halving.specs.Coarse.{pair_at, Places, back}

-- an older recorded pair and a younger one, or the same: fewer than 2^k recorded pairs apart after k halvings; and fewer than 2^j, where the older lies at most j times half the capacity back
abbrev pub Close : History → ℕ → ℕ → Type 0
Close h older younger = (older ≤ younger) × (younger < older + 2 ^ h.halvings) × ((j : ℕ) → back h older ≤ j * (h.capacity / 2) → younger < older + 2 ^ j)

-- rounding down the pair that answers is the older one, rounding up the one that would answer
abbrev pub CloseBy : FindOption → History → ℕ → ℕ → Type 0
CloseBy RoundDown h answering would = Close h answering would
CloseBy RoundUp h answering would = Close h would answering

-- by keys of any type with an order test `lt`; d is what a key past the end would be
module _ {K : Type 0} (lt : K → K → Bool) (d : K) (key : TrackedSeq → K) where
  -- the place, among these pairs, of the one that answers by the rule of lookups; their number where none does
  abbrev pub named : FindOption → List TrackedSeq → K → ℕ
  named opt pairs x = place lt d opt (map key pairs) (length pairs) x

  -- a lookup of any key x, which answers the value beside the key
  pub record Answers {A : Type 0} (value : TrackedSeq → A) (h : History) (p : Places h.recorded h.kept) (x : K) (find : FindOption → Told (Partner A)) : Type 0 where
    -- it answers from the kept pairs
    pub from_kept : (opt : FindOption) → find opt ≡ gave (standing (λ i. value (pair_at h.kept i)) (length h.kept) (named opt h.kept x))
    -- it answers nothing exactly where it would answer nothing from all
    pub nothing_alike : (opt : FindOption) → (named opt h.kept x ≡ length h.kept) ↔ (named opt h.recorded x ≡ length h.recorded)
    -- else the pair that answers is close to the one that would
    pub close : (opt : FindOption) → named opt h.recorded x < length h.recorded
        → (named opt h.kept x < length h.kept) × CloseBy opt h (p.at (named opt h.kept x)) (named opt h.recorded x)
    -- rounding down, also by how far back the one lies that would: at most j times half the capacity, where 2^j divides that half; then the pair that answers stands fewer than 2^j before it
    pub close_down : (j q : ℕ) → named RoundDown h.recorded x < length h.recorded → h.capacity / 2 ≡ q * 2 ^ j → back h (named RoundDown h.recorded x) ≤ j * (h.capacity / 2)
        → named RoundDown h.recorded x < p.at (named RoundDown h.kept x) + 2 ^ j
    -- and whatever divides it, where the 2^j - 1 recorded before it lie so far back, too
    pub close_down_any : (j : ℕ) → named RoundDown h.recorded x < length h.recorded → back h (named RoundDown h.recorded x) + 2 ^ j ≤ j * (h.capacity / 2) + 1
        → named RoundDown h.recorded x < p.at (named RoundDown h.kept x) + 2 ^ j

-- the corollary: the key of each recorded pair y is answered, rounding down or up, by a kept pair i that stands fewer than 2^k recorded pairs from z, a recorded pair of the same key
abbrev pub AnswersRecorded : {K A : Type 0} → (TrackedSeq → K) → (TrackedSeq → A) → (h : History) → Places h.recorded h.kept → (K → FindOption → Told (Partner A)) → Type 0
AnswersRecorded key value h p find = (y : ℕ) (opt : FindOption) → y < length h.recorded
    → (i z : ℕ) × (i < length h.kept) × (find (key (pair_at h.recorded y)) opt ≡ gave (partner (value (pair_at h.kept i))))
    × (z < length h.recorded) × (key (pair_at h.recorded z) ≡ key (pair_at h.recorded y)) × (z < p.at i + 2 ^ h.halvings) × (p.at i < z + 2 ^ h.halvings)
