-- Where the pairs that are kept stand among those that were recorded, and how far apart.
use Rattle.std.specs.Prelude.{ℕ, ◌+◌, ◌-◌, ◌*◌, ◌/◌, ◌^◌, ◌≤◌, ◌<◌, ◌≡◌, Bool, false, cond, ◌↔◌, List, leb, pos, length, get_or}
use Rattle.tracker.specs.declared.TrackedSeq.{TrackedSeq}
use Rattle.offer_log.specs.Pairs.{pair_of}
use Rattle.halving.specs.History.{History}

-- the pair at a place of a list, counted from 0 (every use is of a place that the list has)
abbrev pub pair_at : List TrackedSeq → ℕ → TrackedSeq
pair_at pairs i = get_or pairs i (pair_of 0 (pos 0))

-- of the pairs recorded these are kept: kept pair i is recorded pair `at i`
pub record Places (recorded kept : List TrackedSeq) : Type 0 where
  pub at : ℕ → ℕ
  -- each kept pair was recorded
  pub each : (i : ℕ) → i < length kept → (at i < length recorded) × (pair_at kept i ≡ pair_at recorded (at i))
  -- in that order
  pub in_order : (i : ℕ) → i + 1 < length kept → at i < at (i + 1)
  -- the first recorded pair is kept, as the first, and the newest one, as the last
  pub first : 0 < length recorded → (0 < length kept) × (at 0 ≡ 0)
  pub newest : 0 < length recorded → at (length kept - 1) ≡ length recorded - 1

-- how many recorded pairs kept pair i and its next neighbour stand apart: 1 where none was recorded between them (nothing is cut off at 0, by `in_order`)
abbrev pub apart : {recorded kept : List TrackedSeq} → Places recorded kept → ℕ → ℕ
apart p i = p.at (i + 1) - p.at i

-- what is asked: after k halvings two neighbours stand at most 2^k recorded pairs apart
pub record Coarse (h : History) : Type 0 where
  pub places : Places h.recorded h.kept
  pub near : (i : ℕ) → i + 1 < length h.kept → apart places i ≤ 2 ^ h.halvings

-- ---- how many halvings, and how far back

-- so many halvings have r recorded pairs made at this capacity: none up to the capacity, then one, and one more with each half of the capacity after that
abbrev pub halvings_at : ℕ → ℕ → ℕ
halvings_at capacity r = cond (leb r capacity) 0 (1 + (r - capacity - 1) / (capacity / 2))

-- so many had been made when recorded pair x was recorded, its own among them
abbrev pub made_by : History → ℕ → ℕ
made_by h x = halvings_at h.capacity (x + 1)

-- so many recorded pairs back lies recorded pair x: as many as were recorded after it
abbrev pub back : History → ℕ → ℕ
back h x = length h.recorded - 1 - x

-- what else holds of the same places
pub record Halved (h : History) : Type 0 where
  pub coarse : Coarse h
  -- which pairs are kept is had from their places alone: kept pair i is recorded pair x exactly where x is half the capacity for each halving made by then, and i times 2^(the halvings since)
  pub exactly : (i x : ℕ)
      → ((i < length h.kept) × (coarse.places.at i ≡ x)) ↔ ((x < length h.recorded) × (x ≡ made_by h x * (h.capacity / 2) + i * 2 ^ (h.halvings - made_by h x)))
  -- the number of halvings is had from that of the recorded pairs
  pub how_many : h.halvings ≡ halvings_at h.capacity (length h.recorded)
  -- each has dropped half the capacity
  pub dropped : length h.recorded ≡ length h.kept + h.halvings * (h.capacity / 2)
  -- two neighbours of which the older lies at most j times half the capacity back stand at most 2^j recorded pairs apart
  pub by_age : (i j : ℕ) → i + 1 < length h.kept → back h (coarse.places.at i) ≤ j * (h.capacity / 2) → apart coarse.places i ≤ 2 ^ j
  -- how far back it reaches at all: each kept pair but the first lies fewer than j times half the capacity back, where the capacity is at most 2^j
  pub reaches : (i j : ℕ) → 0 < i → i < length h.kept → h.capacity ≤ 2 ^ j → back h (coarse.places.at i) < j * (h.capacity / 2)

-- pairs in order by a key, with an order test `lt`
abbrev pub InOrder : {K : Type 0} → (K → K → Bool) → (TrackedSeq → K) → List TrackedSeq → Type 0
InOrder lt key pairs = (x y : ℕ) → x ≤ y → y < length pairs → lt (key (pair_at pairs y)) (key (pair_at pairs x)) ≡ false

-- e is the history by the first part of some offers, and h by all of them: two neighbours that were both recorded after that part stand at most 2^(the halvings since) recorded pairs apart; and so
-- do two of which the older was the newest at its end
abbrev pub Since : (e h : History) → Places h.recorded h.kept → Type 0
Since e h p = (i : ℕ) → i + 1 < length h.kept → length e.recorded ≤ p.at i + 1 → apart p i ≤ 2 ^ (h.halvings - e.halvings)
