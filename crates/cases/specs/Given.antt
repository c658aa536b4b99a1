-- What goes into the cases.
use Rattle.std.specs.Prelude.{ℕ, List, [], ◌∷◌, map, take, replicate, pos}
use Rattle.gorilla.specs.Reading.{Pairs}
use Rattle.limits.specs.Settings.{room_of}
use Rattle.fresh.specs.Fresh.{empty_table}
use Rattle.totals.specs.declared.Totals.{Totals}
use Rattle.tracker.specs.Rest.{with_totals}
use Rattle.tracker.specs.declared.Seq.{Seq}
use Rattle.tracker.specs.declared.Second.{Second}
use Rattle.tracker.specs.declared.TrackedSeq.{TrackedSeq}
use Rattle.offers.specs.Whole.{Table}
use Rattle.theorems.specs.Run.{Restoring, reloaded, step, ran_to}
use Rattle.theorems.specs.Lists.{offers_of}

abbrev pub second : ℕ → Second
second s = record { 0 = pos s }

abbrev pub seq_no : ℕ → Seq
seq_no q = record { 0 = q }

-- a pair of a sequence and a second
abbrev pub pair : ℕ → ℕ → TrackedSeq
pair seq s = record { seq = seq_no seq; ts = second s }

abbrev pub pairs_in : List TrackedSeq → Pairs
pairs_in l = record { seqs = map (λ r. r.seq.0) l; secs = map (λ r. r.ts.0) l }

-- a lent buffer, and lent arrays of so many places, which hold something already
abbrev pub buffer : List ℕ
buffer = replicate 64 0xFF

abbrev pub lent : ℕ → Pairs
lent n = record { seqs = replicate n 7; secs = replicate n (pos 7) }

-- four totals: recorded, went back, too soon, refused
abbrev pub four : ℕ → ℕ → ℕ → ℕ → Totals
four r b s f = record { recorded = r; went_back = b; too_soon = s; refused = f }

-- a table with other totals
abbrev pub totalled : Totals → Table → Table
totalled n w = record { state = with_totals n w.state; seqs = w.seqs; secs = w.secs }

-- an empty table of this capacity and interval, in arrays of just the room that it needs, after these offers in order
abbrev pub offered_all : ℕ → ℕ → List TrackedSeq → Table
offered_all capacity interval l =
    ran_to (record { state = empty_table capacity interval; seqs = (lent (room_of capacity)).seqs; secs = (lent (room_of capacity)).secs })
    (offers_of l)

-- a table that is empty but for one pair, saved strictly and restored so
abbrev pub offered_and_reloaded : ℕ → TrackedSeq → Restoring → Table
offered_and_reloaded interval r by =
    step (offered_all 8192 interval (r ∷ [])) (reloaded (record { by = by; out = buffer; following = []; seqs = (lent 8192).seqs; secs = (lent 8192).secs }))

-- the first n of these offers; P8's are the first five
abbrev pub first_of : ℕ → List TrackedSeq
first_of n =
    take n
    (pair 1 10 ∷ pair 2 20 ∷ pair 3 30 ∷ pair 4 40 ∷ pair 5 50 ∷ pair 6 60 ∷ pair 7 70 ∷ pair 8 80 ∷ pair 9 90 ∷ pair 10 100 ∷ pair 11 110 ∷ [])

-- P5's image; its two last bytes of codes end with four and with seven bits of padding
abbrev pub fifth : ℕ → ℕ → List ℕ
fifth x y =
    0x01 ∷ 0x02 ∷ 0x00 ∷ 0x00 ∷ 0x00
    ∷ 0x00 ∷ 0x00 ∷ 0x00 ∷ 0x02 ∷ 0x00 ∷ 0x00 ∷ 0x00 ∷ 0x00 ∷ 0x00 ∷ 0x00 ∷ 0x00 ∷ 0x64 ∷ 0xC4 ∷ x
    ∷ 0x00 ∷ 0x00 ∷ 0x00 ∷ 0x02 ∷ 0x00 ∷ 0x00 ∷ 0x00 ∷ 0x00 ∷ 0x00 ∷ 0x00 ∷ 0x00 ∷ 0x00 ∷ 0x9E ∷ y ∷ []

-- an image's header, and the same count of its sequences
abbrev pub begun : ℕ → List ℕ
begun count = 0x01 ∷ count ∷ 0 ∷ 0 ∷ 0 ∷ 0 ∷ 0 ∷ 0 ∷ count ∷ []
