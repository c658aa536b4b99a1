-- What comes back of an image that was written, with any bytes after it.
use Rattle.std.specs.Prelude.{ℕ, ◌<◌, ◌^◌, ◌≡◌, Bool, true, List, ◌++◌, length, get_or, pos}
use Rattle.std.specs.Int.{w64}
use Rattle.std.proofs.Common.{SFits}
use Rattle.told.specs.Told.{gave}
use Rattle.bit_lists.specs.BitList.{bits_of}
use Rattle.gorilla.specs.Format.{image_bytes}
use Rattle.gorilla.specs.Wide.{wide_of}
use Rattle.gorilla.specs.Parser.{Read, read}
use Rattle.gorilla.specs.Reading.{Pairs, read_image}

-- pairs as arrays of u64 and of i64 hold them, of a count that 32 bits hold
pub record Fit (p : Pairs) : Type 0 where
  pub same : length p.seqs ≡ length p.secs
  pub few : length p.seqs < 2 ^ 32
  pub seqs64 : (i : ℕ) → i < length p.seqs → get_or p.seqs i 0 < 2 ^ 64
  pub secs64 : (i : ℕ) → i < length p.secs → SFits w64 (get_or p.secs i (pos 0))

-- the pairs' image, and bytes after it, as the list reader reads them where the count finds room
abbrev pub read_back : (ℕ → Bool) → Pairs → List ℕ → Read Pairs
read_back room p following = read_image room (image_bytes p.seqs p.secs ++ following)

-- pairs whose differences of deltas all lie in -2^31..2^31-1 read back as themselves, and what is left is what follows
abbrev pub StrictReadsBack : Type 0
StrictReadsBack = (p : Pairs) (room : ℕ → Bool) (following : List ℕ) → Fit p → room (length p.seqs) ≡ true
    → wide_of p.seqs p.secs ≡ gave tt → read_back room p following ≡ read p (bits_of following)

-- any other pairs read back as different ones
abbrev pub OthersDoNot : Type 0
OthersDoNot = (p : Pairs) (room : ℕ → Bool) (following : List ℕ) → Fit p → room (length p.seqs) ≡ true
    → (wide_of p.seqs p.secs ≡ gave tt → ⊥) → (q : Pairs) × (read_back room p following ≡ read q (bits_of following)) × (q ≡ p → ⊥)
