-- What `listing` prints for an input; what `listing_dates` prints is `DatedListing`.
use Rattle.std.specs.Prelude.{ℕ, ◌≡◌, List}
use Rattle.report.specs.Listing.{listing_of}

abbrev pub Listing : List ℕ → List ℕ → Type 0
Listing input text = text ≡ listing_of input
