-- The cases of dates, as a part of the table of cases: what a text is read as, and how a second is written.
use Rattle.std.specs.Prelude.{ℕ, ◌≡◌, [], ◌∷◌, ℤ, pos, neg_ℤ}
use Prim.Native.String.{String}
use Rattle.told.specs.Told.{gave, refused}
use Rattle.text.specs.Ascii.{ascii}
use Rattle.date_writer.specs.DateText.{Dated}
use Rattle.dates.specs.Read.{read_date}
use Rattle.dates.specs.Write.{write_date}

-- `read_date` of this text gives this second, or refuses with this number
abbrev pub Reads : String → ℤ → Type 0
Reads text z = read_date (ascii text) ≡ gave z

abbrev pub Refuses : String → ℕ → Type 0
Refuses text number = read_date (ascii text) ≡ refused (number ∷ [])

-- this second has this text, which reads back
abbrev pub Both : ℤ → String → Type 0
Both z text = Dated z (ascii text) × Reads text z

pub record DateCases : Type 0 where
  -- the epoch, and the ends of the domain
  pub epoch : Both (pos 0) "1970-01-01T00:00:00Z"
  pub ends : Both (neg_ℤ (pos 62135596800)) "0001-01-01T00:00:00Z" × Both (pos 253402300799) "9999-12-31T23:59:59Z"
  -- leap days: of 2000 and 2024; 1900 and 2100 have none
  pub leap-days :
      Both (pos 951782400) "2000-02-29T00:00:00Z" × Both (pos 1709164800) "2024-02-29T00:00:00Z"
      × Refuses "1900-02-29T00:00:00Z" 26 × Refuses "2100-02-29T00:00:00Z" 26
  -- the days beside them
  pub beside-leap-days :
      Both (neg_ℤ (pos 2203891200)) "1900-03-01T00:00:00Z" × Both (pos 4107542400) "2100-03-01T00:00:00Z"
      × Both (pos 1709251199) "2024-02-29T23:59:59Z" × Both (pos 1709251200) "2024-03-01T00:00:00Z"
  -- the dates of RFC 3339, section 5.8, but for those with a second 60
  pub rfc :
      Reads "1985-04-12T23:20:50.52Z" (pos 482196050) × Reads "1996-12-19T16:39:57-08:00" (pos 851042397)
      × Reads "1937-01-01T12:00:27.87+00:20" (neg_ℤ (pos 1041337173))
  -- a fraction is dropped towards the earlier second, also before 1970; it has one to nine digits
  pub fractions :
      Reads "1969-12-31T23:59:59.999999999Z" (neg_ℤ (pos 1)) × Reads "1970-01-01T00:00:00.9Z" (pos 0)
      × Refuses "1970-01-01T00:00:00.0123456789Z" 25 × Refuses "1970-01-01T00:00:00.Z" 25
  -- either letter case; an offset of either sign, and of nothing
  pub accepted :
      Reads "1970-01-01t00:00:00z" (pos 0) × Reads "1970-01-01T23:59:00+23:59" (pos 0) × Reads "1969-12-31T00:01:00-23:59" (pos 0)
      × Reads "1970-01-01T00:00:00-00:00" (pos 0) × Reads "1970-01-01T00:00:00+00:00" (pos 0)
  -- 25: a missing part, a byte after it, a space for T, an offset without its colon
  pub not-the-grammar :
      Refuses "" 25 × Refuses "1970-01-01" 25 × Refuses "1970-01-01T00:00:00" 25 × Refuses "970-01-01T00:00:00Z" 25
      × Refuses "1970-01-01T00:00:00Z " 25 × Refuses "1970-01-01 00:00:00Z" 25 × Refuses "1970-01-01T00:00:00+0000" 25
      × Refuses "1970-1-01T00:00:00Z" 25 × Refuses "-970-01-01T00:00:00Z" 25 × Refuses "1970-01-01T00:00:00,5Z" 25
  -- 26: no such date
  pub no-such-date :
      Refuses "0000-01-01T00:00:00Z" 26 × Refuses "2001-00-01T00:00:00Z" 26 × Refuses "2001-13-01T00:00:00Z" 26 × Refuses "2001-01-00T00:00:00Z" 26
      × Refuses "2001-04-31T00:00:00Z" 26 × Refuses "2001-02-29T00:00:00Z" 26 × Refuses "2001-01-32T00:00:00Z" 26
  -- 26: no such time of day or offset; a leap second is none
  pub no-such-time :
      Refuses "2001-01-01T24:00:00Z" 26 × Refuses "2001-01-01T00:60:00Z" 26 × Refuses "1990-12-31T23:59:60Z" 26
      × Refuses "2001-01-01T00:00:00+24:00" 26 × Refuses "2001-01-01T00:00:00-00:60" 26
  -- 27: outside once the offset is applied; the year 0000 is refused before the offset counts; what the offset brings inside is read
  pub outside :
      Refuses "0001-01-01T00:00:00+00:01" 27 × Refuses "9999-12-31T23:59:59-00:01" 27 × Refuses "0000-12-31T23:59:59-00:01" 26
      × Reads "0001-01-01T00:00:00-00:01" (neg_ℤ (pos 62135596740)) × Reads "9999-12-31T23:59:59+00:01" (pos 253402300739)
  -- 25 before 26, and 26 before 27, where both hold
  pub reading_order : Refuses "0000-13-32T24:60:60" 25 × Refuses "2001-02-29T00:00:00Zx" 25 × Refuses "9999-12-31T23:59:60-00:01" 26 × Refuses "0001-01-01T00:00:00+24:01" 26
  -- writing: 27 before 21, which tells the bytes needed; twenty bytes suffice
  pub writing-order :
      (write_date (pos 253402300800) 0 ≡ refused (27 ∷ [])) × (write_date (neg_ℤ (pos 62135596801)) 64 ≡ refused (27 ∷ []))
      × (write_date (pos 253402300799) 19 ≡ refused (21 ∷ 20 ∷ [])) × (write_date (pos 0) 20 ≡ gave 20) × (write_date (pos 0) 64 ≡ gave 20)
