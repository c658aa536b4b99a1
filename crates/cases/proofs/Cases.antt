-- The table of cases, by computation.
use mathlib.Core.Path.{refl}
use mathlib.Core.List.{[], ◌∷◌}
use Prim.Native.Nat.{zero, suc}
use native.Mathlib.Omega.{arith}
use lib.IntN.{pos}
use Rattle.order.specs.First.{first_from, last_or}
use Rattle.bit_lists.specs.BitList.{nat_bits, bits_of, nat_from, bytes_of, packed}
use Rattle.bits.specs.Place.{pos_of}
use Rattle.bits.specs.Read.{read_rule}
use Rattle.gorilla.specs.Format.{code_bits, codes_bits, values_bits, array_bits, le_bytes, image_bytes}
use Rattle.gorilla.specs.Parser.{take_bits}
use Rattle.gorilla.specs.Reading.{cut_number, count_ones, read_code, read_codes, values_after, read_values, read_array, le_count, read_part, read_pairs}
use Rattle.gorilla.specs.Rows.{row_of, strict}
use Rattle.gorilla.specs.Wide.{wide_after, wide_in, wide_of}
use Rattle.keeping.specs.Keep.{evens}
use Rattle.offer_log.specs.Log.{run_of}
use Rattle.offer_log.specs.Pairs.{records_of}
use Rattle.encoder.specs.Encode.{arrays_rule}
use Rattle.told.specs.Room.{room_rule}
use Rattle.decoder.specs.Decode.{listed}
use Rattle.text.specs.Text.{digits, decimal, signed_decimal}
use Rattle.report.specs.Lines.{line, lines, entries_text, refused_text}
use Rattle.report.specs.Listing.{listing_of}
use Rattle.report.specs.Dated.{DatedListing}
use Rattle.calendar.specs.Calendar.{leap, lengths_of, days_of_years, summed}
use Rattle.calendar.specs.Inner.{part, years_before, date_of, moment_at}
use Rattle.date_writer.specs.DateText.{text_of, AllDated}
use Rattle.date_writer.specs.Inner.{date_text}
use Rattle.date_writer.proofs.Texts.{dated_text}
use Rattle.theorems.specs.Run.{step, ran_to}
use Rattle.cases.specs.Cases.{Cases}
use Rattle.cases.proofs.DateCases.{date_cases}
use Rattle.cases.proofs.HalvingCases.{halving_cases}
use Rattle.cases.proofs.QuestionCases.{question_cases}
use Rattle.cases.proofs.WhyCases.{why_cases}

-- the dates of P5
fifth-dated : AllDated date_text (pos 0 ∷ pos 60 ∷ [])
fifth-dated zero l = dated_text (pos 0) refl
fifth-dated (suc zero) l = dated_text (pos 60) refl
fifth-dated (suc (suc i)) l = absurd (omega arith)

pub cases : Cases
unfolding read_rule pos_of arrays_rule room_rule image_bytes le_bytes array_bits values_bits codes_bits code_bits row_of packed bytes_of nat_from nat_bits wide_of wide_in wide_after strict ran_to step run_of records_of first_from evens last_or listed read_pairs read_part le_count read_array read_values values_after read_codes read_code count_ones cut_number take_bits bits_of digits decimal signed_decimal line lines entries_text refused_text listing_of DatedListing text_of leap lengths_of summed days_of_years part years_before date_of moment_at
cases = record {
  extension = (refl, refl);
  extension-edges = (refl, refl, refl, refl, refl, refl);
  P1 = ((refl, refl), refl);
  P2 = refl;
  P3 = (refl, refl);
  P4 = (refl, refl, refl);
  accepted = (refl, refl);
  P5 = (refl, refl);
  listing = refl;
  listing-dates = ((date_text, fifth-dated, refl), refl);
  padding = (refl, refl, refl);
  P6 = (refl, refl);
  P7 = (refl, refl, refl);
  P8 = (refl, refl);
  P9 = ((refl, refl), (refl, refl), refl);
  P10 = (refl, refl);
  P11 = (refl, refl, (refl, refl));
  defaults = (refl, refl, (refl, refl));
  restored = (refl, refl, refl);
  restore-order = (refl, refl, refl, refl);
  own_interval = (refl, (refl, refl));
  again = (refl, (refl, refl));
  log = refl;
  tally = refl;
  totals = (refl, refl, refl);
  totals-full = (refl, refl, refl, refl);
  totals-full-in-list = refl;
  totals-full-no-record = (refl, refl);
  P12 = (refl, refl, refl, refl);
  equal-seconds = ((refl, refl), (refl, refl), (refl, refl));
  equal_sequences = (refl, refl);
  equals-first = ((refl, refl), (refl, refl));
  equals-last = ((refl, refl), (refl, refl));
  all-equal = ((refl, refl), (refl, refl), (refl, refl), (refl, refl));
  runOnly = (refl, refl, refl, refl);
  code-place = (refl, refl);
  cut_off = (refl, refl, refl, refl, refl, refl, refl);
  bits_left = (refl, refl, refl, refl, refl);
  order = (refl, refl);
  dates = date_cases;
  halving = halving_cases;
  questions = question_cases;
  reasons = why_cases;
}
