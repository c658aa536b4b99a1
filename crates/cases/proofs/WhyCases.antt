-- The cases of reasons, by computation; and what does not hold.
use mathlib.Core.Path.{◌≡◌, refl}
use Prim.Native.Nat.{ℕ}
use mathlib.Core.Bool.{false≢true}
use native.Mathlib.Omega.{arith}
use Rattle.order.specs.First.{first_from, last_or}
use Rattle.bit_lists.specs.BitList.{nat_bits, bits_of, nat_from}
use Rattle.gorilla.specs.Parser.{take_bits}
use Rattle.gorilla.specs.Reading.{cut_number, count_ones, read_code, read_codes, values_after, read_values, read_array, le_count, read_part, read_pairs}
use Rattle.keeping.specs.Keep.{evens}
use Rattle.text.specs.Text.{digits, decimal, signed_decimal}
use Rattle.text_reader.specs.Digits as reading
use Rattle.text_reader.specs.Words.{word}
use Rattle.question_lines.specs.Grammar.{by_seq, by_time, question}
use Rattle.report.specs.Lines.{refused_text}
use Rattle.theorems.specs.Run.{step, ran_to}
use Rattle.why_text.specs.Text.{image_text, why_text}
use Rattle.cases.specs.WhyCases.{WhyCases}

pub why_cases : WhyCases
unfolding ran_to step first_from last_or evens read_pairs read_part le_count read_array read_values values_after read_codes read_code count_ones cut_number take_bits bits_of nat_from nat_bits digits decimal signed_decimal refused_text reading.is_digit reading.more_of reading.digits word by_seq by_time question image_text why_text
why_cases = record {
  exact = (refl, refl);
  between = (refl, refl);
  below_first = (refl, refl);
  above_last = (refl, refl);
  by_second = (refl, refl, refl);
  empty = (refl, refl, refl);
  equals = (refl, refl, refl);
  excluded = (
    λ h. false≢true h.equals,
    λ h. let e = h.1.adjacent in omega arith,
    λ h. let e = h.1.first_one in omega arith,
    λ h. false≢true h.1.key_below,
    λ h. let e = h.0 in let z : ◌≡◌ {A = ℕ} 0 1 = cc in omega arith,
  );
  refusal = (refl, refl);
  prints = (refl, refl, refl, refl, refl, refl, refl);
  numbers = (refl, refl, refl, refl, refl);
  lines = (refl, refl, refl, refl, refl, refl, refl, refl, refl, refl, refl);
  refusals = (refl, refl, refl, refl, refl, refl, refl);
}
