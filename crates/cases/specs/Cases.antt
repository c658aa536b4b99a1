-- The cases of docs/RULES.md, "Cases", P1 to P12 and those that its rules name, as one table: what goes in, and what must come out.
use Rattle.std.specs.Prelude.{ℕ, ◌≡◌, List, [], ◌∷◌, ◌++◌, length, take, replicate, pos, neg_ℤ, Some}
use Rattle.told.specs.Told.{Told, gave, refused}
use Rattle.told.specs.Over.{over, filled}
use Rattle.signed.specs.Signed.{signed, sub_s}
use Rattle.signed.specs.Extend.{extend_rule}
use Rattle.gorilla.specs.Format.{code_bits, image_bytes}
use Rattle.bits.specs.Read.{read_rule}
use Rattle.gorilla.specs.Parser.{read}
use Rattle.gorilla.specs.Reading.{read_code}
use Rattle.fresh.specs.Fresh.{fresh_table, empty_table, new_table}
use Rattle.tracker.specs.declared.Seq.{Seq}
use Rattle.tracker.specs.declared.Second.{Second}
use Rattle.tracker.specs.declared.TrackedSeq.{TrackedSeq}
use Rattle.tracker.specs.declared.SequenceTracker.{SequenceTracker}
use Rattle.lookup.specs.Find.{Partner, partner, nothing, find_ts, find_seq}
use Rattle.lookup.specs.declared.FindOption.{FindOption}
use Rattle.lookup.specs.declared.FindOption.TheVariants.{RoundUp, RoundDown}
use Rattle.totals.specs.declared.Fate.TheVariants as fate
use Rattle.tracker.specs.Rest.{with_totals}
use Rattle.offers.specs.Offer.{Outcome, recorded, went_back, too_soon, pair_refused, counting, offer_to}
use Rattle.tallies.specs.Tally.{none_yet}
use Rattle.offer_log.specs.Log.{done, stopped, log_of}
use Rattle.offer_log.specs.Pairs.{extend_of}
use Rattle.encoder.specs.Encode.{len_rule, encode_rule, strict_rule}
use Rattle.decoder.specs.Decode.{decode_rule, seqs_after, secs_after}
use Rattle.offers.specs.Whole.{Table}
use Rattle.restoring.specs.Restore.{restore_of, restore_at}
use Rattle.text.specs.Ascii.{ascii}
use Rattle.report.specs.Listing.{listing_of}
use Rattle.report.specs.Dated.{DatedListing}
use Rattle.theorems.specs.Alike.{kept_in}
use Rattle.theorems.specs.Run.{plain, naming, offered, step}
use Rattle.cases.specs.Given.{second, seq_no, pair, pairs_in, buffer, lent, four, totalled, offered_all, offered_and_reloaded, first_of, fifth, begun}
use Rattle.cases.specs.DateCases.{DateCases}
use Rattle.cases.specs.HalvingCases.{HalvingCases}
use Rattle.cases.specs.QuestionCases.{QuestionCases}
use Rattle.cases.specs.WhyCases.{WhyCases}

-- ---- what must come out: kinds of cases that are more than one equation, or stand often

-- `encode` of these pairs writes these bytes over what the buffer held, and no byte past them
abbrev pub WritesImage : List TrackedSeq → List ℕ → Type 0
WritesImage l bytes =
    (encode_rule (pairs_in l).seqs (pairs_in l).secs (length buffer) ≡ gave (length bytes))
    × (filled (gave (length bytes)) (image_bytes (pairs_in l).seqs (pairs_in l).secs) buffer ≡ over bytes buffer)

-- `decode` of these bytes into two arrays of so many places
abbrev pub DecodeTells : ℕ → List ℕ → Told ℕ → Type 0
DecodeTells room bytes told = decode_rule bytes (lent room).seqs (lent room).secs ≡ told

-- `restore_with_interval` of these bytes, with this interval, into two arrays of so many places
abbrev pub RestoreTells : ℕ → ℕ → List ℕ → Told SequenceTracker → Type 0
RestoreTells interval room bytes told = restore_at interval bytes (lent room).seqs (lent room).secs ≡ told

-- a table keeps these pairs, and this is the last recorded second
abbrev pub Keeps : Table → List TrackedSeq → ℕ → Type 0
Keeps w l last = (kept_in w ≡ pairs_in l) × (w.state.last_recorded_ts ≡ Some (second last))

-- one more offer tells this
abbrev pub Tells : Table → TrackedSeq → Told Outcome → Type 0
Tells w r told = offer_to w r.seq r.ts ≡ told

-- it is skipped, as it went back, or came too soon
abbrev pub GoesBack : Table → TrackedSeq → Type 0
GoesBack w r = Tells w r (gave (went_back (counting fate.WentBack w.state)))

abbrev pub ComesTooSoon : Table → TrackedSeq → Type 0
ComesTooSoon w r = Tells w r (gave (too_soon (counting fate.TooSoon w.state)))

-- `find_ts` of a sequence
abbrev pub Finds : Table → ℕ → FindOption → Partner Second → Type 0
Finds w seq opt found = find_ts w.state w.seqs w.secs (seq_no seq) opt ≡ gave found

-- `find_seq` of a second
abbrev pub FindsSeq : Table → ℕ → FindOption → Partner Seq → Type 0
FindsSeq w s opt found = find_seq w.state w.seqs w.secs (second s) opt ≡ gave found

-- a sequence, or a second, asked both ways of a table of these pairs: the partner with RoundUp, and that with RoundDown
abbrev pub BothTs : List TrackedSeq → ℕ → Partner Second → Partner Second → Type 0
BothTs l seq up down = Finds (offered_all 5 0 l) seq RoundUp up × Finds (offered_all 5 0 l) seq RoundDown down

abbrev pub BothSeq : List TrackedSeq → ℕ → Partner Seq → Partner Seq → Type 0
BothSeq l s up down = FindsSeq (offered_all 5 0 l) s RoundUp up × FindsSeq (offered_all 5 0 l) s RoundDown down

-- ---- the table, each case under the words of the rules

pub record Cases : Type 0 where
  -- Extension of 64 in 7 bits is -64; of 63 it is 63
  pub extension : (extend_rule 64 7 ≡ gave (neg_ℤ (pos 64))) × (extend_rule 63 7 ≡ gave (pos 63))
  -- of 2^31 in 32 bits it is -2^31, of 1 in 1 bit -1, of 0 it is 0; bits above the width change nothing: 192 in 7 bits is -64; a width of 0 or 33 is refused
  pub extension-edges :
      (extend_rule 2147483648 32 ≡ gave (neg_ℤ (pos 2147483648)))
      × (extend_rule 1 1 ≡ gave (neg_ℤ (pos 1))) × (extend_rule 0 1 ≡ gave (pos 0)) × (extend_rule 192 7 ≡ gave (neg_ℤ (pos 64)))
      × (extend_rule 1 0 ≡ refused (23 ∷ [])) × (extend_rule 1 33 ≡ refused (23 ∷ []))
  -- empty image: 01 and twelve 00, length 13
  pub P1 : WritesImage [] (0x01 ∷ replicate 12 0x00) × (len_rule [] [] ≡ gave 13)
  -- sequence 5, second 60: length 29
  pub P2 : len_rule (5 ∷ []) (pos 60 ∷ []) ≡ gave 29
  -- d = 63: 9 bits; 64: 12
  pub P3 : (length (code_bits (pos 63)) ≡ 9) × (length (code_bits (pos 64)) ≡ 12)
  -- d = -64: 110 111000000; -256: 16 bits; -2048: 36
  pub P4 : (code_bits (neg_ℤ (pos 64)) ≡ 1 ∷ 1 ∷ 0 ∷ 1 ∷ 1 ∷ 1 ∷ 0 ∷ 0 ∷ 0 ∷ 0 ∷ 0 ∷ 0 ∷ []) × (length (code_bits (neg_ℤ (pos 256))) ≡ 16) × (length (code_bits (neg_ℤ (pos 2048))) ≡ 36)
  -- the reader accepts longer codes than the writer makes (0 in 9 bits), and -64 in 7 bits
  pub accepted : (read_code 12 0 1 (1 ∷ 1 ∷ 0 ∷ replicate 9 0) ≡ read (pos 0) []) × (read_code 9 0 1 (1 ∷ 0 ∷ 1 ∷ replicate 6 0) ≡ read (neg_ℤ (pos 64)) [])
  -- (100,0),(164,60): 01 02000000 00000002 0000000000000064 C400 00000002 0000000000000000 9E00
  pub P5 : WritesImage (pair 100 0 ∷ pair 164 60 ∷ []) (fifth 0x00 0x00)
  -- the listing of P5
  pub listing : listing_of (fifth 0x00 0x00) ≡ ascii "entries 2\n0 100 0\n1 164 60\n"
  -- and with dates; of (5,253402300800), whose second has none, 27
  pub listing-dates :
      DatedListing (fifth 0x00 0x00) (ascii "entries 2\n0 100 1970-01-01T00:00:00Z\n1 164 1970-01-01T00:01:00Z\n")
      × DatedListing (begun 1 ++ (0 ∷ 0 ∷ 0 ∷ 0 ∷ 0 ∷ 0 ∷ 0 ∷ 5 ∷ 0 ∷ 0 ∷ 0 ∷ 1 ∷ 0 ∷ 0 ∷ 0 ∷ 0x3A ∷ 0xFF ∷ 0xF4 ∷ 0x41 ∷ 0x80 ∷ [])) (ascii "refused 27\n")
  -- padding values are ignored
  pub padding :
      DecodeTells 3 (fifth 0x0F 0x7F) (gave 2)
      × (seqs_after (fifth 0x0F 0x7F) (lent 3).seqs (lent 3).secs ≡ 100 ∷ 164 ∷ 7 ∷ [])
      × (secs_after (fifth 0x0F 0x7F) (lent 3).seqs (lent 3).secs ≡ pos 0 ∷ pos 60 ∷ pos 7 ∷ [])
  -- sequences 0, 1, seconds 0, 2147483648: strict 20, seconds (array 1), index 1; 2147483647 is written (36 bytes)
  pub P6 : (strict_rule (0 ∷ 1 ∷ []) (pos 0 ∷ pos 2147483648 ∷ []) 64 ≡ refused (20 ∷ 1 ∷ 1 ∷ [])) × (strict_rule (0 ∷ 1 ∷ []) (pos 0 ∷ pos 2147483647 ∷ []) 64 ≡ gave 36)
  -- sequences 0, 18446744073709551615, seconds 0, 0: d = -1, 9 bits, written strictly (32 bytes)
  pub P7 : (sub_s (sub_s (signed 18446744073709551615) (signed 0)) (pos 0) ≡ neg_ℤ (pos 1)) × (length (code_bits (neg_ℤ (pos 1))) ≡ 9) × (strict_rule (0 ∷ 18446744073709551615 ∷ []) (pos 0 ∷ pos 0 ∷ []) 64 ≡ gave 32)
  -- capacity 4, interval 0, (1,10),(2,20),(3,30),(4,40),(5,50): (1,10),(3,30),(5,50)
  pub P8 : Keeps (offered_all 4 0 (first_of 5)) (pair 1 10 ∷ pair 3 30 ∷ pair 5 50 ∷ []) 50
  -- capacity 3, first four: (1,10),(3,30), last recorded 40; then (3,45) is recorded and (9,39), offered instead, went back
  pub P9 :
      Keeps (offered_all 3 0 (first_of 4)) (pair 1 10 ∷ pair 3 30 ∷ []) 40
      × Keeps (offered_all 3 0 (first_of 4 ++ (pair 3 45 ∷ []))) (pair 1 10 ∷ pair 3 30 ∷ pair 3 45 ∷ []) 45
      × GoesBack (offered_all 3 0 (first_of 4)) (pair 9 39)
  -- capacity 0, first two: (1,10), last recorded 20
  pub P10 : Keeps (offered_all 0 0 (first_of 2)) (pair 1 10 ∷ []) 20
  -- interval 60 after 100: 159 too soon, 99 went back, 160 recorded
  pub P11 :
      ComesTooSoon (offered_all 8192 60 (pair 1 100 ∷ [])) (pair 2 159)
      × GoesBack (offered_all 8192 60 (pair 1 100 ∷ [])) (pair 2 99)
      × Keeps (offered_all 8192 60 (pair 1 100 ∷ pair 2 160 ∷ [])) (pair 1 100 ∷ pair 2 160 ∷ []) 160
  -- the defaults: capacity 8,192 and interval 10; after 100: 109 too soon, 110 recorded
  pub defaults :
      (new_table ≡ empty_table 8192 10)
      × ComesTooSoon (offered_all 8192 new_table.interval_secs (pair 1 100 ∷ [])) (pair 2 109)
      × Keeps (offered_all 8192 new_table.interval_secs (pair 1 100 ∷ pair 2 110 ∷ [])) (pair 1 100 ∷ pair 2 110 ∷ []) 110
  -- P5's image restored: interval 10; with an interval that is named, that one
  pub restored :
      (restore_of (fifth 0x00 0x00) (lent 8192).seqs (lent 8192).secs ≡ gave (fresh_table 8192 10 2 (Some (second 60))))
      × RestoreTells 60 8192 (fifth 0x00 0x00) (gave (fresh_table 8192 60 2 (Some (second 60))))
      × RestoreTells 9223372036854775807 8192 (fifth 0x00 0x00) (gave (fresh_table 8192 9223372036854775807 2 (Some (second 60))))
  -- 15 for an interval of 2^63, before 14 for arrays of 8,191 places, before 1 for no byte
  pub restore-order :
      RestoreTells 9223372036854775808 8192 (fifth 0x00 0x00) (refused (15 ∷ []))
      × RestoreTells 9223372036854775808 8191 [] (refused (15 ∷ []))
      × RestoreTells 9223372036854775807 8191 [] (refused (14 ∷ []))
      × RestoreTells 9223372036854775807 8192 [] (refused (1 ∷ []))
  -- interval 60, (5,100) saved strictly and restored, then (6,110): too soon if the restore names 60; recorded if it is `restore`, by which the interval became 10
  pub own_interval :
      ComesTooSoon (offered_and_reloaded 60 (pair 5 100) (naming 60)) (pair 6 110)
      × Keeps (step (offered_and_reloaded 60 (pair 5 100) plain) (offered (seq_no 6) (second 110))) (pair 5 100 ∷ pair 6 110 ∷ []) 110
  -- the second equal to the last recorded one: too soon at interval 1, recorded at 0
  pub again :
      ComesTooSoon (offered_all 4 1 (pair 1 100 ∷ [])) (pair 2 100)
      × Keeps (offered_all 4 0 (pair 1 100 ∷ pair 2 100 ∷ [])) (pair 1 100 ∷ pair 2 100 ∷ []) 100
  -- offered in order up to the first refusal: (4,160) after (5,100), recorded, and (6,159), too soon, is refused with 17 at position 2, and this is counted
  pub log :
      (log_of (offered_all 4 60 []) (pair 5 100 ∷ pair 6 159 ∷ pair 4 160 ∷ pair 6 170 ∷ [])).answer
      ≡ gave (stopped (17 ∷ 2 ∷ []) (with_totals (four 1 0 1 1) (fresh_table 4 60 1 (Some (second 100)))) (record { recorded = 1; went_back = 0; too_soon = 1 }))
  -- counted apart: (5,100) and (6,160), recorded, (6,159), too soon, and (6,99), (4,98), (7,0), went back
  pub tally :
      (log_of (offered_all 4 60 []) (pair 5 100 ∷ pair 6 99 ∷ pair 6 159 ∷ pair 4 98 ∷ pair 6 160 ∷ pair 7 0 ∷ [])).answer
      ≡ gave (done (with_totals (four 2 3 1 0) (fresh_table 4 60 2 (Some (second 160)))) (record { recorded = 2; went_back = 3; too_soon = 1 }))
  -- the totals: after (5,100), recorded, (6,99), went back, and (6,159), too soon, they are 1, 1, 1, 0; (4,160) is refused with 17 and a second out of domain with 16, and each changes the fourth alone
  pub totals :
      ((offered_all 4 60 (pair 5 100 ∷ pair 6 99 ∷ pair 6 159 ∷ [])).state ≡ with_totals (four 1 1 1 0) (fresh_table 4 60 1 (Some (second 100))))
      × Tells (offered_all 4 60 (pair 5 100 ∷ [])) (pair 4 160) (gave (pair_refused (17 ∷ []) (with_totals (four 1 0 0 1) (fresh_table 4 60 1 (Some (second 100))))))
      × Tells (offered_all 4 60 (pair 5 100 ∷ [])) (pair 6 253402300800) (gave (pair_refused (16 ∷ []) (with_totals (four 1 0 0 1) (fresh_table 4 60 1 (Some (second 100))))))
  -- they may come to 2^64-1: one offer less, and the next is counted; then it is 31, before 16; 2^64 is 14, before 31
  pub totals-full :
      Tells (totalled (four 0 0 0 18446744073709551614) (offered_all 4 60 [])) (pair 5 100) (gave (recorded (with_totals (four 1 0 0 18446744073709551614) (fresh_table 4 60 1 (Some (second 100))))))
      × Tells (totalled (four 18446744073709551615 0 0 0) (offered_all 4 60 [])) (pair 5 100) (refused (31 ∷ []))
      × Tells (totalled (four 0 9223372036854775807 0 9223372036854775808) (offered_all 4 60 [])) (pair 5 253402300800) (refused (31 ∷ []))
      × Tells (totalled (four 18446744073709551615 0 1 0) (offered_all 4 60 [])) (pair 5 100) (refused (14 ∷ []))
  -- a list that fills them: (5,100) is counted, and (6,160), at position 1, is refused with 31; the state is as the offers before left it
  pub totals-full-in-list :
      (log_of (totalled (four 0 0 18446744073709551614 0) (offered_all 4 60 [])) (pair 5 100 ∷ pair 6 160 ∷ [])).answer
      ≡ gave (stopped (31 ∷ 1 ∷ []) (with_totals (four 1 0 18446744073709551614 0) (fresh_table 4 60 1 (Some (second 100)))) (record { recorded = 1; went_back = 0; too_soon = 0 }))
  -- with the totals full a list of no record is not refused, nor is an extension by an empty table
  pub totals-full-no-record :
      ((log_of (totalled (four 18446744073709551615 0 0 0) (offered_all 4 60 [])) []).answer ≡ gave (done (with_totals (four 18446744073709551615 0 0 0) (empty_table 4 60)) none_yet))
      × ((extend_of (totalled (four 18446744073709551615 0 0 0) (offered_all 4 60 [])) (offered_all 4 60 [])).answer ≡ gave (done (with_totals (four 18446744073709551615 0 0 0) (empty_table 4 60)) none_yet))
  -- in P8's table sequence 2: up 30, down 10; 6 up and 0 down: nothing
  pub P12 :
      Finds (offered_all 4 0 (first_of 5)) 2 RoundUp (partner (second 30))
      × Finds (offered_all 4 0 (first_of 5)) 2 RoundDown (partner (second 10))
      × Finds (offered_all 4 0 (first_of 5)) 6 RoundUp nothing
      × Finds (offered_all 4 0 (first_of 5)) 0 RoundDown nothing
  -- three equal seconds: up the lowest position, down the highest; beside them the first greater and the last smaller key
  pub equal-seconds :
      BothSeq (pair 1 10 ∷ pair 2 20 ∷ pair 3 20 ∷ pair 4 20 ∷ pair 5 30 ∷ []) 20 (partner (seq_no 2)) (partner (seq_no 4))
      × BothSeq (pair 1 10 ∷ pair 2 20 ∷ pair 3 20 ∷ pair 4 20 ∷ pair 5 30 ∷ []) 19 (partner (seq_no 2)) (partner (seq_no 1))
      × BothSeq (pair 1 10 ∷ pair 2 20 ∷ pair 3 20 ∷ pair 4 20 ∷ pair 5 30 ∷ []) 21 (partner (seq_no 5)) (partner (seq_no 4))
  -- three equal sequences
  pub equal_sequences : BothTs (pair 1 10 ∷ pair 2 20 ∷ pair 2 30 ∷ pair 2 40 ∷ pair 3 50 ∷ []) 2 (partner (second 20)) (partner (second 40))
  -- equals at the first position, and at the last
  pub equals-first :
      BothSeq (pair 1 10 ∷ pair 2 10 ∷ pair 3 20 ∷ []) 10 (partner (seq_no 1)) (partner (seq_no 2))
      × BothTs (pair 1 10 ∷ pair 1 20 ∷ pair 2 30 ∷ []) 1 (partner (second 10)) (partner (second 20))
  pub equals-last :
      BothSeq (pair 1 10 ∷ pair 2 20 ∷ pair 3 20 ∷ []) 20 (partner (seq_no 2)) (partner (seq_no 3))
      × BothTs (pair 1 10 ∷ pair 2 20 ∷ pair 2 30 ∷ []) 2 (partner (second 20)) (partner (second 30))
  -- all keys equal; beside them there is nothing on one side
  pub all-equal :
      BothSeq (pair 1 10 ∷ pair 2 10 ∷ pair 3 10 ∷ []) 10 (partner (seq_no 1)) (partner (seq_no 3))
      × BothTs (pair 4 10 ∷ pair 4 20 ∷ pair 4 30 ∷ []) 4 (partner (second 10)) (partner (second 30))
      × BothTs (pair 4 10 ∷ pair 4 20 ∷ pair 4 30 ∷ []) 3 (partner (second 10)) nothing
      × BothTs (pair 4 10 ∷ pair 4 20 ∷ pair 4 30 ∷ []) 5 nothing (partner (second 30))
  -- run only, in the sequences (array 0): count 2, the first value, then byte 80 gives 8 with width 7, byte 17, bit 0; no byte gives 6 there; count 9 and byte 01 gives 7 at index 8,
  -- byte 17, bit 7. Input 02 prints `refused 2`
  pub runOnly :
      DecodeTells 9 (begun 2 ++ replicate 8 0 ++ (0x80 ∷ [])) (refused (8 ∷ 0 ∷ 1 ∷ 7 ∷ 17 ∷ 0 ∷ []))
      × DecodeTells 9 (begun 2 ++ replicate 8 0) (refused (6 ∷ 0 ∷ 1 ∷ 17 ∷ 0 ∷ []))
      × DecodeTells 9 (begun 9 ++ replicate 8 0 ++ (0x01 ∷ [])) (refused (7 ∷ 0 ∷ 8 ∷ 17 ∷ 7 ∷ []))
      × (listing_of (0x02 ∷ []) ≡ ascii "refused 2\n")
  -- the place is the start of the code, not of its difference: count 3, the first value and byte 40, whose first bit is the code of index 1, give 8 at index 2, byte 17, bit 1;
  -- byte 6F, 8 of width 9 there
  pub code-place :
      DecodeTells 9 (begun 3 ++ replicate 8 0 ++ (0x40 ∷ [])) (refused (8 ∷ 0 ∷ 2 ∷ 7 ∷ 17 ∷ 1 ∷ []))
      × DecodeTells 9 (begun 3 ++ replicate 8 0 ++ (0x6F ∷ [])) (refused (8 ∷ 0 ∷ 2 ∷ 9 ∷ 17 ∷ 1 ∷ []))
  -- P5's image cut off: after no byte 1, after 4 bytes 3, after 8 the sequences' count, in the seconds after 21 bytes the count, after 30 the first value, after 31 and 32 the code of index 1
  pub cut_off :
      DecodeTells 3 (take 0 (fifth 0x00 0x00)) (refused (1 ∷ []))
      × DecodeTells 3 (take 4 (fifth 0x00 0x00)) (refused (3 ∷ []))
      × DecodeTells 3 (take 8 (fifth 0x00 0x00)) (refused (4 ∷ 0 ∷ 5 ∷ 0 ∷ []))
      × DecodeTells 3 (take 21 (fifth 0x00 0x00)) (refused (4 ∷ 1 ∷ 19 ∷ 0 ∷ []))
      × DecodeTells 3 (take 30 (fifth 0x00 0x00)) (refused (5 ∷ 1 ∷ 23 ∷ 0 ∷ []))
      × DecodeTells 3 (take 31 (fifth 0x00 0x00)) (refused (6 ∷ 1 ∷ 1 ∷ 31 ∷ 0 ∷ []))
      × DecodeTells 3 (take 32 (fifth 0x00 0x00)) (refused (8 ∷ 1 ∷ 1 ∷ 7 ∷ 31 ∷ 0 ∷ []))
  -- of one byte, 6 bits from bit 3 on: 24, with 5 left; one bit from its end, from a place past it, or from bit 8, with 0 left; 65 bits are refused first
  pub bits_left :
      (read_rule (0xFF ∷ []) (record { byte = 0; bit = 3 }) 6 ≡ refused (24 ∷ 5 ∷ []))
      × (read_rule (0xFF ∷ []) (record { byte = 1; bit = 0 }) 1 ≡ refused (24 ∷ 0 ∷ []))
      × (read_rule (0xFF ∷ []) (record { byte = 2; bit = 3 }) 1 ≡ refused (24 ∷ 0 ∷ []))
      × (read_rule (0xFF ∷ []) (record { byte = 0; bit = 8 }) 1 ≡ refused (24 ∷ 0 ∷ []))
      × (read_rule (0xFF ∷ []) (record { byte = 0; bit = 3 }) 65 ≡ refused (23 ∷ []))
  -- per array 4, 10, 5: a count of 2 for two arrays of one place, with no first value after it, gives 10; with two places, 5, at byte 9
  pub order : DecodeTells 1 (begun 2) (refused (10 ∷ 0 ∷ [])) × DecodeTells 2 (begun 2) (refused (5 ∷ 0 ∷ 9 ∷ 0 ∷ []))
  -- dates, halving, many questions, and reasons: tables of their own
  pub dates : DateCases
  pub halving : HalvingCases
  pub questions : QuestionCases
  pub reasons : WhyCases
