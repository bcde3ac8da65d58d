-- Laws of the entries' answers, in the order of their refusals. Assumes nothing.
use Rattle.std.specs.Prelude.{◌≡◌, List, ℕ, ◌≤◌, ◌<◌, length}
use borrow.Author.Tests.{le-leb, lt-leb}
use Rattle.rules.specs.declared.Length.{Length}
use Rattle.rules.specs.declared.Reading.{Reading}
use Rattle.rules.specs.declared.Refusal.{Refusal}
use Rattle.rules.specs.declared.Settings.{Settings}
use Rattle.rules.specs.declared.Refusal.TheVariants.{TextTooLong, Beyond}
use Rattle.rules.specs.ThePartOfTheCrateWeTake.{longest_text}
use Rattle.rules.specs.NumbersHandedBack.{got, refused, ◌>>◌, unless, done, refusal, answered}
use Rattle.rules.specs.SettingsAndUnitTable.{Card, card_check}
use Rattle.rules.specs.Evaluation.{part_reading, total}
use Rattle.rules.specs.WhatEveryEntryOwes.{read_part, part_answer, read_total, total_answer}
use Rattle.card.specs.Laws.Accepted.{UnitsGood, card_hall, card_line, card_numerals, row_padded, row_in_range, lookup_empty, numeral_padded, lookup_lettered}
use Rattle.steps.specs.Units.{Readable}
use Rattle.steps.specs.Numerals.{Sayable}

-- under an accepted card units can be read, and numerals said
table_readable : (s : Settings) (table : List ℕ) → UnitsGood s table → Readable table
table_readable s table good = record { rooms = row_padded s table good; products = row_in_range s table good; named = lookup_empty s table good }

pub card_readable : (card : Card) → card_check card ≡ got tt → Readable card.hall × Readable card.line
card_readable card good = (table_readable card.settings card.hall (card_hall card good), table_readable card.settings card.line (card_line card good))

pub card_sayable : (card : Card) → card_check card ≡ got tt → Sayable card.numerals
card_sayable card good =
    let accepted = card_numerals card good in
    record { rooms = numeral_padded card.numerals accepted; lettered = lookup_lettered card.numerals accepted }

module _ (card : Card) (text : List ℕ) where
  module _ (place : ℕ) where
    pub part_card : {cause : Refusal} → card_check card ≡ refused cause → refusal cause ≡ part_answer card text place
    unfolding part_answer read_part answered ◌>>◌
    part_card e = rw e

    module _ (good : card_check card ≡ got tt) where
      pub reads_long : longest_text < length text → refused TextTooLong ≡ read_part card text place
      unfolding read_part unless ◌>>◌
      reads_long h = rw (good, lt-leb (length text) longest_text h)

      pub part_long : longest_text < length text → refusal TextTooLong ≡ part_answer card text place
      unfolding part_answer answered
      part_long h = rw (← reads_long h)

      module _ (short : length text ≤ longest_text) where
        pub reads_far : length text < place → refused (Beyond place) ≡ read_part card text place
        unfolding read_part unless ◌>>◌
        reads_far h = rw (good, le-leb (length text) longest_text short, lt-leb place (length text) h)

        pub part_far : length text < place → refusal (Beyond place) ≡ part_answer card text place
        unfolding part_answer answered
        part_far h = rw (← reads_far h)

        module _ (within : place ≤ length text) where
          -- the checks have passed
          pub reads_passed : part_reading card text place ≡ read_part card text place
          unfolding read_part unless ◌>>◌
          reads_passed = rw (good, le-leb (length text) longest_text short, le-leb place (length text) within)

          pub part_refused : {cause : Refusal} → part_reading card text place ≡ refused cause → refusal cause ≡ part_answer card text place
          unfolding part_answer answered
          part_refused e = rw (← reads_passed, e)

          pub part_got : {r : Reading} → part_reading card text place ≡ got r → done r.next r.length ≡ part_answer card text place
          unfolding part_answer answered
          part_got e = rw (← reads_passed, e)

  pub total_card : {cause : Refusal} → card_check card ≡ refused cause → refusal cause ≡ total_answer card text
  unfolding total_answer read_total answered ◌>>◌
  total_card e = rw e

  module _ (good : card_check card ≡ got tt) where
    pub totals_long : longest_text < length text → refused TextTooLong ≡ read_total card text
    unfolding read_total unless ◌>>◌
    totals_long h = rw (good, lt-leb (length text) longest_text h)

    pub total_long : longest_text < length text → refusal TextTooLong ≡ total_answer card text
    unfolding total_answer answered
    total_long h = rw (← totals_long h)

    module _ (short : length text ≤ longest_text) where
      pub totals_passed : total card text ≡ read_total card text
      unfolding read_total unless ◌>>◌
      totals_passed = rw (good, le-leb (length text) longest_text short)

      pub total_refused : {cause : Refusal} → total card text ≡ refused cause → refusal cause ≡ total_answer card text
      unfolding total_answer answered
      total_refused e = rw (← totals_passed, e)

      pub total_got : {l : Length} → total card text ≡ got l → done (length text) l ≡ total_answer card text
      unfolding total_answer answered
      total_got e = rw (← totals_passed, e)
