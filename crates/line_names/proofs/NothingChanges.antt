-- With an empty table of the line's nothing changes: whatever its other arguments, every entry answers as before request five. The writer did
-- not move. Assumes nothing.
use Rattle.std.specs.Prelude.{◌≡◌, List, [], ◌∷◌, length, Option, Some, None}
use Rattle.std.proofs.Math.Path.{refl}
use Prim.Native.Nat.{ℕ, zero, suc}
use Rattle.std.proofs.Common.{arith}
use Rattle.rules.specs.declared.Length.{Length}
use Rattle.rules.specs.NumbersHandedBack.{◌>>◌, unless}
use Rattle.rules.specs.SettingsAndUnitTable.{row_size, rows_in, row, whole_rows_in, rows_check, units_check_in, table_check, line_check, Card, card_check, lookup_from_in, lookup, lookup_in, line_first, stands, held_row, find_row}
use Rattle.rules.specs.ReadingOnePart.{find_unit, unit_found, unit_step, numeral_found, numeral_step, spoken_unit_found, spoken_unit_step, finite_part, spoken_part, unsigned_part, part}
use Rattle.rules.specs.Evaluation.{part_reading, parts, total}
use Rattle.rules.specs.WhatEveryEntryOwes.{read_part, part_answer, read_total, total_answer, add_total, shift_answer, shifted_record}
use Rattle.rows.specs.Laws.Lookup.{lookup_found}
use Rattle.rows.specs.Laws.Rows.{length_row}
use Rattle.line_names.specs.TheReadingBefore as before

-- a card as it was, as it is now: its unit table is the hall's, and the line has none
abbrev pub now : before.Card → Card
now card = record { settings = card.settings; hall = card.units; line = []; numerals = card.numerals }

-- ---- the row itself for its number

-- a row has a first byte
first_byte : (r : List ℕ) → length r ≡ row_size → (size : ℕ) × (more : List ℕ) × (r ≡ size ∷ more)
first_byte [] sized = absurd (omega arith)
first_byte (size ∷ more) sized = (size, more, refl)

-- without a table of the line's: the same is made of the row that is found as of its number, and of none as of none
by_its_number :
    {A : Type 0} (made : List ℕ → A) (made_before : Option ℕ → A) (table wanted : List ℕ)
    → ((i size : ℕ) (more : List ℕ) → row table i ≡ size ∷ more → made (row table i) ≡ made_before (Some i))
    → made [] ≡ made_before None
    → made (find_row table [] wanted) ≡ made_before (lookup table wanted)
unfolding find_row stands line_first held_row lookup_in lookup_from_in rows_in
by_its_number made made_before table wanted some none = go (lookup table wanted) refl
  where
    go : (f : Option ℕ) → lookup table wanted ≡ f → made (held_row table [] (line_first None f)) ≡ made_before f
    go (Some i) at =
        let (size, more, e) = first_byte (row table i) (length_row table i (lookup_found table wanted i at).0) in
        some i size more e
    go None at = none

module _ (card : before.Card) where
  -- ---- the card

  pub card_as_before : card_check (now card) ≡ before.card_check card
  unfolding card_check table_check line_check units_check_in whole_rows_in rows_in rows_check unless ◌>>◌ before.card_check before.table_check
  card_as_before = refl

  module _ (text : List ℕ) where
    -- ---- a part

    unit_as_before : (place : ℕ) → unit_step (now card) text place ≡ before.unit_step card text place
    unfolding unit_step find_unit unit_found before.unit_step before.find_unit before.unit_found
    unit_as_before place =
        by_its_number (unit_found card.settings text place) (before.unit_found card text place) card.units _ (λ i size more e. rw e) refl

    spoken_unit_as_before : (place : ℕ) → spoken_unit_step (now card) text place ≡ before.spoken_unit_step card text place
    unfolding spoken_unit_step find_unit spoken_unit_found before.spoken_unit_step before.find_unit before.spoken_unit_found
    spoken_unit_as_before place =
        by_its_number (spoken_unit_found card.settings text place) (before.spoken_unit_found card text place) card.units _ (λ i size more e. rw e) refl

    numeral_as_before : (place : ℕ) → numeral_step (now card) text place ≡ before.numeral_step card text place
    unfolding numeral_step numeral_found before.numeral_step before.numeral_found
    numeral_as_before place = go (lookup card.numerals _)
      where
        go : (f : Option ℕ) → numeral_found (now card) text place f ≡ before.numeral_found card text place f
        go (Some i) = refl
        go None = refl

    part_as_before : (place : ℕ) → part (now card) text place ≡ before.part card text place
    unfolding part unsigned_part finite_part spoken_part before.part before.unsigned_part before.finite_part before.spoken_part
    part_as_before place = simp (unit_as_before, spoken_unit_as_before, numeral_as_before)

    reading_as_before : (place : ℕ) → part_reading (now card) text place ≡ before.part_reading card text place
    unfolding part_reading before.part_reading
    reading_as_before place = simp part_as_before

    -- ---- the total

    parts_as_before : (n place : ℕ) → parts (now card) text n place ≡ before.parts card text n place
    unfolding parts before.parts
    parts_as_before zero place = refl
    parts_as_before (suc n) place = simp (reading_as_before, parts_as_before n)

    total_as_before : total (now card) text ≡ before.total card text
    unfolding total before.total
    total_as_before = simp parts_as_before

    -- ---- the entries

    pub part_answer_as_before : (place : ℕ) → part_answer (now card) text place ≡ before.part_answer card text place
    unfolding part_answer read_part before.part_answer before.read_part
    part_answer_as_before place = simp (card_as_before, reading_as_before)

    pub total_answer_as_before : total_answer (now card) text ≡ before.total_answer card text
    unfolding total_answer read_total before.total_answer before.read_total
    total_answer_as_before = simp (card_as_before, total_as_before)

    module _ (so_far : Length) where
      added_as_before : add_total so_far (now card) text ≡ before.add_total so_far card text
      unfolding add_total before.add_total
      added_as_before = simp (card_as_before, total_as_before)

      pub shift_answer_as_before : shift_answer so_far (now card) text ≡ before.shift_answer so_far card text
      unfolding shift_answer before.shift_answer
      shift_answer_as_before = simp added_as_before

      pub shifted_record_as_before : shifted_record so_far (now card) text ≡ before.shifted_record so_far card text
      unfolding shifted_record before.shifted_record
      shifted_record_as_before = simp added_as_before
