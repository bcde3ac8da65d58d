-- Numerals without a unit, products out of range, and readings as they were, computed. Assumes nothing.
use Rattle.std.specs.Prelude.{refl, Bool, true, false, [], ◌∷◌, ℕ, ◌-◌, ◌^◌, T, replicate}
use Rattle.std.proofs.Common.{inl, inr, lit≤}
use Rattle.rules.specs.declared.Multiplier.{Multiplier}
use Rattle.rules.specs.Common.{ascii, all}
use Rattle.rules.specs.ThePartOfTheCrateWeTake.{largest}
use Rattle.rules.specs.ReadingOnePart.{negated}
use Rattle.rules.specs.Computing.{computing}
use Rattle.rules.specs.CardAAndItsReadings.{space, conjunction, settings, settings_A, row_of, table_A, same_length, same_answer, Case, reads, plus, fails}
use Rattle.rules.specs.SpokenNumbers.{numeral, speaking, some, comma, commas, times, most}
use Rattle.rules.specs.TheLinesOwnUnitNames.{on_a_line, jaw, line_7, five}
use Rattle.spoken_numbers.specs.TheReadingBefore as before
use Rattle.spoken_numbers.specs.WhenNoUnitFollows.{NoUnitAt}
use Rattle.spoken_numbers.specs.WhenAProductLeavesItsRange.{OutOfItsRange, too_large, too_high, too_low}
use Rattle.spoken_numbers.specs.WhatIsMultiplied.{Rows, as_it_is, by_ago}

-- ---- 15

-- `1s five and`: the part behind the first begins at 3, and `and` is no unit
pub in_a_later_part : NoUnitAt (speaking some) (ascii "1s five and") 3 8
unfolding computing space conjunction settings settings_A row_of table_A numeral speaking some
in_a_later_part = record {
  signed = record { negative = false; next = 3 };
  asked = record { not_at_end = refl; sign = refl; no_number = refl; no_infinity = refl };
  i = 0;
  numeral = record { found = refl; followed = refl; behind = refl; goes_on = refl };
  no_unit = refl;
}

-- `-minus  5s`: behind the sign the third numeral, and behind two delimiters a digit, at which no name can begin
pub before_a_digit : NoUnitAt (speaking some) (ascii "-minus  5s") 0 8
unfolding computing space conjunction settings settings_A row_of table_A numeral speaking some
before_a_digit = record {
  signed = record { negative = true; next = 1 };
  asked = record { not_at_end = refl; sign = refl; no_number = refl; no_infinity = refl };
  i = 2;
  numeral = record { found = refl; followed = refl; behind = refl; goes_on = refl };
  no_unit = refl;
}

-- on a line with names of its own: `pouch` is in neither table
pub in_neither_table : NoUnitAt (on_a_line line_7 five) (ascii "five pouch") 0 5
unfolding computing space conjunction settings settings_A row_of table_A on_a_line jaw line_7 five
in_neither_table = record {
  signed = record { negative = false; next = 0 };
  asked = record { not_at_end = refl; sign = refl; no_number = refl; no_infinity = refl };
  i = 0;
  numeral = record { found = refl; followed = refl; behind = refl; goes_on = refl };
  no_unit = refl;
}

-- ---- 16

abbrev multiplier : ℕ → ℕ → ℕ → Multiplier
multiplier coefficient up down = record { negative = false; coefficient = coefficient; up = up; down = down }

-- the first product alone: 9223372036854775807 minutes, though the row's coefficient is 0
pub too_many_minutes : OutOfItsRange (times (numeral "n" most 0) (row_of "u" 4 0 0) true) (ascii "n,u") 0
unfolding computing space conjunction row_of numeral comma commas times most
too_many_minutes = record {
  p = _;
  read = refl;
  d = record { negative = false; numeral = multiplier most 0 0; kind = multiplier 60 0 0; row = multiplier 0 0 0 };
  is_spoken = refl;
  product = inl (too_large (lit≤ tt));
}

-- the first alone: a power of -32768 and that of milliseconds, though the row's would bring the sum back
pub too_low_on_the_way : OutOfItsRange (times (numeral "n" 1 (2 ^ 15)) (row_of "u" 2 1 3) true) (ascii "n,u") 0
unfolding computing space conjunction row_of numeral comma commas times
too_low_on_the_way = record {
  p = _;
  read = refl;
  d = record { negative = false; numeral = multiplier 1 0 32768; kind = multiplier 1 0 3; row = multiplier 1 3 0 };
  is_spoken = refl;
  product = inl (too_low (lit≤ tt));
}

-- the second alone: 32767 and 1
pub too_high_with_the_row : OutOfItsRange (times (numeral "n" 1 (2 ^ 15 - 1)) (row_of "u" 3 1 1) true) (ascii "n,u") 0
unfolding computing space conjunction row_of numeral comma commas times
too_high_with_the_row = record {
  p = _;
  read = refl;
  d = record { negative = false; numeral = multiplier 1 32767 0; kind = multiplier 1 0 0; row = multiplier 1 1 0 };
  is_spoken = refl;
  product = inr (too_high (lit≤ tt));
}

-- ---- what is multiplied

-- `five s ago`: the first numeral, seconds, and the third row, negated
pub five_s_ago : Rows (speaking some) (ascii "five s ago") 0 (record { negative = false; numeral = multiplier 5 0 0; kind = multiplier 1 0 0; row = negated (multiplier 1 0 0) })
unfolding computing space conjunction settings settings_A row_of table_A numeral speaking some
five_s_ago = record {
  signed = record { negative = false; next = 0 };
  asked = record { not_at_end = refl; sign = refl; no_number = refl; no_infinity = refl };
  i = 0;
  q = 5;
  numeral_at = record { found = refl; followed = refl; behind = refl; goes_on = refl };
  size = 1;
  rest = _;
  unit_at = refl;
  sign = refl;
  numeral = refl;
  its_kind = refl;
  its_row = by_ago 7 refl;
}

-- `five turn` on that line: the line's row, 15 milliseconds, though the hall has a `turn` too
pub five_turn : Rows (on_a_line line_7 five) (ascii "five turn") 0 (record { negative = false; numeral = multiplier 5 0 0; kind = multiplier 1 0 3; row = multiplier 15 0 0 })
unfolding computing space conjunction settings settings_A row_of table_A on_a_line jaw line_7 five
five_turn = record {
  signed = record { negative = false; next = 0 };
  asked = record { not_at_end = refl; sign = refl; no_number = refl; no_infinity = refl };
  i = 0;
  q = 5;
  numeral_at = record { found = refl; followed = refl; behind = refl; goes_on = refl };
  size = 4;
  rest = _;
  unit_at = refl;
  sign = refl;
  numeral = refl;
  its_kind = refl;
  its_row = as_it_is;
}

-- ---- as it was

unfoldable pub was : Case → Bool
was c = same_answer (before.total_answer settings_A table_A (ascii c.typed)) c.comes_to

-- a word that began a part was 6 at it, whatever followed; with digits or `inf` it was a part
pub readings_before :
    T (all was (fails "five min" 6 0 ∷ fails "1s five min" 6 3 ∷ fails "five " 6 0 ∷ reads "5 min" (plus 300 0) ∷ reads "inf" (largest false) ∷ []))
    × T (same_answer (before.part_answer settings_A table_A (ascii "1s five min") 3) (fails "" 6 3).comes_to)
    × T (same_answer (before.shift_answer (plus 1 0) settings_A table_A (ascii "2s ")) (fails "" 18 2).comes_to)
    × T (same_answer (before.total_answer settings_A (replicate 33 0) (ascii "1s")) (fails "" 7 64).comes_to)
unfolding computing space conjunction settings settings_A row_of table_A same_length same_answer reads plus fails was before.row_right before.row_accepted before.rows_check before.table_check before.card_check before.unit_found before.unit_step before.infinite_part before.finite_part before.unsigned_part before.part before.part_reading before.parts before.total before.read_part before.part_answer before.read_total before.total_answer before.add_total before.shift_answer
readings_before = (tt, tt, tt, tt)
