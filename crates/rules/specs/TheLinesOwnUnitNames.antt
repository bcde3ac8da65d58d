-- Request five, "The line's own unit names": its cards and readings, computed, each rule from both sides. Assumes nothing.
use Rattle.std.specs.Prelude.{Bool, false, ◌&&◌, List, [], ◌∷◌, ◌++◌, ℕ, ◌*◌, ◌-◌, ◌^◌, T, replicate}
use Rattle.rules.specs.declared.Settings.{Settings}
use Rattle.rules.specs.Common.{ascii, all, same}
use Rattle.rules.specs.NumbersHandedBack.{done}
use Rattle.rules.specs.SettingsAndUnitTable.{Card, find_row}
use Rattle.rules.specs.WhatEveryEntryOwes.{part_answer, shift_answer, shifted_record}
use Rattle.rules.specs.Computing.{computing}
use Rattle.rules.specs.CardAAndItsReadings.{space, conjunction, settings, settings_A, row_of, table_A, card_A, unspoken, same_length, same_answer, reads, plus, minus, fails, holds_under}
use Rattle.rules.specs.AUnitNobodyCouldType.{none, asked}

-- card A with a table of the line's and numerals
unfoldable pub on_a_line : List ℕ → List ℕ → Card
on_a_line line numerals = record { settings = settings_A; hall = table_A; line = line; numerals = numerals }

-- line 7 calls a jaw stroke of 40 ms `jaw`, and has a turn of its own
unfoldable pub jaw : List ℕ
jaw = row_of "jaw" 2 40 0

unfoldable pub line_7 : List ℕ
line_7 = jaw ++ row_of "turn" 2 15 0

unfoldable pub five : List ℕ
five = row_of "five" 3 5 0

-- ---- the row itself, from whichever table holds it

pub the_row :
    T (same (find_row table_A line_7 (ascii "jaw")) jaw)
    × T (same (find_row table_A line_7 (ascii "turn")) (row_of "turn" 2 15 0))
    × T (same (find_row table_A line_7 (ascii "s")) (row_of "s" 3 1 0))
    × T (same (find_row table_A line_7 (ascii "ja")) [] && same (find_row table_A line_7 (ascii "jaws")) [])
    × T (same (find_row table_A line_7 []) [] && same (find_row [] [] (ascii "s")) [])
    × T (same (find_row table_A [] (ascii "turn")) (row_of "turn" 2 123 (2 ^ 16 - 1)))
    × T (same (find_row [] line_7 (ascii "turn")) (row_of "turn" 2 15 0))
unfolding computing row_of table_A jaw line_7
the_row = (tt, tt, tt, tt, tt, tt, tt)

-- the line's rows win, and behind them stand the hall's; without the line's table all is as it was
pub read_on_the_line :
    T
    (all (holds_under (on_a_line line_7 five))
    (reads "3jaw" (plus 0 120000000)
    ∷ reads "1turn" (plus 0 15000000)
    ∷ reads "2ms" (plus 0 2000000)
    ∷ reads "1jaw 1s" (plus 1 40000000)
    ∷ reads "1 jaw ago" (minus 0 40000000)
    ∷ reads "five jaw" (plus 0 200000000)
    ∷ reads "five min" (plus 300 0)
    ∷ fails "1pouch" 6 1
    ∷ fails "five pouch" 15 5
    ∷ fails "3jaws" 6 1
    ∷ []))
    × T (all (holds_under card_A) (fails "3jaw" 6 1 ∷ reads "1turn" (plus 0 12300000) ∷ []))
unfolding computing space conjunction settings settings_A row_of table_A unspoken card_A same_length same_answer reads plus minus fails holds_under on_a_line jaw line_7 five
read_on_the_line = (tt, tt)

-- ---- each table is checked by itself: the hall's, then the line's with 128 more, then the numerals

unfoldable pub refused_at : ℕ → Card → Bool
refused_at position card = holds_under card (fails "1s" 7 position)

-- tables of so many bytes, all of them 0: their first row is bad
unfoldable pub blank : ℕ → List ℕ
blank size = replicate size 0

unfoldable pub under : Settings → List ℕ → List ℕ → List ℕ → Card
under s hall line numerals = record { settings = s; hall = hall; line = line; numerals = numerals }

pub checked_in_order :
    T (refused_at 64 (under settings_A (blank 47) (blank 47) (blank 47)))
    × T (refused_at 5 (under settings_A (row_of "a" 3 1 0 ++ row_of "b" 3 1 0 ++ row_of "c" 3 1 0 ++ row_of "d" 3 1 0 ++ row_of "f" 3 1 0 ++ blank 48) (blank 47) (blank 47)))
    × T (refused_at 192 (on_a_line (blank 47) (blank 47)) && refused_at 192 (on_a_line (blank (65 * 48)) (blank 47)))
    × T (refused_at 128 (on_a_line (blank (64 * 48)) (blank 47)) && refused_at 128 (on_a_line (blank 48) (blank 48)))
    × T (refused_at 100 (on_a_line line_7 (blank 47)) && refused_at 68 (on_a_line line_7 (blank 48)))
    × T (refused_at 130 (on_a_line (line_7 ++ jaw) five) && refused_at 130 (on_a_line (line_7 ++ row_of "s" 8 1 0) five))
    × T (refused_at 128 (under (asked false false space) [] (row_of "eon" 3 5 0) []) && refused_at 0 (under (asked false false space) (row_of "eon" 3 5 0) (row_of "eon" 3 5 0) []))
unfolding computing space conjunction settings settings_A row_of table_A same_length same_answer fails holds_under none asked on_a_line jaw line_7 five refused_at blank under
checked_in_order = (tt, tt, tt, tt, tt, tt, tt)

-- ---- a part read from a place, and a text added to the shift total, which stays as it was on a refusal

pub elsewhere :
    T (same_answer (part_answer (on_a_line line_7 []) (ascii "1s 3jaw 2s") 3) (done 8 (plus 0 120000000)))
    × T (same_answer (part_answer (on_a_line (blank 48) []) (ascii "1s 3jaw 2s") 11) (fails "" 7 128).comes_to)
    × T (same_answer (shift_answer (plus 1 0) (on_a_line line_7 []) (ascii "3jaw")) (done 4 (plus 1 120000000)))
    × T (same_length (shifted_record (plus 1 0) (on_a_line line_7 []) (ascii "3jaw")) (plus 1 120000000))
    × T (same_answer (shift_answer (minus 0 0) (on_a_line (blank 48) []) (ascii "3jaw")) (fails "" 7 128).comes_to)
    × T (same_length (shifted_record (minus 0 0) (on_a_line (blank 48) []) (ascii "3jaw")) (minus 0 0))
unfolding computing space conjunction settings settings_A row_of table_A same_length same_answer plus minus fails on_a_line jaw line_7 blank
elsewhere = (tt, tt, tt, tt, tt, tt)
