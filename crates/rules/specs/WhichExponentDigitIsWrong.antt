-- Request three, "Show which exponent digit is wrong": its readings, as one table, and the same through the other entries. Assumes nothing.
use Rattle.std.specs.Prelude.{Bool, ◌&&◌, List, [], ◌∷◌, ℕ, T}
use Prim.Native.String.{String}
use Rattle.rules.specs.Common.{ascii, all}
use Rattle.rules.specs.WhatEveryEntryOwes.{part_answer, shift_answer, shifted_record}
use Rattle.rules.specs.Computing.{computing}
use Rattle.rules.specs.CardAAndItsReadings.{space, conjunction, settings, settings_A, row_of, table_A, unspoken, card_A, same_length, same_answer, Case, reads, plus, minus, fails, holds_under}

-- 3 and 4 at the digit with which the range is passed: behind zeros, with more digits or a unit behind it, and in a later part
unfoldable pub wrong_digits : List Case
wrong_digits =
    fails "1e32768" 3 6
    ∷ fails "1e-0032769" 4 9
    ∷ fails "1e99999s" 3 6
    ∷ fails "1E+4000000" 3 7
    ∷ fails "1s 1e32768" 3 9
    ∷ fails "1s and 2ms 1e-40000 5" 4 18
    ∷ []

-- up to the range nothing is wrong, whatever zeros stand before the power
unfoldable pub right_digits : List Case
right_digits = reads "1e-0032768" (plus 0 0) ∷ reads "0e032767s" (plus 0 0) ∷ []

pub digits_shown : T (all (holds_under card_A) wrong_digits) × T (all (holds_under card_A) right_digits)
unfolding computing space conjunction settings settings_A row_of table_A unspoken card_A same_length same_answer reads plus fails holds_under wrong_digits right_digits
digits_shown = (tt, tt)

-- a part read from a place, and a text added to the shift total, which stays as it was
unfoldable pub shown_elsewhere : String → ℕ → ℕ → ℕ → Bool
shown_elsewhere text place n p =
    same_answer (part_answer card_A (ascii text) place) (fails text n p).comes_to
    && same_answer (shift_answer (minus 7 5) card_A (ascii text)) (fails text n p).comes_to
    && same_length (shifted_record (minus 7 5) card_A (ascii text)) (minus 7 5)

pub elsewhere : T (shown_elsewhere "1s 1e32768" 3 3 9 && shown_elsewhere "1s and 2e-0032769" 7 4 16)
unfolding computing space conjunction settings settings_A row_of table_A unspoken card_A same_length same_answer minus fails shown_elsewhere
elsewhere = tt
