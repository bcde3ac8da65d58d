-- Request six, "Six slips under one number": its readings, each number from both sides, as totals and through the other entries. Assumes nothing.
use Rattle.std.specs.Prelude.{Bool, true, false, List, [], ◌∷◌, T}
use Rattle.rules.specs.Common.{ascii, all}
use Rattle.rules.specs.SettingsAndUnitTable.{Card}
use Rattle.rules.specs.WhatEveryEntryOwes.{part_answer, shift_answer, shifted_record}
use Rattle.rules.specs.Computing.{computing}
use Rattle.rules.specs.CardAAndItsReadings.{space, conjunction, settings, settings_A, row_of, table_A, unspoken, card_A, same_length, same_answer, Case, reads, plus, minus, fails, holds_under}
use Rattle.rules.specs.TheLinesOwnUnitNames.{on_a_line, five}

-- card A, but for fractions, exponents and the switch after a sign
unfoldable pub switched : Bool → Bool → Bool → Card
switched fractions exponents behind_a_sign =
    unspoken
    (record {
      negatives = settings_A.negatives;
      fractions = fractions;
      exponents = exponents;
      infinity = settings_A.infinity;
      ago = settings_A.ago;
      after_sign = behind_a_sign;
      before_unit = settings_A.before_unit;
      inner = settings_A.inner;
      outer = settings_A.outer;
      conjunctions = settings_A.conjunctions;
      first = settings_A.first;
      second = settings_A.second;
      third = settings_A.third;
      fourth = settings_A.fourth;
      default_kind = settings_A.default_kind;
    })
    table_A

-- 17: the text ends straight after a part's sign, or straight after an exponent's `e` or its sign
unfoldable pub text_ends : List Case
text_ends =
    fails "+" 17 1
    ∷ fails "1s -" 17 4
    ∷ fails "1e" 17 2
    ∷ fails "1E-" 17 3
    ∷ fails "2s 1.5e+" 17 8
    ∷ []

-- 18: a delimiter run that a step takes ends the text: behind a number, a unit, `ago`, infinity, a conjunction
unfoldable pub delimiters_end : List Case
delimiters_end =
    fails "1 " 18 1
    ∷ fails "1s " 18 2
    ∷ fails "1s   " 18 2
    ∷ fails "1s ago " 18 6
    ∷ fails "inf " 18 3
    ∷ fails "infinity " 18 8
    ∷ fails "1s and " 18 6
    ∷ []

-- 19: a conjunction ends the text, or what follows it is no delimiter, digit or sign
unfoldable pub conjunction_slips : List Case
conjunction_slips =
    fails "1s and" 19 3
    ∷ fails "1s android" 19 6
    ∷ fails "inf and" 19 4
    ∷ fails "1s and." 19 6
    ∷ reads "1s and2s" (plus 3 0)
    ∷ []

-- 20: a point with digits on neither side; on either side they are enough
unfoldable pub fraction_slips : List Case
fraction_slips = fails "." 20 0 ∷ fails "-.s" 20 1 ∷ fails "1s .e5" 20 3 ∷ reads "1." (plus 1 0) ∷ reads ".5" (plus 0 500000000) ∷ []

-- 21: where a digit of the exponent is wanted stands another byte
unfoldable pub exponent_slips : List Case
exponent_slips = fails "1ex" 21 2 ∷ fails "1e x" 21 2 ∷ fails "1e-x" 21 3 ∷ fails "1e+-1" 21 3 ∷ reads "1e0" (plus 1 0) ∷ []

-- 22: a wrong letter, an end within `inity`, or what follows the word is neither end nor connection
unfoldable pub infinity_slips : List Case
infinity_slips =
    fails "inf+1" 22 3
    ∷ fails "infi" 22 0
    ∷ fails "1s -INFINIT" 22 4
    ∷ fails "infix" 22 4
    ∷ fails "infinityx" 22 8
    ∷ fails "infinity1" 22 8
    ∷ []

pub slips_shown :
    T (all (holds_under card_A) text_ends)
    × T (all (holds_under card_A) delimiters_end)
    × T (all (holds_under card_A) conjunction_slips)
    × T (all (holds_under card_A) fraction_slips)
    × T (all (holds_under card_A) exponent_slips)
    × T (all (holds_under card_A) infinity_slips)
unfolding computing space conjunction settings settings_A row_of table_A unspoken card_A same_length same_answer reads plus fails holds_under text_ends delimiters_end conjunction_slips fraction_slips exponent_slips infinity_slips
slips_shown = (tt, tt, tt, tt, tt, tt)

-- the switches: delimiters after a sign; a point while fractions are off, whatever stands beside it; `e` while exponents are off
pub switches_shown :
    T (all (holds_under (switched true true true)) (fails "+ " 18 1 ∷ fails "+" 17 1 ∷ reads "+ 1" (plus 1 0) ∷ []))
    × T (all (holds_under card_A) (fails "+ " 6 1 ∷ []))
    × T (all (holds_under (switched false true false)) (fails "1.5" 20 1 ∷ fails "." 20 0 ∷ fails "1." 20 1 ∷ []))
    × T (all (holds_under (switched true false false)) (fails "1e5" 21 1 ∷ fails "1e" 21 1 ∷ fails ".5E" 21 2 ∷ []))
unfolding computing space conjunction settings settings_A row_of table_A unspoken card_A same_length same_answer reads plus fails holds_under switched
switches_shown = (tt, tt, tt, tt)

-- the delimiters behind a numeral; and a spoken number's connection
pub spoken_shown :
    T (all (holds_under (on_a_line [] five)) (fails "five " 18 4 ∷ fails "five s " 18 6 ∷ fails "five s ago " 18 10 ∷ fails "five s and" 19 7 ∷ fails "-five" 6 1 ∷ []))
unfolding computing space conjunction settings settings_A row_of table_A same_length same_answer fails holds_under on_a_line five
spoken_shown = tt

-- a part read from a place, and a text added to the shift total, which stays as it was
pub elsewhere :
    T (same_answer (part_answer card_A (ascii "1s 1e") 3) (fails "" 17 5).comes_to)
    × T (same_answer (part_answer card_A (ascii "1s 1e") 5) (fails "" 1 5).comes_to)
    × T (same_answer (shift_answer (minus 7 5) card_A (ascii "1s and")) (fails "" 19 3).comes_to)
    × T (same_length (shifted_record (minus 7 5) card_A (ascii "1s and")) (minus 7 5))
unfolding computing space conjunction settings settings_A row_of table_A unspoken card_A same_length same_answer minus fails
elsewhere = (tt, tt, tt, tt)
