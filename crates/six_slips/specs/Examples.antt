-- What each of the six numbers names, of texts of the request, and the answer as it was: computed. Assumes nothing.
use Rattle.std.specs.Prelude.{refl, Bool, true, false, ◌&&◌, [], ◌∷◌, T}
use Rattle.std.proofs.Common.{lit≤}
use Rattle.rules.specs.Common.{ascii, all}
use Rattle.rules.specs.WhatEveryEntryOwes.{total_answer}
use Rattle.rules.specs.Computing.{computing}
use Rattle.rules.specs.CardAAndItsReadings.{space, conjunction, settings, settings_A, row_of, table_A, unspoken, card_A, same_length, same_answer, Case, reads, plus, fails}
use Rattle.rules.specs.TheLinesOwnUnitNames.{on_a_line, five}
use Rattle.rules.specs.SixSlipsUnderOneNumber.{switched}
use Rattle.six_slips.specs.TheAnswerBefore.{number_before, before, slip, fold_number, folded}
use Rattle.exponent_place.specs.TheWrongDigit.{first_digit}
use Rattle.handed_back.specs.ByAnotherTable.{answered_by, total_by}
use Rattle.handed_back.specs.TheStepsOfAPart.{begins, to_number, to_infinity, to_numeral, to_exponent, to_gap, to_unit, behind_inf}
use Rattle.six_slips.specs.TheSixSlips.{TextEnds, behind_sign, in_exponent, behind_a_sign, before_ago, behind_numeral, of_connection, DelimitersEnd, ConjunctionSlip, conjunction_ends, conjunction_goes_on, FractionSlip, fractions_off, bare_point, ExponentSlip, exponents_off, no_digit, InfinitySlip, wrong_letter, ends_within, word_goes_on}

-- ---- 17: `+` at 1, `1e` at 2

pub a_sign_alone : TextEnds card_A (ascii "+") 0 1
unfolding computing space conjunction settings settings_A row_of table_A unspoken card_A
a_sign_alone = behind_sign (begins refl) refl refl

pub an_e_at_the_end : TextEnds card_A (ascii "1e") 0 2
unfolding computing space conjunction settings settings_A row_of table_A unspoken card_A first_digit
an_e_at_the_end = in_exponent (to_exponent (to_number (begins refl) refl refl) refl) refl refl refl

-- ---- 18: `+ ` at 1 with the switch after a sign; `1s ` at 2, before an `ago`; `inf ` at 3; `five ` at 4

pub behind_the_sign : DelimitersEnd (switched true true true) (ascii "+ ") 0 1
unfolding computing space conjunction settings settings_A row_of table_A unspoken switched
behind_the_sign = record { set = space; taken = behind_a_sign (begins refl) refl refl; last = record { stand = refl; end = refl } }

pub behind_the_unit : DelimitersEnd card_A (ascii "1s ") 0 2
unfolding computing space conjunction settings settings_A row_of table_A unspoken card_A
behind_the_unit = record {
  set = space;
  taken = before_ago (to_unit (to_gap (to_exponent (to_number (begins refl) refl refl) refl) refl) refl) refl refl;
  last = record { stand = refl; end = refl };
}

pub behind_infinity : DelimitersEnd card_A (ascii "inf ") 0 3
unfolding computing space conjunction settings settings_A row_of table_A unspoken card_A
behind_infinity = record {
  set = space;
  taken = of_connection (behind_inf (to_infinity (begins refl) refl refl refl) refl);
  last = record { stand = refl; end = refl };
}

pub behind_five : DelimitersEnd (on_a_line [] five) (ascii "five ") 0 4
unfolding computing space conjunction settings settings_A row_of table_A on_a_line five
behind_five = record {
  set = space;
  taken = behind_numeral (to_numeral (begins refl) refl refl refl) refl;
  last = record { stand = refl; end = refl };
}

-- ---- 19: `inf and` at 4, `inf android` at 7

pub a_conjunction_at_the_end : ConjunctionSlip card_A (ascii "inf and") 0 4
unfolding computing space conjunction settings settings_A row_of table_A unspoken card_A
a_conjunction_at_the_end =
    conjunction_ends {word = 4} {size = 3}
    (record { p = 3; comes = behind_inf (to_infinity (begins refl) refl refl refl) refl; stand = refl; behind = refl; found = refl; some = lit≤ tt }) refl

pub android : ConjunctionSlip card_A (ascii "inf android") 0 7
unfolding computing space conjunction settings settings_A row_of table_A unspoken card_A
android =
    conjunction_goes_on {word = 4} {size = 3}
    (record { p = 3; comes = behind_inf (to_infinity (begins refl) refl refl refl) refl; stand = refl; behind = refl; found = refl; some = lit≤ tt }) refl

-- ---- 20: `.` at 0; `1.5` at 1 while fractions are off

pub a_point_alone : FractionSlip card_A (ascii ".") 0 0
unfolding computing space conjunction settings settings_A row_of table_A unspoken card_A
a_point_alone = bare_point (to_number (begins refl) refl refl) refl refl refl

pub no_fractions : FractionSlip (switched false true false) (ascii "1.5") 0 1
unfolding computing space conjunction settings settings_A row_of table_A unspoken switched
no_fractions = fractions_off (to_number (begins refl) refl refl) refl refl

-- ---- 21: `1e-x` at 3; `1e5` at 1 while exponents are off

pub no_digit_there : ExponentSlip card_A (ascii "1e-x") 0 3
unfolding computing space conjunction settings settings_A row_of table_A unspoken card_A first_digit
no_digit_there = no_digit (to_exponent (to_number (begins refl) refl refl) refl) refl refl refl

pub no_exponents : ExponentSlip (switched true false false) (ascii "1e5") 0 1
unfolding computing space conjunction settings settings_A row_of table_A unspoken switched
no_exponents = exponents_off (to_exponent (to_number (begins refl) refl refl) refl) refl refl

-- ---- 22: `inf+1` at 3, `infi` at 0, `infinityx` at 8

pub another_letter : InfinitySlip card_A (ascii "inf+1") 0 3
unfolding computing space conjunction settings settings_A row_of table_A unspoken card_A
another_letter =
    wrong_letter {right = []} (record { comes = to_infinity (begins refl) refl refl refl; more = refl; word = refl; stand = refl }) refl

pub an_end_within : InfinitySlip card_A (ascii "infi") 0 0
unfolding computing space conjunction settings settings_A row_of table_A unspoken card_A
an_end_within =
    ends_within {right = 105 ∷ []} (record { comes = to_infinity (begins refl) refl refl refl; more = refl; word = refl; stand = refl }) refl

pub more_letters : InfinitySlip card_A (ascii "infinityx") 0 8
unfolding computing space conjunction settings settings_A row_of table_A unspoken card_A
more_letters = word_goes_on (to_infinity (begins refl) refl refl refl) refl refl refl

-- ---- as it was

-- a text under card A had this number, and folded it has it still
unfoldable pub was : Case → Bool
was c =
    same_answer (total_by before card_A (ascii c.typed)) c.comes_to && same_answer (folded (total_answer card_A (ascii c.typed))) c.comes_to

pub was_before :
    T
    (all was
    (fails "+" 2 1
    ∷ fails "1e" 2 2
    ∷ fails "1s " 2 2
    ∷ fails "1s and" 2 3
    ∷ fails "." 2 0
    ∷ fails "1ex" 2 2
    ∷ fails "inf+1" 2 3
    ∷ fails "" 1 0
    ∷ fails "1e32768" 3 6
    ∷ fails "1 and 2" 6 2
    ∷ reads "1s and 2ms" (plus 1 2000000)
    ∷ []))
unfolding computing space conjunction settings settings_A row_of table_A unspoken card_A same_length same_answer reads plus fails was number_before before answered_by total_by slip fold_number folded
was_before = tt
