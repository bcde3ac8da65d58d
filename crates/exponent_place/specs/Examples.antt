-- The wrong digit of texts of the request, computed. Assumes nothing.
use Rattle.std.specs.Prelude.{refl, true, false}
use Rattle.std.proofs.Common.{lit≤}
use Rattle.rules.specs.Common.{ascii}
use Rattle.rules.specs.Computing.{computing}
use Rattle.rules.specs.CardAAndItsReadings.{space, conjunction, settings, settings_A, row_of, table_A, unspoken, card_A}
use Rattle.handed_back.specs.TheStepsOfAPart.{begins, to_number, to_exponent}
use Rattle.handed_back.specs.WhatIsRead.{Reached, at_first, behind}
use Rattle.exponent_place.specs.TheWrongDigit.{minus_behind, first_digit, power_before, WrongDigit}

-- `1e-0032769`: the power before the last digit is 3276
pub behind_zeros : WrongDigit card_A (ascii "1e-0032769") 0 true 9
unfolding computing space conjunction settings settings_A row_of table_A unspoken card_A minus_behind first_digit power_before
behind_zeros = record {
  e = 1;
  comes = to_exponent (to_number (begins refl) refl refl) refl;
  exponents_on = refl;
  sign = refl;
  passed = record { letter = refl; from_first = lit≤ tt; digit = lit≤ tt; before = lit≤ tt; with_it = lit≤ tt };
}

-- `1s 1e99999s`: the part behind the first begins at 3, and its fifth digit stands at 9
pub in_a_later_part : Reached card_A (ascii "1s 1e99999s") 3 × WrongDigit card_A (ascii "1s 1e99999s") 3 false 9
unfolding computing space conjunction settings settings_A row_of table_A unspoken card_A minus_behind first_digit power_before
in_a_later_part = (
  behind at_first refl refl,
  record {
    e = 4;
    comes = to_exponent (to_number (begins refl) refl refl) refl;
    exponents_on = refl;
    sign = refl;
    passed = record { letter = refl; from_first = lit≤ tt; digit = lit≤ tt; before = lit≤ tt; with_it = lit≤ tt };
  },
)
