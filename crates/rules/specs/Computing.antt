-- For tests that antt computes: whoever says `unfolding computing` unfolds all definitions of document 01. Assumes nothing.
use Rattle.std.proofs.Math.Bool.{xor}
use Rattle.rules.specs.Common.{when◌then◌else◌, ascii, between, all, runs, same, ends, starts, sees, front, run}
use Rattle.rules.specs.ThePartOfTheCrateWeTake.{zero_length, largest, size, well_formed}
use Rattle.rules.specs.SettingsAndUnitTable.{class, is, is_next_duration, lower, word, holds, may_delimit, delimits, delimiters_accepted, empty, low_bytes, letters_of, conjunctions_of, conjunction_accepted, conjunctions_accepted, kind_coefficients, kind_downs, kind_multiplier, settings_check, rows_in, row_in, name_size, name, after_name_in, kind_in, low_first, coefficient_field_in, power_field_in, below_zero, magnitude, row_multiplier_in, times, product_in, in_range, may_name, named_in, led_by_e, e_may_lead, can_be_typed, row_formed_in, row_right_in, row_accepted_in, numeral_accepted_in, whole_rows_in, rows_check, units_check_in, table_check, line_check, numerals_check_in, card_check, lookup_from_in, lookup_in, line_first, stands, held_row, find_row, hexadecimal, two_digits, stored}
use Rattle.rules.specs.NumbersHandedBack.{◌>>=◌, ◌>>◌, unless, number, position, done, refusal, answered}
use Rattle.rules.specs.ReadingOnePart.{same_letter, prefix, says, delimiters, gap, sign_step, fraction_step, number_step, exponent_limit, exponent_passed, exponent_digits, exponent_number, exponent_step, in_stretch, closes_unit, negated, ago_step, find_unit, unit_found, unit_step, numeral_end, numeral_found, numeral_step, spoken_unit_found, spoken_unit_step, conjunction_size, after_conjunction, conjunction_step, connection, closes_infinity, letters_step, infinity_closed, infinity_step, infinite_part, finite_part, spoken_part, unsigned_part, part}
use Rattle.rules.specs.Evaluation.{spelled, digits_of, up, down, attos, nanos, length_of, evaluate, multiplied, spoken_multiplier, worth, evaluate_spoken, evaluated, allowed, part_reading, sum, sum_all, parts, total}
use Rattle.rules.specs.WriterAndShiftTotal.{decimals, no_leading_zeros, before_zeros, no_trailing_zeros, sign_byte, whole_digits, fraction_digits, written_fraction, written, writing, buffer_after, shifting, record_after}
use Rattle.rules.specs.WhatEveryEntryOwes.{read_part, part_answer, read_total, total_answer, write_answer, written_buffer, add_total, shift_answer, shifted_record}

unfoldable pub computing : Unit {0}
unfolding xor when◌then◌else◌ ascii between all runs same ends starts sees front run zero_length largest size well_formed class is is_next_duration lower word holds may_delimit delimits delimiters_accepted empty low_bytes letters_of conjunctions_of conjunction_accepted conjunctions_accepted kind_coefficients kind_downs kind_multiplier settings_check rows_in row_in name_size name after_name_in kind_in low_first coefficient_field_in power_field_in below_zero magnitude row_multiplier_in times product_in in_range may_name named_in led_by_e e_may_lead can_be_typed row_formed_in row_right_in row_accepted_in numeral_accepted_in whole_rows_in rows_check units_check_in table_check line_check numerals_check_in card_check lookup_from_in lookup_in line_first stands held_row find_row hexadecimal two_digits stored ◌>>=◌ ◌>>◌ unless number position done refusal answered same_letter prefix says delimiters gap sign_step fraction_step number_step exponent_limit exponent_passed exponent_digits exponent_number exponent_step in_stretch closes_unit negated ago_step find_unit unit_found unit_step numeral_end numeral_found numeral_step spoken_unit_found spoken_unit_step conjunction_size after_conjunction conjunction_step connection closes_infinity letters_step infinity_closed infinity_step infinite_part finite_part spoken_part unsigned_part part spelled digits_of up down attos nanos length_of evaluate multiplied spoken_multiplier worth evaluate_spoken evaluated allowed part_reading sum sum_all parts total decimals no_leading_zeros before_zeros no_trailing_zeros sign_byte whole_digits fraction_digits written_fraction written writing buffer_after shifting record_after read_part part_answer read_total total_answer write_answer written_buffer add_total shift_answer shifted_record
computing = tt
