-- For tests that antt computes: whoever says `unfolding computing_iso` unfolds the definitions of this crate and of document 01. Assumes nothing.
use Rattle.rules.specs.Computing.{computing}
use Rattle.iso.specs.IsoTimings.{none, digits, is_mark, right_fraction, right_number, closes, right_after, right, letters, letter, clock_mark, spelling_after, spelling, decimals, most_decimals, seconds_of, exact, nanoseconds_of, on, kind_of, may_come, year_or_month, digit_step, after_letter, letter_step, step, may_end, read_from, components, held, read_iso, iso_answer, component, unless_zero, components_of, iso_written, writing_iso, iso_buffer_after, iso_write_answer, iso_written_buffer}

unfoldable pub computing_iso : Unit {0}
unfolding computing none digits is_mark right_fraction right_number closes right_after right letters letter clock_mark spelling_after spelling decimals most_decimals seconds_of exact nanoseconds_of on kind_of may_come year_or_month digit_step after_letter letter_step step may_end read_from components held read_iso iso_answer component unless_zero components_of iso_written writing_iso iso_buffer_after iso_write_answer iso_written_buffer
computing_iso = tt
