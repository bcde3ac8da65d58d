-- For tests that antt computes: whoever says `unfolding computing_moves` unfolds the definitions of this crate, of stored lines and of document 01.
-- Assumes nothing.
use Rattle.rules.specs.Computing.{computing}
use Rattle.stored.specs.Lines.{digit_value, spells, paired, line_accepted_in, restored_in}
use Rattle.moves.specs.NamesLongerThanSixteenBytes.{with_byte, lines, row_stands, line_stands, moved_row, move_line, move_lines, moving, move_answer, written_over, moved_target, to_new_answer, new_target, to_old_answer, old_target}

unfoldable pub computing_moves : Unit {0}
unfolding computing digit_value spells paired line_accepted_in restored_in with_byte lines row_stands line_stands moved_row move_line move_lines moving move_answer written_over moved_target to_new_answer new_target to_old_answer old_target
computing_moves = tt
