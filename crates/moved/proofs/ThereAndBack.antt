-- There and back: what is accepted in one form and moved to another is accepted there, and moved back it is the same bytes. Assumes nothing.
use Rattle.std.specs.Prelude.{◌≡◌, ℕ, ◌*◌, ◌≤◌}
use Rattle.std.proofs.Math.Path.{refl, ap}
use Rattle.std.proofs.Common.{◌∙◌, arith}
use Rattle.std.proofs.Math.Bool.{true}
use mathlib.Core.List.{List, [], ◌∷◌, map, flatten}
use Rattle.std.proofs.Math.ListN.{length}
use Rattle.rules.specs.Common.{all}
use Rattle.rules.specs.NumbersHandedBack.{got}
use Rattle.rules.specs.SettingsAndUnitTable.{stored}
use Rattle.rules.proofs.Laws.Choices.{and_both, all_first, all_others}
use Rattle.rules.specs.Laws.Lists.{Bytes}
use Rattle.stored.specs.Lines.{line_size_in, restored_in}
use Rattle.stored.specs.Laws.{stored_restored, bytes_restored}
use Rattle.moves.specs.NamesLongerThanSixteenBytes.{lines, moved_row, moving}
use Rattle.moved.specs.Rows.{Movable}
use Rattle.moved.proofs.Rows.{moved_movable, moved_back}
use Rattle.moved.specs.Lines.{lines_appended, lines_stored}
use Rattle.moves.specs.Laws.Moves.{line_moves, moved_line}
use Rattle.moved.specs.MovedLines.{moved_lines, moves_accepted, length_moved_lines}
use Rattle.moved.proofs.MovedLines.{moves_movable}
use Rattle.moved.specs.Accepted.{moving_got, moving_right, moving_gives}
use Rattle.moved.proofs.StoredRows.{bytes_moved, stored_moves, stored_moved}

module _ (from to : ℕ) where
  module _ (line : List ℕ) (e : line_moves from to line ≡ true) where
    bytes_there : Bytes (moved_row from to (restored_in from line))
    bytes_there = bytes_moved from to (restored_in from line) (bytes_restored from line (moves_accepted from to line e))

    there_movable : Movable to from (moved_row from to (restored_in from line))
    there_movable = moved_movable from to (restored_in from line) (moves_movable from to line e)

    line_moves_back : line_moves to from (moved_line from to line) ≡ true
    unfolding moved_line
    line_moves_back = stored_moves to from (moved_row from to (restored_in from line)) there_movable bytes_there

    line_back : moved_line to from (moved_line from to line) ≡ line
    unfolding moved_line
    line_back =
        stored_moved to from (moved_row from to (restored_in from line)) there_movable bytes_there
        ∙ ap stored (moved_back from to (restored_in from line) (moves_movable from to line e))
        ∙ stored_restored from line (moves_accepted from to line e)

  lines_moved : (ls : List (List ℕ)) → lines (moved_lines from to ls) ≡ map (moved_line from to) ls
  unfolding moved_lines moved_line
  lines_moved ls = lines_stored (λ line. moved_row from to (restored_in from line)) ls

  lines_move_back : (ls : List (List ℕ)) → all (line_moves from to) ls ≡ true → all (line_moves to from) (map (moved_line from to) ls) ≡ true
  unfolding all
  lines_move_back [] e = refl
  lines_move_back (line ∷ more) e =
      and_both (line_moves_back line (all_first (line_moves from to) line more e)) (lines_move_back more (all_others (line_moves from to) line more e))

  lines_back : (ls : List (List ℕ)) → all (line_moves from to) ls ≡ true → map (moved_line to from) (map (moved_line from to) ls) ≡ ls
  lines_back [] e = refl
  lines_back (line ∷ more) e =
      rw (line_back line (all_first (line_moves from to) line more e), lines_back more (all_others (line_moves from to) line more e))

  pub there_and_back :
      (source target back_target : List ℕ) {there : List ℕ}
      → moving from to source target ≡ got there
      → length source ≤ length back_target
      → moving to from there back_target ≡ got source
  unfolding moved_lines
  there_and_back source target back_target {there = there} e room =
      let right = moving_right from to source target e in
      let read : lines there ≡ map (moved_line from to) (lines source) = ap lines (moving_gives from to source target e) ∙ lines_moved (lines source) in
      let rights : all (line_moves to from) (lines there) ≡ true = rw read (lines_move_back (lines source) right) in
      let same : moved_lines to from (lines there) ≡ source =
      ap (moved_lines to from) read ∙ ap flatten (lines_back (lines source) right) ∙ lines_appended source
      in
      let long : length (lines there) * line_size_in from ≤ length back_target = omega (arith, length_moved_lines to from (lines there) rights, ap length same) in
      moving_got to from there back_target rights long ∙ ap got same
