-- A line that moves: it is a row stored, and the row moves. Assumes nothing.
use Rattle.std.specs.Prelude.{◌≡◌, ℕ, ◌*◌, ◌≤◌, length}
use Rattle.std.proofs.Common.{◌∙◌}
use Rattle.std.proofs.Math.Bool.{true}
use mathlib.Core.List.{List, [], ◌∷◌, map, flatten}
use native.Mathlib.Omega.{arith}
use Rattle.std.proofs.Math.ListN.{length-append}
use borrow.Author.Tests.{le-leb}
use Rattle.rules.specs.Common.{all}
use Rattle.rules.specs.SettingsAndUnitTable.{row_size_in, name_size, stored, two_digits}
use Rattle.rules.proofs.Laws.Choices.{and_right, and_both, all_first, all_others, all_weaken}
use Rattle.stored.specs.Lines.{line_size_in, line_accepted_in, restored_in}
use Rattle.stored.specs.Laws.{length_two_digits}
use Rattle.moves.specs.NamesLongerThanSixteenBytes.{row_stands, line_stands}
use Rattle.moves.proofs.Laws.Digits.{moved_long}
use Rattle.moves.specs.Laws.Moves.{line_moves, moved_line}
use Rattle.moves.proofs.Laws.Moves.{stands_accepted, moves_stand, moves_small, moves_fit}
use Rattle.moved.specs.Standing.{name_within}

unfoldable pub moved_lines : ℕ → ℕ → List (List ℕ) → List ℕ
moved_lines from to ls = flatten (map (moved_line from to) ls)

pub length_stored : (room : ℕ) (r : List ℕ) → length r ≡ row_size_in room → length (stored r) ≡ line_size_in room
unfolding stored
length_stored room r whole = length-append (two_digits r) (10 ∷ []) ∙ omega (arith, length_two_digits r, whole)

module _ (from to : ℕ) where
  module _ (line : List ℕ) (e : line_moves from to line ≡ true) where
    pub moves_accepted : line_accepted_in from line ≡ true
    moves_accepted = stands_accepted from line (moves_stand from to line e)

    length_moved : length (moved_line from to line) ≡ line_size_in to
    unfolding moved_line
    length_moved = moved_long from line moves_accepted to (moves_small from to line e) (moves_fit from to line e)

  pub length_moved_lines : (ls : List (List ℕ)) → all (line_moves from to) ls ≡ true → length (moved_lines from to ls) ≡ length ls * line_size_in to
  unfolding moved_lines flatten
  length_moved_lines [] e = omega arith
  length_moved_lines (line ∷ more) e =
      let here = length_moved line (all_first (line_moves from to) line more e) in
      let others = length_moved_lines more (all_others (line_moves from to) line more e) in
      length-append (moved_line from to line) (moved_lines from to more) ∙ omega (arith, here, others)

  -- where the room is no smaller, a line that stands has a name that fits
  pub larger_moves : from ≤ to → (ls : List (List ℕ)) → all (line_stands from) ls ≡ true → all (line_moves from to) ls ≡ true
  unfolding line_moves line_stands
  larger_moves larger ls e =
      all_weaken (line_stands from) (line_moves from to)
      (λ line stands. and_both stands (le-leb (name_size (restored_in from line)) to (omega (arith, name_within from (restored_in from line) (line_row line stands)))))
      ls e
    where
      line_row : (line : List ℕ) → line_stands from line ≡ true → row_stands from (restored_in from line) ≡ true
      line_row line stands = and_right (line_accepted_in from line) (row_stands from (restored_in from line)) stands
