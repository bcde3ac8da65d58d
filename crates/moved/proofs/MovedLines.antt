-- A line that moves: the row that it stores moves. Assumes nothing.
use Rattle.std.specs.Prelude.{◌≡◌, ℕ}
use Rattle.std.proofs.Math.Bool.{true}
use mathlib.Core.List.{List}
use borrow.Author.Tests.{leb-true}
use Rattle.rules.specs.SettingsAndUnitTable.{name_size}
use Rattle.rules.proofs.Laws.Choices.{and_left, and_right}
use Rattle.stored.specs.Lines.{restored_in}
use Rattle.stored.specs.Laws.{length_restored}
use Rattle.moves.specs.NamesLongerThanSixteenBytes.{line_stands}
use Rattle.moves.specs.Laws.Moves.{line_moves}
use Rattle.moved.specs.Rows.{Movable}
use Rattle.moved.specs.MovedLines.{moves_accepted}

module _ (from to : ℕ) where
  module _ (line : List ℕ) (e : line_moves from to line ≡ true) where
    pub moves_movable : Movable from to (restored_in from line)
    unfolding line_moves line_stands
    moves_movable = record {
      whole = length_restored from line (moves_accepted from to line e);
      stands = search (and_left, and_right);
      fits = leb-true (name_size (restored_in from line)) to (search (and_left, and_right));
    }
