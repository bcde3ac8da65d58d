-- A table moved row by row: as many rows, each of them the moved row, and the same lookups. Assumes nothing.
use Rattle.std.specs.Prelude.{List}
use Prim.Native.Nat.{ℕ, ◌<◌}
use Rattle.rules.specs.SettingsAndUnitTable.{rows_in, row_in}
use Rattle.moves.specs.NamesLongerThanSixteenBytes.{moved_row}
use Rattle.moved.specs.Rows.{Movable}
use Rattle.moved.specs.Pieces.{appended}

unfoldable pub moved_table : ℕ → ℕ → List ℕ → List ℕ
moved_table from to table = appended (λ i. moved_row from to (row_in from table i)) (rows_in from table)

-- each row of the table moves
abbrev pub AllMovable : ℕ → ℕ → List ℕ → Type 0
AllMovable from to table = (i : ℕ) → i < rows_in from table → Movable from to (row_in from table i)
