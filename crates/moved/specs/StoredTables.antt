-- A table's stored lines, moved, are the moved table's stored lines. Assumes nothing.
use Rattle.std.specs.Prelude.{List}
use Prim.Native.Nat.{ℕ}
use Rattle.rules.specs.SettingsAndUnitTable.{rows_in, row_in, stored}
use Rattle.moved.specs.Pieces.{appended}

-- the lines of its rows
unfoldable pub stored_table : ℕ → List ℕ → List ℕ
stored_table room table = appended (λ i. stored (row_in room table i)) (rows_in room table)
