-- A table's stored lines, moved, are the moved table's stored lines. Assumes nothing.
use Rattle.std.specs.Prelude.{◌≡◌, List, length}
use Rattle.std.proofs.Math.Path.{refl, ap}
use Rattle.std.proofs.Common.{sym, ◌∙◌}
use Prim.Native.Nat.{ℕ, zero, suc, ◌*◌, ◌≤◌, ◌<◌, zero-le, suc-le-suc}
use Rattle.rules.specs.NumbersHandedBack.{got, ◌>>=◌}
use Rattle.rules.specs.SettingsAndUnitTable.{row_size_in, rows_in, row_in, stored}
use Rattle.rules.specs.Laws.Lists.{Bytes}
use Rattle.words.specs.LowFirst.{bytes_part}
use Rattle.stored.specs.Lines.{line_size_in}
use Rattle.moves.specs.NamesLongerThanSixteenBytes.{lines, moved_row, move_lines, moving}
use Rattle.moved.specs.Rows.{Movable}
use Rattle.moved.proofs.Rows.{moved_whole}
use Rattle.moved.specs.Lines.{stored_first}
use Rattle.moved.specs.MovedLines.{length_stored}
use Rattle.moves.proofs.Laws.Moves.{line_got, enough}
use Rattle.moved.proofs.StoredRows.{stored_moves, stored_moved}
use Rattle.moved.specs.Pieces.{appended, appended_same, length_appended}
use Rattle.moved.specs.Tables.{moved_table, AllMovable}
use Rattle.moved.proofs.Tables.{same_rows, row_moved}
use Rattle.moved.specs.StoredTables.{stored_table}

module _ (from to : ℕ) where
  stored_rows_moved :
      (row : ℕ → List ℕ) (n i : ℕ) → ((k : ℕ) → k < n → Movable from to (row k)) → ((k : ℕ) → Bytes (row k))
      → move_lines from to i (lines (appended (λ k. stored (row k)) n)) ≡ got (appended (λ k. stored (moved_row from to (row k))) n)
  unfolding appended lines move_lines ◌>>=◌
  stored_rows_moved row zero i m b = refl
  stored_rows_moved row (suc n) i m b =
      let first : Movable from to (row 0) = m 0 (suc-le-suc zero-le) in
      rw (
        stored_first (row 0) (appended (λ k. stored (row (suc k))) n),
        line_got from to i (stored (row 0)) (stored_moves from to (row 0) first (b 0)),
        stored_moved from to (row 0) first (b 0),
        stored_rows_moved (λ k. row (suc k)) n (suc i) (λ k h. m (suc k) (suc-le-suc h)) (λ k. b (suc k)),
      )

  module _ (table : List ℕ) (m : AllMovable from to table) where
    stored_there : appended (λ i. stored (moved_row from to (row_in from table i))) (rows_in from table) ≡ stored_table to (moved_table from to table)
    unfolding stored_table
    stored_there = rw (same_rows from to table m) (appended_same _ _ (rows_in from table) (λ k h. ap stored (sym (row_moved from to table m k h))))

    length_there : length (stored_table to (moved_table from to table)) ≡ rows_in from table * line_size_in to
    length_there =
        ap length (sym stored_there)
        ∙ length_appended (line_size_in to) _ (rows_in from table) (λ k h. length_stored to (moved_row from to (row_in from table k)) (moved_whole from to (row_in from table k) (m k h)))

    pub stored_table_moved : Bytes table → (target : List ℕ) → rows_in from table * line_size_in to ≤ length target → moving from to (stored_table from table) target ≡ got (stored_table to (moved_table from to table))
    unfolding stored_table row_in
    stored_table_moved b target room =
        enough from to (stored_table from table) target (stored_table to (moved_table from to table))
        (stored_rows_moved (row_in from table) (rows_in from table) 0 m (λ k. bytes_part table (row_size_in from) (row_size_in from * k) b) ∙ ap got stored_there)
        (rw length_there room)
