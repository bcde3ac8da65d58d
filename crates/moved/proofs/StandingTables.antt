-- Of a table whose rows stand, those with names that fit move. Assumes nothing.
use Rattle.std.specs.Prelude.{◌≡◌, List}
use Prim.Native.Nat.{ℕ, suc, ◌*◌, ◌≤◌, ◌<◌}
use Rattle.std.proofs.Common.{le-div_iff_mul-le, arith, length-take, length-drop}
use Rattle.std.proofs.Math.ListN.{length}
use Rattle.rules.specs.SettingsAndUnitTable.{row_size_in, rows_in, row_in}
use Rattle.moved.specs.Tables.{AllMovable}
use Rattle.moved.specs.StandingTables.{TableStands, NamesFit}

module _ (room : ℕ) (table : List ℕ) where
  row_whole : (i : ℕ) → i < rows_in room table → length (row_in room table i) ≡ row_size_in room
  unfolding row_in rows_in
  row_whole i h =
      let within : suc i * row_size_in room ≤ length table = (le-div_iff_mul-le {k = row_size_in room} (omega arith)).0 h in
      simp (length-take, length-drop) (omega arith)

-- ---- rows that move

module _ (from to : ℕ) (table : List ℕ) (t : TableStands from table) where
  pub all_movable : NamesFit from to table → AllMovable from to table
  all_movable fit i h = record { whole = row_whole from table i h; stands = t.each i h; fits = fit i h }
