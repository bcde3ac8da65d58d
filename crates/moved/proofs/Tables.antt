-- A table moved row by row: as many rows, each of them the moved row, and the same lookups. Assumes nothing.
use Rattle.std.specs.Prelude.{◌≡◌, List, length}
use Rattle.std.proofs.Math.Path.{refl, ap}
use Rattle.std.proofs.Common.{◌∙◌, arith}
use Prim.Native.Nat.{ℕ, zero, suc, ◌+◌, ◌*◌, ◌/◌, ◌≤◌, ◌<◌}
use Rattle.std.proofs.Math.Nat.{mul-div_cancel}
use Rattle.rules.specs.SettingsAndUnitTable.{row_size_in, rows_in, row_in, name, product_in, named_in, lookup_from_in, lookup_in}
use Rattle.moves.specs.NamesLongerThanSixteenBytes.{moved_row}
use Rattle.moved.proofs.Rows.{moved_whole, same_name, same_product}
use Rattle.moved.specs.Pieces.{length_appended, piece_at}
use Rattle.moved.specs.Tables.{moved_table, AllMovable}

module _ (from to : ℕ) (table : List ℕ) (m : AllMovable from to table) where
  sized : (i : ℕ) → i < rows_in from table → length (moved_row from to (row_in from table i)) ≡ row_size_in to
  sized i h = moved_whole from to (row_in from table i) (m i h)

  pub length_moved_table : length (moved_table from to table) ≡ rows_in from table * row_size_in to
  unfolding moved_table
  length_moved_table = length_appended (row_size_in to) (λ i. moved_row from to (row_in from table i)) (rows_in from table) sized

  -- as many rows
  pub same_rows : rows_in to (moved_table from to table) ≡ rows_in from table
  unfolding rows_in
  same_rows = ap (λ n. n / row_size_in to) length_moved_table ∙ mul-div_cancel (rows_in from table) (omega arith)

  -- and each of them moved
  module _ (i : ℕ) (h : i < rows_in from table) where
    pub row_moved : row_in to (moved_table from to table) i ≡ moved_row from to (row_in from table i)
    unfolding row_in moved_table
    row_moved = piece_at (row_size_in to) (λ k. moved_row from to (row_in from table k)) (rows_in from table) i sized h

    pub row_name : name (row_in to (moved_table from to table) i) ≡ name (row_in from table i)
    row_name = ap name row_moved ∙ same_name from to (row_in from table i) (m i h)

    pub row_product : product_in to (row_in to (moved_table from to table) i) ≡ product_in from (row_in from table i)
    row_product = ap (product_in to) row_moved ∙ same_product from to (row_in from table i) (m i h)

  -- ---- names

  pub same_named : (wanted : List ℕ) (n : ℕ) → n ≤ rows_in from table → named_in to (moved_table from to table) wanted n ≡ named_in from table wanted n
  unfolding named_in
  same_named wanted zero most = refl
  same_named wanted (suc n) most = rw (row_name n most, same_named wanted n (omega arith))

  same_lookup_from : (wanted : List ℕ) (n i : ℕ) → i + n ≤ rows_in from table → lookup_from_in to (moved_table from to table) wanted i n ≡ lookup_from_in from table wanted i n
  unfolding lookup_from_in
  same_lookup_from wanted zero i most = refl
  same_lookup_from wanted (suc n) i most = rw (row_name i (omega arith), same_lookup_from wanted n (suc i) (omega arith))

  -- every name finds the row of the same number, or none in either
  pub same_lookup : (wanted : List ℕ) → lookup_in to (moved_table from to table) wanted ≡ lookup_in from table wanted
  unfolding lookup_in
  same_lookup wanted = rw same_rows (same_lookup_from wanted (rows_in from table) 0 (omega arith))
