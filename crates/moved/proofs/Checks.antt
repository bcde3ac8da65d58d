-- A table whose rows all move is checked in the other form as in its own, row by row and as a whole. Assumes nothing.
use Rattle.std.specs.Prelude.{◌≡◌, Bool}
use Rattle.std.proofs.Math.Path.{ap}
use Rattle.std.proofs.Common.{◌∙◌, arith}
use mathlib.Core.List.{List}
use Prim.Native.Nat.{ℕ, ◌%◌, ◌<◌}
use Rattle.std.proofs.Math.Nat.{mul-mod_left}
use Rattle.std.proofs.Math.ListN.{length}
use borrow.Author.Tests.{eq-eqb}
use Rattle.rules.specs.declared.Refusal.{Refusal}
use Rattle.rules.specs.declared.Settings.{Settings}
use Rattle.rules.specs.SettingsAndUnitTable.{row_size_in, rows_in, row_in, name, row_formed_in, row_right_in, row_accepted_in, numeral_accepted_in, whole_rows_in, units_check_in, numerals_check_in}
use Rattle.rules.proofs.Laws.RowsCheck.{rows_alike}
use Rattle.moves.specs.NamesLongerThanSixteenBytes.{moved_row}
use Rattle.moved.specs.Standing.{stands_sized, stands_after, stands_end}
use Rattle.moved.proofs.Rows.{moved_stands, same_name, same_kind, same_product}
use Rattle.moved.specs.Tables.{moved_table, AllMovable}
use Rattle.moved.proofs.Tables.{length_moved_table, same_rows, row_moved, row_name, same_named}

module _ (from to : ℕ) (table : List ℕ) (m : AllMovable from to table) where
  module _ (i : ℕ) (h : i < rows_in from table) where
    pub same_formed : (of_kind of_name : ℕ → Bool) → row_formed_in to of_kind of_name (moved_table from to table) i ≡ row_formed_in from of_kind of_name table i
    unfolding row_formed_in
    same_formed of_kind of_name =
        let r : List ℕ = row_in from table i in
        let there = moved_stands from to r (m i h) in
        rw (
          row_moved from to table m i h,
          stands_sized to (moved_row from to r) there,
          stands_after to (moved_row from to r) there,
          stands_end to (moved_row from to r) there,
          stands_sized from r (m i h).stands,
          stands_after from r (m i h).stands,
          stands_end from r (m i h).stands,
          same_kind from to r (m i h),
          same_name from to r (m i h),
          same_product from to r (m i h),
          same_named from to table m (name r) i (omega arith),
        )

    pub same_accepted : (s : Settings) → row_accepted_in to s (moved_table from to table) i ≡ row_accepted_in from s table i
    unfolding row_accepted_in row_right_in
    same_accepted s = rw (same_formed _ _, row_name from to table m i h)

    pub same_numeral : numeral_accepted_in to (moved_table from to table) i ≡ numeral_accepted_in from table i
    unfolding numeral_accepted_in
    same_numeral = same_formed _ _

  -- ---- whole tables

  module _ (whole : length table % row_size_in from ≡ 0) where
    same_whole : (most : ℕ) → whole_rows_in to most (moved_table from to table) ≡ whole_rows_in from most table
    unfolding whole_rows_in
    same_whole most =
        let there : length (moved_table from to table) % row_size_in to ≡ 0 =
        ap (λ n. n % row_size_in to) (length_moved_table from to table m) ∙ mul-mod_left (rows_in from table) (row_size_in to)
        in
        rw (eq-eqb (length (moved_table from to table) % row_size_in to) 0 there, eq-eqb (length table % row_size_in from) 0 whole, same_rows from to table m)

    pub same_units_check : (size : Refusal) (bad : ℕ → Refusal) (s : Settings) → units_check_in to size bad s (moved_table from to table) ≡ units_check_in from size bad s table
    unfolding units_check_in
    same_units_check size bad s =
        rw (
          same_whole,
          same_rows from to table m,
          rows_alike (row_accepted_in to s (moved_table from to table)) (row_accepted_in from s table) bad (rows_in from table) (λ k below. same_accepted k below s),
        )

    pub same_numerals_check : numerals_check_in to (moved_table from to table) ≡ numerals_check_in from table
    unfolding numerals_check_in
    same_numerals_check =
        rw (
          same_whole,
          same_rows from to table m,
          rows_alike (numeral_accepted_in to (moved_table from to table)) (numeral_accepted_in from table) _ (rows_in from table) same_numeral,
        )
