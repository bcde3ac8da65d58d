-- A table that passes its check in one form, with names that another form has room for, passes it there, and every name finds there what it
-- found. Assumes nothing.
use Rattle.std.specs.Prelude.{◌≡◌, List, ℕ, zero, suc, ◌+◌, ◌<◌, length, Some}
use Rattle.std.proofs.Math.Path.{ap}
use Rattle.std.proofs.Common.{◌∙◌, arith}
use Rattle.std.proofs.Math.Nat.{div-add-mod'}
use Rattle.rules.specs.declared.Refusal.{Refusal}
use Rattle.rules.specs.declared.Settings.{Settings}
use Rattle.rules.specs.Common.{same}
use Rattle.rules.specs.NumbersHandedBack.{got}
use Rattle.rules.specs.SettingsAndUnitTable.{row_size_in, rows_in, row_in, name, product_in, units_check_in, numerals_check_in, lookup_from_in, lookup_in}
use Rattle.rules.proofs.Laws.Choices.{if_either}
use Rattle.moves.specs.NamesLongerThanSixteenBytes.{moved_row}
use Rattle.moved.proofs.Rows.{moved_back}
use Rattle.moved.specs.Pieces.{appended, appended_same, pieces_of}
use Rattle.moved.specs.Tables.{moved_table, AllMovable}
use Rattle.moved.proofs.Tables.{same_rows, row_moved, row_product, same_lookup}
use Rattle.moved.proofs.Checks.{same_units_check, same_numerals_check}
use Rattle.moved.specs.StandingTables.{TableStands, NamesFit, units_stand, numerals_stand}
use Rattle.moved.proofs.StandingTables.{all_movable}

-- a row that is found is one of those that were looked at
found_below : (room : ℕ) (table wanted : List ℕ) {k : ℕ} (n i : ℕ) → lookup_from_in room table wanted i n ≡ Some k → k < i + n
unfolding lookup_from_in
found_below room table wanted zero i = λ e. let none : ◌≡◌ {A = ℕ} 0 1 = cc in absurd (omega arith)
found_below room table wanted {k} (suc n) i =
    if_either (λ f. f ≡ Some k → k < i + suc n) (same (name (row_in room table i)) wanted)
    (λ _ e. let here : i ≡ k = cc in omega arith)
    (λ _ e. omega (arith, found_below room table wanted n (suc i) e))

module _ (from to : ℕ) (table : List ℕ) where
  module _ (t : TableStands from table) (fit : NamesFit from to table) where
    moves : AllMovable from to table
    moves = all_movable from to table t fit

    -- moved there and back it is the table
    pub table_back : moved_table to from (moved_table from to table) ≡ table
    unfolding moved_table rows_in row_in
    table_back =
        ap (appended (λ i. moved_row to from (row_in to (moved_table from to table) i))) (same_rows from to table moves)
        ∙ appended_same _ (row_in from table) (rows_in from table) (λ k h. ap (moved_row to from) (row_moved from to table moves k h) ∙ moved_back from to (row_in from table k) (moves k h))
        ∙ pieces_of (row_size_in from) (rows_in from table) table (omega (arith, div-add-mod' (length table) (row_size_in from), t.whole))

    pub lookup_there : (wanted : List ℕ) → lookup_in to (moved_table from to table) wanted ≡ lookup_in from table wanted
    lookup_there wanted = same_lookup from to table moves wanted

    -- the row that a name finds has the same multiplier
    pub multiplier_there : (wanted : List ℕ) {i : ℕ} → lookup_in from table wanted ≡ Some i → product_in to (row_in to (moved_table from to table) i) ≡ product_in from (row_in from table i)
    unfolding lookup_in
    multiplier_there wanted {i} e = row_product from to table moves i (omega (arith, found_below from table wanted (rows_in from table) 0 e))

  -- ---- what passed passes

  pub units_accepted : (size : Refusal) (bad : ℕ → Refusal) (s : Settings) → units_check_in from size bad s table ≡ got tt → NamesFit from to table → units_check_in to size bad s (moved_table from to table) ≡ got tt
  units_accepted size bad s e fit =
      let t : TableStands from table = units_stand from table size bad s e in
      same_units_check from to table (all_movable from to table t fit) t.whole size bad s ∙ e

  pub numerals_accepted : numerals_check_in from table ≡ got tt → NamesFit from to table → numerals_check_in to (moved_table from to table) ≡ got tt
  numerals_accepted e fit =
      let t : TableStands from table = numerals_stand from table e in
      same_numerals_check from to table (all_movable from to table t fit) t.whole ∙ e
