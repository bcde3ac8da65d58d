-- A table that passes its check has whole rows, and each of them stands; those with names that fit move. Assumes nothing.
use Rattle.std.specs.Prelude.{◌≡◌, Bool, true, List, eqb, leb}
use Prim.Native.Nat.{ℕ, ◌%◌, ◌≤◌, ◌<◌}
use Rattle.std.proofs.Common.{arith}
use Rattle.std.proofs.Math.ListN.{length}
use borrow.Author.Tests.{eqb-true}
use Rattle.rules.specs.declared.Refusal.{Refusal}
use Rattle.rules.specs.declared.Refusal.TheVariants.{NumeralsSize, BadNumeral}
use Rattle.rules.specs.declared.Settings.{Settings}
use Rattle.rules.specs.NumbersHandedBack.{got}
use Rattle.rules.specs.SettingsAndUnitTable.{row_size_in, rows_in, row_in, name_size, name, most_rows, most_numerals, can_be_typed, rows_check, row_formed_in, row_right_in, row_accepted_in, numeral_accepted_in, whole_rows_in, units_check_in, numerals_check_in}
use Rattle.rules.proofs.Laws.Choices.{and_left, and_right}
use Rattle.rules.proofs.Laws.Outcomes.{passed}
use Rattle.rules.proofs.Laws.RowsCheck.{rows_good}
use Rattle.moves.specs.NamesLongerThanSixteenBytes.{row_stands}
use Rattle.moved.specs.Standing.{stands_of, name_within}

-- a table of whole rows, each of which stands
pub record TableStands (room : ℕ) (table : List ℕ) : Type 0 where
  pub whole : length table % row_size_in room ≡ 0
  pub each : (i : ℕ) → i < rows_in room table → row_stands room (row_in room table i) ≡ true

-- names that a form has room for
abbrev pub NamesFit : ℕ → ℕ → List ℕ → Type 0
NamesFit from to table = (i : ℕ) → i < rows_in from table → name_size (row_in from table i) ≤ to

-- ---- a table that passed

module _ (room : ℕ) (table : List ℕ) where
  formed_stands : (of_kind of_name : ℕ → Bool) (i : ℕ) → row_formed_in room of_kind of_name table i ≡ true → row_stands room (row_in room table i) ≡ true
  unfolding row_formed_in
  formed_stands of_kind of_name i e = stands_of room (row_in room table i) (search (and_left, and_right)) (search (and_left, and_right)) (search (and_left, and_right))

  whole_of : (most : ℕ) → whole_rows_in room most table ≡ true → length table % row_size_in room ≡ 0
  unfolding whole_rows_in
  whole_of most e = eqb-true (length table % row_size_in room) 0 (and_left (eqb (length table % row_size_in room) 0) (leb (rows_in room table) most) e)

  pub units_stand : (size : Refusal) (bad : ℕ → Refusal) (s : Settings) → units_check_in room size bad s table ≡ got tt → TableStands room table
  unfolding units_check_in row_accepted_in row_right_in
  units_stand size bad s e =
      let (sized, right) = passed size (whole_rows_in room most_rows table) (rows_check (row_accepted_in room s table) bad 0 (rows_in room table)) e in
      record {
        whole = whole_of most_rows sized;
        each = λ i h. formed_stands _ _ i (and_left (row_right_in room s table i) (can_be_typed s (name (row_in room table i))) (rows_good (row_accepted_in room s table) bad (rows_in room table) i right h));
      }

  pub numerals_stand : numerals_check_in room table ≡ got tt → TableStands room table
  unfolding numerals_check_in numeral_accepted_in
  numerals_stand e =
      let (sized, right) = passed NumeralsSize (whole_rows_in room most_numerals table) (rows_check (numeral_accepted_in room table) BadNumeral 0 (rows_in room table)) e in
      record {
        whole = whole_of most_numerals sized;
        each = λ i h. formed_stands _ _ i (rows_good (numeral_accepted_in room table) BadNumeral (rows_in room table) i right h);
      }

-- ---- rows that move

module _ (from to : ℕ) (table : List ℕ) (t : TableStands from table) where
  -- all names fit where the room is no smaller
  pub fit_larger : from ≤ to → NamesFit from to table
  fit_larger larger i h = omega (arith, name_within from (row_in from table i) (t.each i h))
