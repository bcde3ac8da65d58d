-- The two forms of request eight, whose rows have a room of 16 bytes and of 32: what the theorems over any two rooms say of them. From the old
-- form every name fits. Assumes nothing.
use Rattle.std.specs.Prelude.{◌≡◌, true, List, ℕ, ◌*◌, ◌≤◌, length, Some}
use Rattle.std.proofs.Common.{arith}
use Rattle.rules.specs.declared.Refusal.{Refusal}
use Rattle.rules.specs.declared.Settings.{Settings}
use Rattle.rules.specs.ThePartOfTheCrateWeTake.{zero_length}
use Rattle.rules.specs.Common.{all}
use Rattle.rules.specs.NumbersHandedBack.{got, done}
use Rattle.rules.specs.SettingsAndUnitTable.{old_room, name_room, rows_in, row_in, row, product_in, product, units_check_in, units_check, numerals_check_in, numerals_check, lookup_in, lookup}
use Rattle.rules.specs.Laws.Lists.{Bytes}
use Rattle.stored.specs.Lines.{line_size_in}
use Rattle.moves.specs.NamesLongerThanSixteenBytes.{lines, line_stands, moving, to_new_answer, new_target, to_old_answer, old_target}
use Rattle.moves.specs.Laws.Moves.{line_moves}
use Rattle.moved.specs.MovedLines.{moved_lines, larger_moves}
use Rattle.moved.specs.Accepted.{moving_got}
use Rattle.moved.proofs.ThereAndBack.{there_and_back}
use Rattle.moved.specs.Tables.{moved_table}
use Rattle.moved.specs.StandingTables.{TableStands, NamesFit, units_stand, numerals_stand, fit_larger}
use Rattle.moved.proofs.StandingTables.{all_movable}
use Rattle.moved.proofs.AcceptedTables.{table_back, lookup_there, multiplier_there, units_accepted, numerals_accepted}
use Rattle.moved.specs.StoredTables.{stored_table}
use Rattle.moved.proofs.StoredTables.{stored_table_moved}
use Rattle.moved.specs.HandedBack.{written}
use Rattle.moved.proofs.HandedBack.{there_and_back_written}

-- ---- there and back

module _ (source target back_target : List ℕ) (room : length source ≤ length back_target) where
  pub to_new_and_back : {there : List ℕ} → moving old_room name_room source target ≡ got there → moving name_room old_room there back_target ≡ got source
  to_new_and_back e = there_and_back old_room name_room source target back_target e room

  pub to_old_and_back : {there : List ℕ} → moving name_room old_room source target ≡ got there → moving old_room name_room there back_target ≡ got source
  to_old_and_back e = there_and_back name_room old_room source target back_target e room

  -- as the entries hand it back
  pub to_new_and_back_written :
      (to_new_answer source target).number ≡ 0
      → let there = written (to_new_answer source target) (new_target source target) in
      (to_old_answer there back_target ≡ done (length source) zero_length) × (written (to_old_answer there back_target) (old_target there back_target) ≡ source)
  unfolding to_new_answer new_target to_old_answer old_target
  to_new_and_back_written e = there_and_back_written old_room name_room source target back_target e room

  pub to_old_and_back_written :
      (to_old_answer source target).number ≡ 0
      → let there = written (to_old_answer source target) (old_target source target) in
      (to_new_answer there back_target ≡ done (length source) zero_length) × (written (to_new_answer there back_target) (new_target there back_target) ≡ source)
  unfolding to_new_answer new_target to_old_answer old_target
  to_old_and_back_written e = there_and_back_written name_room old_room source target back_target e room

-- ---- none that is right is refused

module _ (source target : List ℕ) where
  pub to_new_got : all (line_stands old_room) (lines source) ≡ true → length (lines source) * line_size_in name_room ≤ length target → moving old_room name_room source target ≡ got (moved_lines old_room name_room (lines source))
  to_new_got right room = moving_got old_room name_room source target (larger_moves old_room name_room (omega arith) (lines source) right) room

  pub to_old_got : all (line_moves name_room old_room) (lines source) ≡ true → length (lines source) * line_size_in old_room ≤ length target → moving name_room old_room source target ≡ got (moved_lines name_room old_room (lines source))
  to_old_got right room = moving_got name_room old_room source target right room

-- ---- tables, to the new form

module _ (table : List ℕ) where
  pub new_fit : TableStands old_room table → NamesFit old_room name_room table
  new_fit t = fit_larger old_room name_room table t (omega arith)

  -- what the old form accepted the new accepts
  pub new_units : (size : Refusal) (bad : ℕ → Refusal) (s : Settings) → units_check_in old_room size bad s table ≡ got tt → units_check size bad s (moved_table old_room name_room table) ≡ got tt
  new_units size bad s e = units_accepted old_room name_room table size bad s e (new_fit (units_stand old_room table size bad s e))

  pub new_numerals : numerals_check_in old_room table ≡ got tt → numerals_check (moved_table old_room name_room table) ≡ got tt
  new_numerals e = numerals_accepted old_room name_room table e (new_fit (numerals_stand old_room table e))

  module _ (t : TableStands old_room table) where
    -- every name finds the same multiplier
    pub new_lookup : (wanted : List ℕ) → lookup (moved_table old_room name_room table) wanted ≡ lookup_in old_room table wanted
    new_lookup = lookup_there old_room name_room table t (new_fit t)

    pub new_multiplier : (wanted : List ℕ) {i : ℕ} → lookup_in old_room table wanted ≡ Some i → product (row (moved_table old_room name_room table) i) ≡ product_in old_room (row_in old_room table i)
    new_multiplier = multiplier_there old_room name_room table t (new_fit t)

    pub new_table_back : moved_table name_room old_room (moved_table old_room name_room table) ≡ table
    new_table_back = table_back old_room name_room table t (new_fit t)

    pub new_stored : Bytes table → (target : List ℕ) → rows_in old_room table * line_size_in name_room ≤ length target → moving old_room name_room (stored_table old_room table) target ≡ got (stored_table name_room (moved_table old_room name_room table))
    new_stored = stored_table_moved old_room name_room table (all_movable old_room name_room table t (new_fit t))

-- ---- and to the old form, for names of at most 16 bytes

module _ (table : List ℕ) (fit : NamesFit name_room old_room table) where
  pub old_units : (size : Refusal) (bad : ℕ → Refusal) (s : Settings) → units_check size bad s table ≡ got tt → units_check_in old_room size bad s (moved_table name_room old_room table) ≡ got tt
  old_units size bad s e = units_accepted name_room old_room table size bad s e fit

  pub old_numerals : numerals_check table ≡ got tt → numerals_check_in old_room (moved_table name_room old_room table) ≡ got tt
  old_numerals e = numerals_accepted name_room old_room table e fit

  module _ (t : TableStands name_room table) where
    pub old_lookup : (wanted : List ℕ) → lookup_in old_room (moved_table name_room old_room table) wanted ≡ lookup table wanted
    old_lookup = lookup_there name_room old_room table t fit

    pub old_multiplier : (wanted : List ℕ) {i : ℕ} → lookup table wanted ≡ Some i → product_in old_room (row_in old_room (moved_table name_room old_room table) i) ≡ product (row table i)
    old_multiplier = multiplier_there name_room old_room table t fit

    pub old_table_back : moved_table old_room name_room (moved_table name_room old_room table) ≡ table
    old_table_back = table_back name_room old_room table t fit

    pub old_stored : Bytes table → (target : List ℕ) → rows_in name_room table * line_size_in old_room ≤ length target → moving name_room old_room (stored_table name_room table) target ≡ got (stored_table old_room (moved_table name_room old_room table))
    old_stored = stored_table_moved name_room old_room table (all_movable name_room old_room table t fit)
