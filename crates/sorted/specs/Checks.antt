-- The checks one after another, as the code makes them. Assumes nothing.
use Rattle.std.specs.Prelude.{◌≡◌, refl, List, [], ℕ, ◌≤◌}
use Rattle.std.proofs.Math.Path.{sym}
use Rattle.std.proofs.Common.{ap, ◌∙◌}
use Rattle.rules.specs.declared.Settings.{Settings}
use Rattle.rules.specs.declared.Refusal.{Refusal}
use Rattle.rules.specs.declared.Refusal.TheVariants.{TableSize, BadRow, LineSize, BadLineRow, WrongIndex, WrongLineIndex}
use Rattle.rules.specs.NumbersHandedBack.{Outcome, got, refused, ◌>>◌, unless}
use Rattle.rules.specs.SettingsAndUnitTable.{settings_check, most_rows, rows, rows_in, whole_rows_in, rows_check, units_check_in, table_check, line_check, numerals_check, numerals_check_in, card_check}
use Rattle.rules.specs.SettingsAsWords.{settings_of, card_of}
use Rattle.rules.proofs.Laws.Outcomes.{passed_both}
use Rattle.card.specs.Laws.Accepted.{UnitsGood, units_good, units_accepted, card_hall, card_line}
use Rattle.index.specs.TheSortedIndex.{index_check, table_right, checking, Indexed, indexed_check}
use Rattle.index.specs.Laws.Right.{Right}
use Rattle.index.proofs.Laws.Right.{index_accepts}

-- ---- a card without some of its tables

-- tables without rows are accepted
no_line : (s : Settings) → line_check s [] ≡ got tt
unfolding line_check units_check_in whole_rows_in rows_in rows_check unless ◌>>◌
no_line s = refl

no_hall : (s : Settings) → table_check s [] ≡ got tt
unfolding table_check units_check_in whole_rows_in rows_in rows_check unless ◌>>◌
no_hall s = refl

no_numerals : numerals_check [] ≡ got tt
unfolding numerals_check_in whole_rows_in rows_in rows_check unless ◌>>◌
no_numerals = refl

then_got : (m : Outcome (Unit {0})) → (m >> got tt) ≡ m
unfolding ◌>>◌
then_got (got tt) = refl
then_got (refused cause) = refl

module _ (words : List ℕ) where
  -- settings alone; with one table; and with the numerals
  pub settings_only : card_check (card_of words [] [] []) ≡ settings_check (settings_of words)
  unfolding card_check ◌>>◌
  settings_only = rw (no_hall (settings_of words), no_line (settings_of words), no_numerals) (then_got (settings_check (settings_of words)))

  pub table_only : (table : List ℕ) → card_check (card_of words table [] []) ≡ table_right (settings_of words) table
  unfolding card_check table_right ◌>>◌
  table_only table =
      rw (no_line (settings_of words), no_numerals) (ap (λ m. settings_check (settings_of words) >> m) (then_got (table_check (settings_of words) table)))

  pub without_tables : (numerals : List ℕ) → card_check (card_of words [] [] numerals) ≡ got tt → (settings_check (settings_of words) ≡ got tt) × (numerals_check numerals ≡ got tt)
  unfolding card_check ◌>>◌
  without_tables numerals e = passed_both (settings_check (settings_of words)) _ (rw (no_hall (settings_of words), no_line (settings_of words)) at e)

-- ---- one table with its index

module _ (s : Settings) (table index : List ℕ) where
  pub refused_settings : {cause : Refusal} → settings_check s ≡ refused cause → refused cause ≡ checking s table index
  unfolding checking table_right ◌>>◌
  refused_settings e = rw e

  pub refused_table : {cause : Refusal} → table_right s table ≡ refused cause → refused cause ≡ checking s table index
  unfolding checking ◌>>◌
  refused_table e = rw e

  pub behind_table : table_right s table ≡ got tt → index_check WrongIndex table index ≡ checking s table index
  unfolding checking ◌>>◌
  behind_table e = rw e

  module _ (good : settings_check s ≡ got tt) where
    -- told right in one pass
    pub both_right : UnitsGood s table × Right table index → got tt ≡ checking s table index
    unfolding table_check table_right ◌>>◌
    both_right (units, right) =
        sym ((index_accepts WrongIndex table index).1 right) ∙ behind_table (rw (good, units_accepted TableSize BadRow s table units))

-- a table that is accepted has few rows
pub table_few : (s : Settings) (table : List ℕ) → table_check s table ≡ got tt → rows table ≤ most_rows
unfolding table_check
table_few s table good = (units_good TableSize BadRow s table good).most

pub right_few : (s : Settings) (table : List ℕ) → table_right s table ≡ got tt → rows table ≤ most_rows
unfolding table_right
right_few s table good = table_few s table (passed_both (settings_check s) _ good).1

-- ---- a card with its indexes

module _ (c : Indexed) where
  pub refused_card : {cause : Refusal} → card_check c.card ≡ refused cause → refused cause ≡ indexed_check c
  unfolding indexed_check ◌>>◌
  refused_card e = rw e

  module _ (good : card_check c.card ≡ got tt) where
    pub refused_hall : {cause : Refusal} → index_check WrongIndex c.card.hall c.hall_index ≡ refused cause → refused cause ≡ indexed_check c
    unfolding indexed_check ◌>>◌
    refused_hall e = rw (good, e)

    pub behind_hall :
        index_check WrongIndex c.card.hall c.hall_index ≡ got tt → index_check WrongLineIndex c.card.line c.line_index ≡ indexed_check c
    unfolding indexed_check ◌>>◌
    behind_hall e = rw (good, e)

    pub hall_few : rows c.card.hall ≤ most_rows
    hall_few = (card_hall c.card good).most

    pub line_few : rows c.card.line ≤ most_rows
    line_few = (card_line c.card good).most

  -- both tables told right, and the rest of the card accepted
  pub all_right :
      (settings_check c.card.settings ≡ got tt) × (numerals_check c.card.numerals ≡ got tt)
      → UnitsGood c.card.settings c.card.hall × Right c.card.hall c.hall_index
      → UnitsGood c.card.settings c.card.line × Right c.card.line c.line_index
      → got tt ≡ indexed_check c
  unfolding indexed_check card_check table_check line_check ◌>>◌
  all_right (settings, numerals) (hall, hall_right) (line, line_right) =
      rw (
        settings,
        units_accepted TableSize BadRow _ _ hall,
        units_accepted LineSize BadLineRow _ _ line,
        numerals,
        (index_accepts WrongIndex _ _).1 hall_right,
        (index_accepts WrongLineIndex _ _).1 line_right,
      )
