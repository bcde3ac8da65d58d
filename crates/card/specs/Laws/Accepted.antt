-- What an accepted card has besides accepted settings: rows whose products are in range, names that are found where they stand, and numerals
-- of letters.
-- Assumes nothing.
use Rattle.std.specs.Prelude.{◌≡◌, true, false, ℕ, ◌%◌, ◌≤◌, ◌<◌, eqb, leb, length, Some, None}
use Rattle.std.proofs.Common.{sym, ◌∙◌, arith}
use Rattle.std.proofs.Math.Bool.{false≢true}
use mathlib.Core.List.{List, [], ◌∷◌}
use borrow.Author.Tests.{le-leb, leb-true, eq-eqb, eqb-true}
use Rattle.rules.specs.declared.Settings.{Settings}
use Rattle.rules.specs.declared.Refusal.{Refusal}
use Rattle.rules.specs.declared.Refusal.TheVariants.{TableSize, BadRow, LineSize, BadLineRow, NumeralsSize}
use Rattle.rules.specs.Common.{all, starts}
use Rattle.rules.specs.NumbersHandedBack.{got, ◌>>◌, unless}
use Rattle.rules.specs.SettingsAndUnitTable.{LETTER, is, settings_check, most_rows, row_size, rows, row, name, product, in_range, row_right, row_accepted, numeral_accepted, numeral_accepted_in, whole_rows_in, units_check, units_check_in, table_check, line_check, numerals_check, numerals_check_in, Card, card_check, lookup}
use Rattle.rules.proofs.Laws.Choices.{and_left, and_right, all_first}
use Rattle.rules.proofs.Laws.Outcomes.{passed, passed_both}
use Rattle.rules.proofs.Laws.RowsCheck.{rows_good, rows_all}
use Rattle.rows.specs.Laws.Lookup.{same_refl, lookup_here, past, unnamed}
use Rattle.rows.specs.Laws.Rows.{length_row}
use Rattle.rows.specs.Named.{Padded}
use Rattle.rows.specs.Laws.Rooms.{name_some}
use Rattle.card.specs.Laws.Table.{formed_padded, formed_name, row_both, right_padded, right_unnamed, right_in_range}

-- ---- a table of units, the hall's or the line's

-- what an accepted one has, whatever is said of one that is not
pub record UnitsGood (s : Settings) (table : List ℕ) : Type 0 where
  pub whole : length table % row_size ≡ 0
  pub most : rows table ≤ most_rows
  pub each : (i : ℕ) → i < rows table → row_accepted s table i ≡ true

module _ (size : Refusal) (bad : ℕ → Refusal) (s : Settings) (table : List ℕ) where
  pub units_good : units_check size bad s table ≡ got tt → UnitsGood s table
  unfolding units_check_in whole_rows_in
  units_good good =
      let sized = (passed size _ _ good).0 in
      record {
        whole = eqb-true (length table % row_size) 0 (and_left (eqb (length table % row_size) 0) (leb (rows table) most_rows) sized);
        most = leb-true (rows table) most_rows (and_right (eqb (length table % row_size) 0) (leb (rows table) most_rows) sized);
        each = λ i below. rows_good _ _ (rows table) i (passed size _ _ good).1 below;
      }

  -- and nothing more is asked
  pub units_accepted : UnitsGood s table → units_check size bad s table ≡ got tt
  unfolding units_check_in whole_rows_in unless ◌>>◌
  units_accepted good =
      rw (eq-eqb _ _ good.whole, le-leb _ _ good.most)
      (rows_all (row_accepted s table) bad (rows table) good.each)

module _ (s : Settings) (table : List ℕ) (good : UnitsGood s table) where
  -- so each passes document 01's tests
  pub rows_right : (i : ℕ) → i < rows table → row_right s table i ≡ true
  rows_right i below = (row_both s table i (good.each i below)).0

  -- zeros stand after its name
  pub row_padded : Padded table
  row_padded i below = right_padded s table i (rows_right i below)

  -- the bound that evaluation needs
  pub row_in_range : (i : ℕ) → i < rows table → in_range (product (row table i)) ≡ true
  row_in_range i below = right_in_range s table i (rows_right i below)

-- ---- an accepted card

module _ (card : Card) (good : card_check card ≡ got tt) where
  after_settings : (table_check card.settings card.hall >> (line_check card.settings card.line >> numerals_check card.numerals)) ≡ got tt
  unfolding card_check
  after_settings = (passed_both (settings_check card.settings) _ good).1

  after_hall : (line_check card.settings card.line >> numerals_check card.numerals) ≡ got tt
  after_hall = (passed_both (table_check card.settings card.hall) _ after_settings).1

  pub card_settings : settings_check card.settings ≡ got tt
  unfolding card_check
  card_settings = (passed_both (settings_check card.settings) _ good).0

  pub card_hall : UnitsGood card.settings card.hall
  unfolding table_check
  card_hall = units_good TableSize BadRow _ _ (passed_both (table_check card.settings card.hall) _ after_settings).0

  pub card_line : UnitsGood card.settings card.line
  unfolding line_check
  card_line = units_good LineSize BadLineRow _ _ (passed_both (line_check card.settings card.line) _ after_hall).0

  pub card_numerals : numerals_check card.numerals ≡ got tt
  card_numerals = (passed_both (line_check card.settings card.line) _ after_hall).1

-- ---- lookup

-- so a row that passes document 01's tests is the one that its name finds, whatever the other rows are: no earlier row has the name
pub own_name : (s : Settings) (table : List ℕ) (i : ℕ) → i < rows table → row_right s table i ≡ true → lookup table (name (row table i)) ≡ Some i
own_name s table i below right =
    past table (name (row table i)) i (omega arith) (right_unnamed s table i right) ∙ lookup_here table (name (row table i)) i below (same_refl (name (row table i)))

-- and nothing has no name
pub lookup_empty : (s : Settings) (table : List ℕ) → UnitsGood s table → lookup table [] ≡ None
lookup_empty s table good =
    unnamed table []
    (λ i below. name_some (row table i) (length_row table i below) (right_padded s table i (rows_right s table good i below)))

-- ---- the numerals

module _ (numerals : List ℕ) (good : numerals_check numerals ≡ got tt) where
  numeral_good : (i : ℕ) → i < rows numerals → numeral_accepted numerals i ≡ true
  unfolding numerals_check_in
  numeral_good i below = rows_good _ _ (rows numerals) i (passed NumeralsSize _ _ good).1 below

  pub numeral_padded : Padded numerals
  unfolding numeral_accepted_in
  numeral_padded i below = formed_padded _ _ numerals i (numeral_good i below)

  numeral_lettered : (i : ℕ) → i < rows numerals → all (is LETTER) (name (row numerals i)) ≡ true
  unfolding numeral_accepted_in
  numeral_lettered i below = formed_name _ _ numerals i (numeral_good i below)

  -- what begins with no letter is no numeral
  pub lookup_lettered : (wanted : List ℕ) → starts (is LETTER) wanted ≡ false → lookup numerals wanted ≡ None
  unfolding starts
  lookup_lettered [] other =
      unnamed numerals [] (λ i below. name_some (row numerals i) (length_row numerals i below) (numeral_padded i below))
  lookup_lettered (b ∷ wanted) other =
      unnamed numerals (b ∷ wanted)
      (λ i below e. false≢true (sym other ∙ all_first (is LETTER) b wanted (rw e at (numeral_lettered i below))))
