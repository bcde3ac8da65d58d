-- Request two's "exactly if". Of an accepted card each row is found, the line's and those of the hall's whose names the line has not. Of a
-- table by itself, the other empty, a row that passes document 01's tests is refused exactly if no accepted text without a spoken number has a
-- part whose unit is found there, whatever the other rows and the numerals are; and what a card answers by that. A spoken number could find a
-- row that nobody could type behind digits, and so its text does not count (`Examples`). Assumes nothing.
use Rattle.std.specs.Prelude.{◌≡◌, length}
use Rattle.std.proofs.Math.Bool.{true}
use mathlib.Core.List.{List}
use Prim.Native.Nat.{ℕ, ◌≤◌, ◌<◌}
use Rattle.rules.specs.declared.Settings.{Settings}
use Rattle.rules.specs.declared.Length.{Length}
use Rattle.rules.specs.declared.Refusal.{Refusal}
use Rattle.rules.specs.declared.Refusal.TheVariants.{BadRow, BadLineRow}
use Rattle.rules.specs.ThePartOfTheCrateWeTake.{longest_text}
use Rattle.rules.specs.NumbersHandedBack.{got}
use Rattle.rules.specs.SettingsAndUnitTable.{settings_check, most_rows, rows, row_right, whole_rows, Card}
use Rattle.rules.specs.Evaluation.{total}
use Rattle.findable.specs.WhereAPartFindsItsUnit.{finds}
use Rattle.findable.specs.OneOfTheTwoTables.{Whose, OfHall, OfLine, table_of, row_in}

-- what is said of a bad row: 7 with its number, and 128 more if it is the line's
abbrev pub bad_row : Whose → ℕ → Refusal
bad_row OfHall i = BadRow i
bad_row OfLine i = BadLineRow i

module _ (card : Card) where
  abbrev s : Settings
  s = card.settings

  module _ (whose : Whose) where
    abbrev table : List ℕ
    table = table_of whose card

    -- ---- what is said of a table by itself

    -- the card taken as accepted, some text that is accepted, and has no spoken number, has a part whose unit is found at row i
    abbrev pub Findable : ℕ → Type 0
    Findable i = (text : List ℕ) × (length text ≤ longest_text) × (l : Length) × (total card text ≡ got l) × (finds card text (row_in whose i) ≡ true)

    -- 0 to 64 rows of 48 bytes
    abbrev pub Sized : Type 0
    Sized = whole_rows most_rows table ≡ true

    -- the settings and the table pass all of document 01's tests
    abbrev pub Passes : Type 0
    Passes = (settings_check s ≡ got tt) × Sized × ((i : ℕ) → i < rows table → row_right s table i ≡ true)
