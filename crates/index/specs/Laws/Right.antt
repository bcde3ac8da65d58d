-- What is right of an index and of its table's names. Assumes nothing.
use Rattle.std.specs.Prelude.{◌≡◌, true, List, ℕ, ◌<◌, length, get_or, Some}
use Rattle.rules.specs.SettingsAndUnitTable.{rows, row, name, lookup}
use Rattle.index.specs.TheSortedIndex.{before, entry_right}

-- the row at an entry, and its name
abbrev pub entry : List ℕ → ℕ → ℕ
entry index k = get_or index k 0

abbrev pub entry_name : List ℕ → List ℕ → ℕ → List ℕ
entry_name table index k = name (row table (entry index k))

-- as long as the table has rows, and each entry the true order's
pub record Right (table index : List ℕ) : Type 0 where
  pub long : length index ≡ rows table
  pub each : (k : ℕ) → k < rows table → entry_right table index k ≡ true

-- entries that are numbers of entries, and names that rise along them
pub record Rising (table index : List ℕ) : Type 0 where
  pub within : (k : ℕ) → k < length index → entry index k < length index
  pub rises : (j k : ℕ) → j < k → k < length index → before (entry_name table index j) (entry_name table index k) ≡ true

-- each row's name finds that row: no two have one name
abbrev pub Own : List ℕ → Type 0
Own table = (i : ℕ) → i < rows table → lookup table (name (row table i)) ≡ Some i
