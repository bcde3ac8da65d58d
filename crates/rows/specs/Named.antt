-- The row of one table that has a name, and what the lookup asks of a table. Assumes nothing.
use Rattle.std.specs.Prelude.{◌≡◌, Bool, true, ◌&&◌, List, [], ℕ, ◌<◌, eqb, Option, Some, None}
use Rattle.rules.specs.Common.{all, between}
use Rattle.rules.specs.SettingsAndUnitTable.{name_room, rows, row, name_size, after_name, lookup}

-- a name of 1 to 32 bytes, and zeros after it
unfoldable pub padded : List ℕ → Bool
padded r = between 1 name_room (name_size r) && all (eqb 0) (after_name r)

-- so is each row's name in its room
abbrev pub Padded : List ℕ → Type 0
Padded table = (i : ℕ) → i < rows table → padded (row table i) ≡ true

unfoldable pub found_row : List ℕ → Option ℕ → List ℕ
found_row table (Some i) = row table i
found_row table None = []

-- nothing, if no row has it
unfoldable pub row_named : List ℕ → List ℕ → List ℕ
row_named table wanted = found_row table (lookup table wanted)
