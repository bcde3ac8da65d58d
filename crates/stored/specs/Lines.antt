-- A stored row read back, and what storing and restoring leave in the lent buffer. Assumes nothing.
use Rattle.std.specs.Prelude.{Bool, ◌&&◌, List, [], ◌∷◌, ◌++◌, ℕ, ◌+◌, ◌*◌, ◌-◌, eqb, ltb, leb, length, get_or, take, drop}
use Rattle.rules.specs.Common.{when◌then◌else◌, between, all}
use Rattle.rules.specs.SettingsAndUnitTable.{row_size_in, name_room, row_size, stored}

-- what a lower-case hexadecimal digit stands for, and 16 for a byte that is none
unfoldable pub digit_value : ℕ → ℕ
digit_value b = when between 48 57 b then b - 48 else when between 97 102 b then b - 87 else 16

unfoldable pub spells : ℕ → Bool
spells b = ltb (digit_value b) 16

-- a byte for each two digits
unfoldable pub paired : List ℕ → List ℕ
paired [] = []
paired (a ∷ []) = []
paired (a ∷ b ∷ rest) = (digit_value a * 16 + digit_value b) ∷ paired rest

-- by the room that a row has for its name
module _ (room : ℕ) where
  abbrev pub digits_size_in : ℕ
  digits_size_in = 2 * row_size_in room

  abbrev pub line_size_in : ℕ
  line_size_in = digits_size_in + 1

  -- the digits of a row and a newline
  unfoldable pub line_accepted_in : List ℕ → Bool
  line_accepted_in line = eqb (length line) line_size_in && (eqb (get_or line digits_size_in 0) 10 && all spells (take digits_size_in line))

  unfoldable pub restored_in : List ℕ → List ℕ
  restored_in line = paired (take digits_size_in line)

abbrev pub digits_size : ℕ
digits_size = digits_size_in name_room

abbrev pub line_size : ℕ
line_size = line_size_in name_room

abbrev pub line_accepted : List ℕ → Bool
line_accepted = line_accepted_in name_room

abbrev pub restored : List ℕ → List ℕ
restored = restored_in name_room

-- ---- into a lent buffer, from its start on

unfoldable pub stores : List ℕ → List ℕ → Bool
stores row line = eqb (length row) row_size && leb line_size (length line)

unfoldable pub line_after : List ℕ → List ℕ → List ℕ
line_after row line = when stores row line then stored row ++ drop line_size line else line

unfoldable pub restores : List ℕ → List ℕ → Bool
restores line row = leb row_size (length row) && line_accepted line

unfoldable pub row_after : List ℕ → List ℕ → List ℕ
row_after line row = when restores line row then restored line ++ drop row_size row else row
