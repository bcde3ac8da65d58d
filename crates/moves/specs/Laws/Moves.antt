-- Which lines move from one form to another, what each is moved to, and what all come to. Assumes nothing.
use Rattle.std.specs.Prelude.{◌≡◌, Bool, true, ◌&&◌, List, [], ◌++◌, ℕ, zero, suc, ◌*◌, ◌<◌, leb, take, drop}
use Rattle.rules.specs.SettingsAndUnitTable.{name_size, stored}
use Rattle.stored.specs.Lines.{line_size_in, restored_in}
use Rattle.moves.specs.NamesLongerThanSixteenBytes.{line_stands, moved_row}

module _ (from to : ℕ) where
  -- right, with a name that has room in the other form
  unfoldable pub line_moves : List ℕ → Bool
  line_moves line = line_stands from line && leb (name_size (restored_in from line)) to

  unfoldable pub moved_line : List ℕ → List ℕ
  moved_line line = stored (moved_row from to (restored_in from line))

-- the k-th piece of a line's length
abbrev pub piece : ℕ → List ℕ → ℕ → List ℕ
piece room source k = take (line_size_in room) (drop (k * line_size_in room) source)

module _ (from to : ℕ) (source : List ℕ) where
  -- the first k pieces, moved
  unfoldable pub moved_pieces : ℕ → List ℕ
  moved_pieces zero = []
  moved_pieces (suc k) = moved_pieces k ++ moved_line from to (piece from source k)

  abbrev pub AllMove : ℕ → Type 0
  AllMove k = (j : ℕ) → j < k → line_moves from to (piece from source j) ≡ true
