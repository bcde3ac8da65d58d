-- A row moved from one form to another has the same fields, stands there, and moved back it is the row. Assumes nothing.
use Rattle.std.specs.Prelude.{◌≡◌, true, ℕ, ◌≤◌}
use mathlib.Core.List.{List}
use Rattle.std.proofs.Math.ListN.{length}
use Rattle.rules.specs.SettingsAndUnitTable.{row_size_in, name_size}
use Rattle.moves.specs.NamesLongerThanSixteenBytes.{row_stands}

-- a row of the form `from`, with a name that the form `to` has room for
pub record Movable (from to : ℕ) (r : List ℕ) : Type 0 where
  pub whole : length r ≡ row_size_in from
  pub stands : row_stands from r ≡ true
  pub fits : name_size r ≤ to
