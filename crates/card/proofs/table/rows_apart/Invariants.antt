-- `card::table::rows_apart` meets its contract: each row passed has a name of its own. Assumes nothing.
use mathlib.Core.Path.{◌≡◌}
use mathlib.Core.Bool.{false}
use Prim.Native.Nat.{ℕ, ◌<◌}
use Rattle.rules.specs.SettingsAndUnitTable.{row, name, named}
use Rattle.card.proofs.table.rows_apart.Given as goal

abbrev pub invariant-loop-i : goal.invariant-loop-i
invariant-loop-i l = (j : ℕ) → j < l.i → named l.table (name (row l.table j)) j ≡ false
