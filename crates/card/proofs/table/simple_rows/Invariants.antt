-- `card::table::simple_rows` meets its contract: each row passed is as nearly all are. Assumes nothing.
use mathlib.Core.Path.{◌≡◌}
use Prim.Native.Nat.{◌≤◌}
use Rattle.rules.specs.SettingsAndUnitTable.{rows}
use Rattle.card.specs.Fields.{Simple, Each}
use Rattle.card.proofs.table.simple_rows.Given as goal

abbrev pub invariant-loop-i : goal.invariant-loop-i
invariant-loop-i l = (l.count ≡ rows l.table) × (l.i ≤ l.count) × Each Simple l.table l.i
