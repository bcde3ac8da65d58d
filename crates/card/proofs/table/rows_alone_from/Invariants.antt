-- `card::table::rows_alone_from` meets its contract: each row passed has all that is asked of it. Assumes nothing.
use mathlib.Core.Path.{◌≡◌}
use mathlib.Core.Bool.{true}
use Prim.Native.Nat.{◌≤◌}
use Rattle.rules.specs.SettingsAndUnitTable.{rows}
use Rattle.card.specs.Fields.{Each, alone}
use Rattle.card.proofs.table.rows_alone_from.Given as goal

abbrev pub invariant-loop-i : goal.invariant-loop-i
invariant-loop-i l = (l.count ≡ rows l.table) × (l.i ≤ l.count) × Each (λ row. alone l.rule row ≡ true) l.table l.i
