-- `sorted::true_order::names_before` meets its contract: the rows passed are counted. Assumes nothing.
use mathlib.Core.Path.{◌≡◌}
use Prim.Native.Nat.{◌≤◌}
use Rattle.rules.specs.SettingsAndUnitTable.{row, name}
use Rattle.index.specs.TheSortedIndex.{before, count}
use Rattle.sorted.proofs.true_order.names_before.Given as goal

abbrev pub invariant-loop-i : goal.invariant-loop-i
invariant-loop-i l = (l.found ≤ l.i) × (l.found ≡ count (λ k. before (name (row l.table k)) l.wanted) l.i)
