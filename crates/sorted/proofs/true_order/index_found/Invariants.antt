-- `sorted::true_order::index_found` meets its contract: the length, then the first wrong entry: those from `k` on decide. Assumes nothing.
use mathlib.Core.Path.{◌≡◌}
use Rattle.rules.specs.SettingsAndUnitTable.{rows}
use Rattle.card.specs.Laws.Table.{first_bad, bad_from}
use Rattle.index.specs.TheSortedIndex.{entry_right}
use Rattle.sorted.proofs.true_order.index_found.Given as goal

abbrev pub invariant-loop-k : goal.invariant-loop-k
invariant-loop-k l = bad_from (entry_right l.table l.index) (rows l.table) l.k ≡ first_bad (entry_right l.table l.index) 0 (rows l.table)
