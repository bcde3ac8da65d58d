-- `lookup::rows_in_order::find` meets its contract: the rows that are left decide. Assumes nothing.
use mathlib.Core.Path.{◌≡◌}
use Rattle.std.specs.Slice.Iter.{chunks_exact_rest, chunks_exact_size}
use Rattle.rules.specs.SettingsAndUnitTable.{row_size}
use Rattle.lookup.specs.Laws.Walks.{Walking}
use Rattle.lookup.proofs.rows_in_order.find.Given as goal

abbrev pub invariant-loop-row : goal.invariant-loop-row
invariant-loop-row l = (chunks_exact_size l.row-iterator ≡ row_size) × Walking l.table l.wanted l.compared (chunks_exact_rest l.row-iterator)
