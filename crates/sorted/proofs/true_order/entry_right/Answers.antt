-- `sorted::true_order::entry_right` meets its contract: a row, and as many names before its own as its entry says. Assumes nothing.
use mathlib.Core.Path.{ap, ◌∙◌}
use borrow.Author.Tests.{lt-ltb, le-ltb}
use lib.ListN.{length}
use Rattle.rules.specs.SettingsAndUnitTable.{rows_in}
use Rattle.rows.specs.Laws.Rows.{length_row}
use Rattle.index.specs.TheSortedIndex.{rank, entry_right}
use Rattle.sorted.proofs.true_order.entry_right.Goals as goal

pub returns-then-row-table : goal.returns-then-row-table
unfolding entry_right rows_in
returns-then-row-table c = rw (le-ltb _ _ c.if-row-table.true)

pub returns : goal.returns
unfolding entry_right rank rows_in
returns c = rw (lt-ltb _ _ c.if-row-table.false, c.names_before.ensures, c.name_of.ensures, c.row_at.ensures)

pub row_at-requires : goal.row_at-requires
unfolding rows_in
row_at-requires c = c.if-row-table.false

pub name_of-requires : goal.name_of-requires
unfolding rows_in
name_of-requires c = ap length c.row_at.ensures ∙ length_row _ _ c.if-row-table.false
