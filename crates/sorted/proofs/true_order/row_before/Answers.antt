-- `sorted::true_order::row_before` meets its contract. Assumes nothing.
use mathlib.Core.Path.{ap, ◌∙◌}
use lib.ListN.{length}
use Rattle.rules.specs.SettingsAndUnitTable.{name}
use Rattle.rows.specs.Laws.Rows.{length_row}
use Rattle.index.specs.TheSortedIndex.{before}
use Rattle.sorted.proofs.true_order.row_before.Goals as goal

pub name_of-requires : goal.name_of-requires
name_of-requires c = ap length c.row_at.ensures ∙ length_row _ _ c.requires

pub returns : goal.returns
returns c = c.before-2.ensures ∙ ap (λ n. before n c.args.wanted.now) (c.name_of.ensures ∙ ap name c.row_at.ensures)
