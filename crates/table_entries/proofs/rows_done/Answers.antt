-- `table_entries::rows_done` meets its contract. Assumes nothing.
use mathlib.Core.Path.{ap, ◌∙◌}
use Rattle.rules.specs.NumbersHandedBack.{done}
use Rattle.rules.specs.SettingsAndUnitTable.{rows_in}
use Rattle.table_entries.proofs.rows_done.Goals as goal

pub returns : goal.returns
unfolding rows_in
returns c = c.done.ensures ∙ ap (done _) c.zero.ensures
