-- `table_entries::check_index` meets its contract: 7 and 23, and then the number of rows. Assumes nothing.
use mathlib.Core.Path.{sym, ◌∙◌}
use Rattle.table_entries.specs.Changes.{check_refused, check_passed}
use Rattle.table_entries.proofs.check_index.Goals as goal

pub returns-in-Err : goal.returns-in-Err
returns-in-Err c =
    c.refusal.ensures
    ∙ check_refused _ _ _ (sym c.table_and_index_check.ensures ∙ c.in-Err.is)

pub returns-in-Ok : goal.returns-in-Ok
returns-in-Ok c = c.rows_done.ensures ∙ check_passed _ _ _ (sym c.table_and_index_check.ensures ∙ c.in-Ok.is)
