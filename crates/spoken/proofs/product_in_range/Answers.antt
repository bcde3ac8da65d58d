-- `spoken::product_in_range` meets its contract: coefficient and power are tested one after another. Assumes nothing.
use Rattle.std.proofs.Common.{rules}
use Rattle.rules.specs.SettingsAndUnitTable.{times, in_range}
use Rattle.spoken.proofs.product_in_range.Goals as goal

pub returns-then-up-down : goal.returns-then-up-down
unfolding times in_range
returns-then-up-down c = search rules

pub returns-else-up-down : goal.returns-else-up-down
unfolding times in_range
returns-else-up-down c = search rules
