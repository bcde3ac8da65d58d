-- `card::row::fields_right` meets its contract: the kind, the zeros, and the range. Assumes nothing.
use Rattle.std.proofs.Common.{arith}
use Rattle.std.proofs.lemmas.Grind.{common_steps}
use Rattle.std.proofs.lemmas.Bool.Decides.{nat_tests}
use Rattle.rules.specs.Common.{between}
use Rattle.rules.specs.SettingsAndUnitTable.{kind_in}
use Rattle.card.specs.Fields.{fields_right}
use Rattle.card.proofs.row.fields_right.Goals as goal

pub returns-then-zeros : goal.returns-then-zeros
unfolding fields_right kind_in between
returns-then-zeros c = grind (arith, common_steps, nat_tests)

pub returns-else-zeros : goal.returns-else-zeros
unfolding fields_right kind_in between
returns-else-zeros c = grind (arith, common_steps, nat_tests)
