-- `card::row::simple` meets its contract: the name, and then each field. Assumes nothing.
use Rattle.std.proofs.Common.{arith}
use Rattle.std.proofs.lemmas.Grind.{common_steps}
use Rattle.std.proofs.lemmas.Bool.Decides.{nat_tests}
use Rattle.rules.specs.Common.{between}
use Rattle.rules.specs.SettingsAndUnitTable.{kind_in}
use Rattle.card.specs.Fields.{fields_right}
use Rattle.card.proofs.row.simple.Goals as goal

pub returns-then-zeros : goal.returns-then-zeros
unfolding fields_right kind_in between
returns-then-zeros c = grind (arith, common_steps, nat_tests)
