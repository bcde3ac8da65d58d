-- `card::row::ascii_seconds` meets its contract: the kind, and then the name. Assumes nothing.
use Rattle.std.proofs.Common.{arith}
use Rattle.std.proofs.lemmas.Grind.{common_steps}
use Rattle.std.proofs.lemmas.Bool.Decides.{nat_tests}
use Rattle.rules.specs.SettingsAndUnitTable.{kind_in}
use Rattle.card.specs.Fields.{asked_further}
use Rattle.card.proofs.row.ascii_seconds.Goals as goal

pub returns-then-row-eq-SECONDS : goal.returns-then-row-eq-SECONDS
unfolding asked_further kind_in
returns-then-row-eq-SECONDS c = grind (arith, common_steps, nat_tests)

pub returns-else-row-eq-SECONDS : goal.returns-else-row-eq-SECONDS
unfolding asked_further kind_in
returns-else-row-eq-SECONDS c = grind (arith, common_steps, nat_tests)
