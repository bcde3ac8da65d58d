-- `card::table::e_may_lead` meets its contract: the definition's tests, one after another. Assumes nothing.
use Rattle.std.proofs.Common.{arith}
use Rattle.std.proofs.lemmas.Grind.{common_steps}
use Rattle.rules.specs.SettingsAndUnitTable.{e_may_lead}
use Rattle.card.proofs.table.e_may_lead.Goals as goal

pub returns-then-exponents : goal.returns-then-exponents
unfolding e_may_lead
returns-then-exponents c = grind (arith, common_steps)

pub returns-then-before_unit : goal.returns-then-before_unit
unfolding e_may_lead
returns-then-before_unit c = grind (arith, common_steps)

pub returns-else-before_unit : goal.returns-else-before_unit
unfolding e_may_lead
returns-else-before_unit c = grind (arith, common_steps)
