-- `card::row::name_right` meets its contract: the room, and then the bytes of the name. Assumes nothing.
use Rattle.std.proofs.Common.{arith, rules}
use Rattle.std.proofs.lemmas.Grind.{common_steps}
use Rattle.card.specs.Fields.{name_right}
use Rattle.card.proofs.row.name_right.Goals as goal

pub returns-then-padded : goal.returns-then-padded
unfolding name_right
returns-then-padded c = search rules

pub returns-else-padded : goal.returns-else-padded
unfolding name_right
returns-else-padded c = search rules
