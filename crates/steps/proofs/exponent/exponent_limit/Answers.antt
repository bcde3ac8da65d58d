-- `steps::exponent::exponent_limit` meets its contract. Assumes nothing.
use Rattle.rules.specs.ReadingOnePart.{exponent_limit}
use Rattle.rules.specs.Common.{when◌then◌else◌}
use Rattle.steps.proofs.exponent.exponent_limit.Goals as goal

pub returns-then-negative : goal.returns-then-negative
unfolding exponent_limit when◌then◌else◌
returns-then-negative c = rw c.if-negative.true

pub returns-else-negative : goal.returns-else-negative
unfolding exponent_limit when◌then◌else◌
returns-else-negative c = rw c.if-negative.false
