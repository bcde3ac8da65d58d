-- `stored::hexadecimal` meets its contract: ten digits, then letters. Assumes nothing.
use borrow.Author.Tests.{lt-ltb, le-ltb}
use Rattle.rules.specs.SettingsAndUnitTable.{hexadecimal}
use Rattle.rules.specs.Common.{when◌then◌else◌}
use Rattle.stored.proofs.hexadecimal.Goals as goal

pub returns-then-d-lt10 : goal.returns-then-d-lt10
unfolding hexadecimal when◌then◌else◌
returns-then-d-lt10 c = rw (lt-ltb _ _ c.if-d-lt10.true)

pub returns-else-d-lt10 : goal.returns-else-d-lt10
unfolding hexadecimal when◌then◌else◌
returns-else-d-lt10 c = rw (le-ltb _ _ c.if-d-lt10.false)
