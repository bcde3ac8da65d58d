-- `steps::bytes::is_next_duration` meets its contract: a digit or a sign. Assumes nothing.
use Rattle.rules.specs.SettingsAndUnitTable.{is_next_duration}
use Rattle.steps.proofs.bytes.is_next_duration.Goals as goal

pub returns-then-is_digit : goal.returns-then-is_digit
unfolding is_next_duration
returns-then-is_digit c = rw (← c.is_digit.ensures, c.if-is_digit.true)

pub returns-else-is_digit : goal.returns-else-is_digit
unfolding is_next_duration
returns-else-is_digit c = rw (← c.is_digit.ensures, c.if-is_digit.false) c.is_sign.ensures
