-- `steps::bytes::is_digit` meets its contract: a byte from `0` to `9`, one below, and one above. Assumes nothing.
use borrow.Author.Rules.{rules}
use Rattle.rules.proofs.Laws.Tests.{between_in, between_below, between_above}
use Rattle.value.specs.Digits.{digit_between}
use Rattle.steps.proofs.bytes.is_digit.Goals as goal

pub returns-in-48-to-57 : goal.returns-in-48-to-57
returns-in-48-to-57 c = rw (← digit_between, between_in 48 57 c.args.byte (search rules) (search rules))

pub returns-in_default : goal.returns-in_default
returns-in_default c = rw (← digit_between, between_below 48 57 c.args.byte (search rules))

pub returns-in_default-2 : goal.returns-in_default-2
returns-in_default-2 c = rw (← digit_between, between_above 48 57 c.args.byte (search rules))
