-- `stored::digit_value` meets its contract: the two runs of digits, and the bytes before, between and after them. Assumes nothing.
use native.Mathlib.Omega.{arith}
use Rattle.rules.proofs.Laws.Tests.{between_below, between_above}
use Rattle.stored.specs.Laws.{value_low, value_high, value_none}
use Rattle.stored.proofs.digit_value.Goals as goal

pub returns-in-48-to-57 : goal.returns-in-48-to-57
returns-in-48-to-57 c = rw (value_low c.args.b (omega arith) (omega arith))

pub returns-in-97-to-102 : goal.returns-in-97-to-102
returns-in-97-to-102 c = rw (value_high c.args.b (omega arith) (omega arith))

pub returns-in_default : goal.returns-in_default
returns-in_default c = rw (value_none c.args.b (between_below 48 57 c.args.b (omega arith)) (between_below 97 102 c.args.b (omega arith)))

pub returns-in_default-2 : goal.returns-in_default-2
returns-in_default-2 c = rw (value_none c.args.b (between_above 48 57 c.args.b (omega arith)) (between_below 97 102 c.args.b (omega arith)))

pub returns-in_default-3 : goal.returns-in_default-3
returns-in_default-3 c = rw (value_none c.args.b (between_above 48 57 c.args.b (omega arith)) (between_above 97 102 c.args.b (omega arith)))
