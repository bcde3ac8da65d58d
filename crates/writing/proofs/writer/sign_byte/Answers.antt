-- `writing::writer::sign_byte` meets its contract. Assumes nothing.
use Rattle.rules.specs.WriterAndShiftTotal.{sign_byte}
use Rattle.rules.specs.Common.{when◌then◌else◌}
use Rattle.writing.proofs.writer.sign_byte.Goals as goal

pub returns-then-negative : goal.returns-then-negative
unfolding sign_byte when◌then◌else◌
returns-then-negative c = rw c.if-negative.true

pub returns-else-negative : goal.returns-else-negative
unfolding sign_byte when◌then◌else◌
returns-else-negative c = rw c.if-negative.false
