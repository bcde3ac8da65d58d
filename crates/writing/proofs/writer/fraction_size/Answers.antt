-- `writing::writer::fraction_size` meets its contract. Assumes nothing.
use borrow.Author.Tests.{eq-eqb, ne_eqb}
use Rattle.rules.specs.Common.{when◌then◌else◌}
use Rattle.writing.specs.Forms.{fraction_size}
use Rattle.writing.proofs.writer.fraction_size.Goals as goal

pub returns-then-count-eq0 : goal.returns-then-count-eq0
unfolding fraction_size when◌then◌else◌
returns-then-count-eq0 c = rw (eq-eqb _ 0 c.if-count-eq0.true)

pub returns-else-count-eq0 : goal.returns-else-count-eq0
unfolding fraction_size when◌then◌else◌
returns-else-count-eq0 c = rw (ne_eqb _ 0 c.if-count-eq0.false)
