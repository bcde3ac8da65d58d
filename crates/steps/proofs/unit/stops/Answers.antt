-- `steps::unit::stops` meets its contract: outer delimiters, the bytes that begin a part, and with ago on inner delimiters. Assumes nothing.
use mathlib.Core.Path.{◌∙◌}
use Rattle.rules.specs.Common.{when◌then◌else◌}
use Rattle.settings.specs.Sets.{bytes_of, either}
use Rattle.steps.specs.Units.{stops_of}
use Rattle.steps.proofs.unit.stops.Goals as goal

pub returns-then-ago : goal.returns-then-ago
unfolding stops_of when◌then◌else◌ bytes_of
returns-then-ago c =
    rw (← c.ago.ensures, c.if-ago.true, ← c.outer_delimiters.ensures, ← c.inner_delimiters.ensures)
    (c.either.ensures ∙ rw c.either-outside.ensures)

pub returns : goal.returns
unfolding stops_of when◌then◌else◌ bytes_of
returns c = rw (← c.ago.ensures, c.if-ago.false, ← c.outer_delimiters.ensures) c.either-outside.ensures
