-- `iso_reader::components::kind_of` meets its contract: each letter, and none. Assumes nothing.
use Rattle.std.proofs.Common.{arith}
use Rattle.std.proofs.lemmas.Grind.{common_steps}
use Rattle.rules.specs.Common.{when◌then◌else◌}
use Rattle.iso.specs.IsoTimings.{kind_of}
use Rattle.iso_reader.proofs.components.kind_of.Goals as goal

pub returns-in-83 : goal.returns-in-83
unfolding kind_of when◌then◌else◌
returns-in-83 c = rw c.in-83.is

pub returns-in-77 : goal.returns-in-77
unfolding kind_of when◌then◌else◌
returns-in-77 c = rw c.in-77.is

pub returns-in-72 : goal.returns-in-72
unfolding kind_of when◌then◌else◌
returns-in-72 c = rw c.in-72.is

pub returns-in-68 : goal.returns-in-68
unfolding kind_of when◌then◌else◌
returns-in-68 c = rw c.in-68.is

pub returns-in-87 : goal.returns-in-87
unfolding kind_of when◌then◌else◌
returns-in-87 c = rw c.in-87.is

pub returns-in_default : goal.returns-in_default
unfolding kind_of when◌then◌else◌
returns-in_default c = grind (arith, common_steps, c.in_default)
