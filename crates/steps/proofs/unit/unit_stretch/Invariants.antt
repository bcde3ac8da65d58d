-- `steps::unit::unit_stretch` meets its contract: the bytes scanned are the word's, and those that do not stop a name are those of the stretch. Assumes
-- nothing.
use Rattle.std.proofs.Common.{false, ◌+◌, ◌*◌}
use Rattle.settings.specs.Sets.{bytes_of, passes}
use Rattle.steps.specs.Stretches.{Scanning}
use Rattle.steps.proofs.unit.unit_stretch.Given as goal

abbrev pub invariant-loop-scanned : goal.invariant-loop-scanned
invariant-loop-scanned l = Scanning (passes (bytes_of l.stops) false) l.text l.place (l.place + l.scanned) l.first (8 * l.scanned)
