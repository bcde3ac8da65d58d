-- `card::row::name_accepted` meets its contract: the bytes that are left decide what all of them do. The measure is how many there are. Assumes nothing.
use mathlib.Core.Path.{◌≡◌}
use mathlib.Core.Bool.{false}
use lib.ListN.{length}
use Rattle.rules.specs.Common.{all}
use Rattle.settings.specs.Sets.{bytes_of, passes}
use Rattle.card.proofs.row.name_accepted.Given as goal

abbrev pub invariant-loop-rest : goal.invariant-loop-rest
invariant-loop-rest l = all (passes (bytes_of l.set) false) l.rest ≡ all (passes (bytes_of l.set) false) l.name

abbrev pub decreases-loop-rest : goal.decreases-loop-rest
decreases-loop-rest l = length l.rest
