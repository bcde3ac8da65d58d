-- `iso_reader::reader::clock` meets its contract: what components come to from here on, with the seconds so far, is what they come to from the
-- start. The kinds fall. Assumes nothing.
use Rattle.std.proofs.Common.{◌≡◌, ◌≤◌, drop}
use Rattle.iso.specs.IsoTimings.{DAYS, wanted, read_from}
use Rattle.iso_reader.specs.Kinds.{kind_number}
use Rattle.iso_reader.specs.Sums.{summed}
use Rattle.iso_reader.proofs.reader.clock.Given as goal

abbrev pub invariant-loop-counted : goal.invariant-loop-counted
invariant-loop-counted l =
    (kind_number l.least ≤ DAYS)
    × (summed (read_from (wanted (kind_number l.least)) l.next (drop l.next l.text)) l.sum ≡ summed (read_from (wanted DAYS) l.place (drop l.place l.text)) l.fn.total)

abbrev pub decreases-loop-counted : goal.decreases-loop-counted
decreases-loop-counted l = kind_number l.least
