-- `lookup::through_index::probe` meets its contract: the entries from `low` up to `high` decide, and their number is the measure. Assumes nothing.
use Prim.Native.Nat.{◌-◌}
use Rattle.lookup.specs.Laws.Walks.{Probing}
use Rattle.lookup.proofs.through_index.probe.Given as goal

abbrev pub invariant-loop-low : goal.invariant-loop-low
invariant-loop-low l = Probing l.table l.index l.wanted l.low l.high l.compared

abbrev pub decreases-loop-low : goal.decreases-loop-low
decreases-loop-low l = l.high - l.low
