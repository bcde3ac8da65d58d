-- `sorted::made::make` meets its contract: the first `i` rows stand in order. Assumes nothing.
use mathlib.Core.Path.{◌≡◌}
use lib.ListN.{length}
use Rattle.sorted.specs.Making.{Making}
use Rattle.sorted.proofs.made.make.Given as goal

abbrev pub invariant-loop-i : goal.invariant-loop-i
invariant-loop-i l = (length l.index ≡ length l.initial.index) × Making l.table l.index l.i
