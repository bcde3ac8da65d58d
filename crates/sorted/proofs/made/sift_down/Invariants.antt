-- `sorted::made::sift_down` meets its contract: the entry is at `below`, with all behind it after it. Assumes nothing.
use mathlib.Core.Path.{◌≡◌}
use lib.ListN.{length}
use Rattle.index.specs.Laws.Right.{entry_name}
use Rattle.sorted.specs.Sifting.{Sifting}
use Rattle.sorted.proofs.made.sift_down.Given as goal

abbrev pub invariant-loop-below : goal.invariant-loop-below
invariant-loop-below l = (length l.index ≡ length l.initial.index) × (l.wanted ≡ entry_name l.table l.index l.below) × Sifting l.table l.index l.below
