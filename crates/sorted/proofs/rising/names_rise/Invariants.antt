-- `sorted::rising::names_rise` meets its contract: the names rise up to the entry that `last` is. Assumes nothing.
use mathlib.Core.Path.{◌≡◌}
use Prim.Native.Nat.{◌<◌, ◌+◌}
use lib.ListN.{length, get_or}
use Rattle.sorted.specs.Climbing.{Climbing}
use Rattle.sorted.proofs.rising.names_rise.Given as goal

abbrev pub invariant-loop-next : goal.invariant-loop-next
invariant-loop-next l = (l.last < length l.index) × (l.last ≡ get_or l.index l.next-index 0) × Climbing l.table l.index (l.next-index + 1)
