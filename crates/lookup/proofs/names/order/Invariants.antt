-- `lookup::names::order` meets its contract: the bytes from `i` on decide what all of them do. Assumes nothing.
use mathlib.Core.Path.{◌≡◌}
use Prim.Native.Nat.{◌≤◌}
use lib.ListN.{length, drop}
use Rattle.index.specs.TheSortedIndex.{order}
use Rattle.lookup.proofs.names.order.Given as goal

abbrev pub invariant-loop-i : goal.invariant-loop-i
invariant-loop-i l = (l.i ≤ length l.a) × (order (drop l.i l.a) (drop l.i l.b) ≡ order l.a l.b)
