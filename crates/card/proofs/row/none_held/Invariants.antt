-- `card::row::none_held` meets its contract: the bytes from `i` on decide what all of them do. Assumes nothing.
use mathlib.Core.Path.{◌≡◌}
use mathlib.Core.Bool.{false}
use Prim.Native.Nat.{◌≤◌}
use lib.ListN.{length, drop}
use Rattle.rules.specs.Common.{all}
use Rattle.settings.specs.Sets.{bytes_of, passes}
use Rattle.card.proofs.row.none_held.Given as goal

abbrev pub invariant-loop-i : goal.invariant-loop-i
invariant-loop-i l = (l.i ≤ length l.bytes) × (all (passes (bytes_of l.set) false) (drop l.i l.bytes) ≡ all (passes (bytes_of l.set) false) l.bytes)
