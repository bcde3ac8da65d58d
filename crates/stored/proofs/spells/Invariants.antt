-- `stored::spells` meets its contract: the bytes from `i` on decide what all of them do. Assumes nothing.
use mathlib.Core.Path.{◌≡◌}
use Prim.Native.Nat.{◌≤◌}
use lib.ListN.{length, drop}
use Rattle.rules.specs.Common.{all}
use Rattle.stored.specs.Lines.{spells}
use Rattle.stored.proofs.spells.Given as goal

abbrev pub invariant-loop-i : goal.invariant-loop-i
invariant-loop-i l = (l.i ≤ length l.part) × (all spells (drop l.i l.part) ≡ all spells l.part)
