-- `mover::written::copy` meets its contract: before turn `i` the first `i` bytes of the part are laid over the target. Assumes nothing.
use mathlib.Core.Path.{◌≡◌}
use Prim.Native.Nat.{◌≤◌}
use lib.ListN.{length, take}
use Rattle.writing.specs.Laid.{laid}
use Rattle.mover.proofs.written.copy.Given as goal

abbrev pub invariant-loop-i : goal.invariant-loop-i
invariant-loop-i l = (l.i ≤ length l.part) × (length l.target ≡ length l.initial.target) × (l.target ≡ laid l.initial.target l.at (take l.i l.part))
