-- `sorted::rising::comes_before` meets its contract: the rooms are the same up to `at`. Assumes nothing.
use Prim.Native.Nat.{◌≤◌}
use Rattle.sorted.specs.Rooms.{Alike}
use Rattle.sorted.proofs.rising.comes_before.Given as goal

abbrev pub invariant-loop-at : goal.invariant-loop-at
invariant-loop-at l = (1 ≤ l.at) × Alike l.row l.other l.at
