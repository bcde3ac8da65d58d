-- `sorted::rising::alike_until` meets its contract: the rooms are the same up to `at`, where a word begins. The measure is what is left of them. Assumes nothing.
use mathlib.Core.Path.{◌≡◌}
use Prim.Native.Nat.{◌≤◌, ◌-◌, ◌%◌}
use Rattle.rules.specs.SettingsAndUnitTable.{kind_at}
use Rattle.sorted.specs.Rooms.{Alike}
use Rattle.sorted.proofs.rising.alike_until.Given as goal

abbrev pub invariant-loop-at : goal.invariant-loop-at
invariant-loop-at l = (l.at % 8 ≡ 1) × (l.at ≤ kind_at) × Alike l.row l.other l.at

abbrev pub decreases-loop-at : goal.decreases-loop-at
decreases-loop-at l = kind_at - l.at
