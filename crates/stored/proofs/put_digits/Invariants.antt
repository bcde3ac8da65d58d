-- `stored::put_digits` meets its contract: before turn `i` the line begins with the digits of the first `i` bytes, and goes on as
-- it was. Assumes nothing.
use mathlib.Core.List.{◌++◌}
use mathlib.Core.Path.{◌≡◌}
use Prim.Native.Nat.{◌*◌, ◌≤◌}
use lib.ListN.{length, take, drop}
use Rattle.rules.specs.SettingsAndUnitTable.{two_digits}
use Rattle.stored.proofs.put_digits.Given as goal

abbrev pub invariant-loop-i : goal.invariant-loop-i
invariant-loop-i l = (l.i ≤ 48) × (length l.line ≡ length l.initial.line) × (l.line ≡ two_digits (take l.i l.row) ++ drop (2 * l.i) l.initial.line)
