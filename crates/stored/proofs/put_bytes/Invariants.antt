-- `stored::put_bytes` meets its contract: before turn `i` the row begins with the bytes of the first `i` pairs of digits, and goes
-- on as it was. Assumes nothing.
use mathlib.Core.List.{◌++◌}
use mathlib.Core.Path.{◌≡◌}
use Prim.Native.Nat.{◌*◌, ◌≤◌}
use lib.ListN.{length, take, drop}
use Rattle.stored.specs.Lines.{paired}
use Rattle.stored.proofs.put_bytes.Given as goal

abbrev pub invariant-loop-i : goal.invariant-loop-i
invariant-loop-i l = (l.i ≤ 48) × (length l.row ≡ length l.initial.row) × (l.row ≡ paired (take (2 * l.i) l.line) ++ drop l.i l.initial.row)
