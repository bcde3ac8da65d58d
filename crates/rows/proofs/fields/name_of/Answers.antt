-- `rows::fields::name_of` meets its contract: the bytes that the size says, or all that there are. Assumes nothing.
use mathlib.Core.Path.{◌≡◌}
use Prim.Native.Nat.{◌+◌, ◌-◌}
use native.Mathlib.Omega.{arith}
use lib.ListN.{length, drop, get_or, length-drop}
use lib.Seq.{take_all}
use Rattle.rules.specs.SettingsAndUnitTable.{name_size, name}
use Rattle.rows.proofs.fields.name_of.Goals as goal

pub overflow_cast-size : goal.overflow_cast-size
overflow_cast-size c = omega (arith, c.shared_slice_known-1.given 0)

pub returns-then-size-lt47 : goal.returns-then-size-lt47
unfolding name name_size
returns-then-size-lt47 c =
    let size = get_or c.args.row.now 0 0 in
    let counted : 1 + size - 1 ≡ size = omega arith in
    rw counted

pub returns : goal.returns
unfolding name name_size
returns c =
    let row = c.args.row.now in
    rw (take_all (length row - 1) (drop 1 row) (simp length-drop (omega arith)), take_all (get_or row 0 0) (drop 1 row) (simp length-drop (omega arith)))
