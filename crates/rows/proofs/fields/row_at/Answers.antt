-- `rows::fields::row_at` meets its contract: the part that starts at 32 times the number. Assumes nothing.
use mathlib.Core.Path.{◌≡◌}
use Prim.Native.Nat.{◌+◌, ◌*◌, ◌-◌}
use native.Mathlib.Omega.{arith}
use Rattle.rules.specs.SettingsAndUnitTable.{row_in}
use Rattle.rows.specs.Laws.Rows.{row_within}
use Rattle.rows.proofs.fields.row_at.Goals as goal

pub overflow_mul-start : goal.overflow_mul-start
overflow_mul-start c = omega (arith, row_within c.args.table.now c.args.i c.requires)

pub overflow_add-end : goal.overflow_add-end
overflow_add-end c = omega (arith, row_within c.args.table.now c.args.i c.requires)

pub slice_bounds-result-end : goal.slice_bounds-result-end
slice_bounds-result-end c = omega (arith, row_within c.args.table.now c.args.i c.requires)

pub returns : goal.returns
unfolding row_in
returns c =
    let counted : 48 * c.args.i + 48 - 48 * c.args.i ≡ 48 = omega arith in
    rw counted
