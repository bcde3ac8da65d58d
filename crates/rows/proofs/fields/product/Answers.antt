-- `rows::fields::product` meets its contract: it is in range, so the product fits. Assumes nothing.
use native.Mathlib.Omega.{arith}
use Rattle.rules.specs.SettingsAndUnitTable.{kind_multiplier}
use Rattle.rows.specs.Laws.Rows.{kind_times, product_is, kind_down_most, in_range_bounds}
use Rattle.rows.proofs.fields.product.Goals as goal

pub overflow_mul-result : goal.overflow_mul-result
overflow_mul-result c =
    let bounds = in_range_bounds _ c.requires.1 in
    rw c.kind_multiplier-unit.ensures (omega (arith, rw (kind_times c.args.kind c.args.own) at bounds.0))

pub overflow_add-result : goal.overflow_add-result
unfolding kind_multiplier
overflow_add-result c = rw c.kind_multiplier-unit.ensures (omega (arith, c.requires.0, kind_down_most c.args.kind))

pub returns : goal.returns
returns c = product_is _ _ c.kind_multiplier-unit.ensures
