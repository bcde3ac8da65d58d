-- `rows::fields::plainly_small` meets its contract: the coefficient, and then the power. Assumes nothing.
use mathlib.Core.Path.{◌≡◌}
use mathlib.Core.Bool.{true}
use Prim.Native.Nat.{◌<◌}
use native.Mathlib.Omega.{arith}
use lib.Dec.{lit<}
use borrow.Author.Tests.{ltb-true}
use Rattle.rules.specs.SettingsAndUnitTable.{coefficient_field_in, power_field_in, product, in_range}
use Rattle.rows.specs.Powers.{fallen}
use Rattle.rows.specs.Laws.Rows.{fallen_of, fallen_below, in_range_plain}
use Rattle.rows.proofs.fields.plainly_small.Goals as goal
use Rattle.rows.proofs.fields.plainly_small.Goals.{After-short_at-power}

-- both fields are read, and the coefficient is small: the power is left
near :
    (c : After-short_at-power)
    → fallen c.short_at-power.result < 32760
    → in_range (product c.args.row.now) ≡ true
unfolding coefficient_field_in power_field_in
near c = in_range_plain _ c.word_at.ensures c.short_at-power.ensures c.if-word_at-ge-SMALL_COEFFICIENT.false

pub returns-then-power-lt32768 : goal.returns-then-power-lt32768
returns-then-power-lt32768 c e = near (goal.at.returns-then-power-lt32768 c).After-short_at-power (rw (fallen_of c.short_at-power.result c.if-power-lt32768.true) (lit< tt))

pub returns-else-power-lt32768 : goal.returns-else-power-lt32768
returns-else-power-lt32768 c e =
    let power = c.short_at-power.result in
    let above = ltb-true 32776 power e in near (goal.at.returns-else-power-lt32768 c).After-short_at-power (rw (fallen_below power c.if-power-lt32768.false) (omega (arith, above)))
