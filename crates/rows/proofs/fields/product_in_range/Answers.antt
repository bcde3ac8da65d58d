-- `rows::fields::product_in_range` meets its contract: fields that are plainly small, a small row, and of any other the two tests that can fail are made. Assumes nothing.
use mathlib.Core.Path.{◌≡◌, sym, ◌∙◌}
use mathlib.Core.Bool.{◌&&◌}
use Prim.Native.Nat.{◌+◌}
use lib.Dec.{leb}
use native.Mathlib.Omega.{arith}
use borrow.Author.Tests.{not-true, not-false}
use Rattle.rules.specs.SettingsAndUnitTable.{kind_in, product, in_range}
use Rattle.rows.specs.Laws.Rows.{in_range_product, in_range_small, down_most, up_most}
use Rattle.std.proofs.Common.{ap, not}
use Rattle.rows.proofs.fields.product_in_range.Goals as goal
use Rattle.rows.proofs.fields.product_in_range.Goals.{After-within}

pub returns-then-plainly_small : goal.returns-then-plainly_small
returns-then-plainly_small c = sym (c.plainly_small.ensures c.if-plainly_small.true)

pub returns-then-small : goal.returns-then-small
returns-then-small c = sym (in_range_small c.args.row.now (rw (← c.row_multiplier-own.ensures) (sym c.small.ensures ∙ c.if-small.true)))

-- both multipliers are read: of the range two tests are left, and the first is made
two-tests :
    (c : After-within)
    → let own = c.row_multiplier-own.result in
    in_range (product c.args.row.now)
    ≡ (c.within.result && leb (c.kind_multiplier-unit.result.down + own.down) (own.up + 32768))
unfolding kind_in
two-tests c =
    rw (in_range_product c.args.row.now, ← c.kind_multiplier-unit.ensures, ← c.row_multiplier-own.ensures, ← c.within.ensures)

pub overflow_add-result : goal.overflow_add-result
unfolding kind_in
overflow_add-result c = rw (c.kind_multiplier-unit.ensures, c.row_multiplier-own.ensures) (omega (arith, down_most c.args.row.now))

pub overflow_add-result-then-within : goal.overflow_add-result-then-within
overflow_add-result-then-within c = rw c.row_multiplier-own.ensures (omega (arith, up_most c.args.row.now))

pub returns-then-within : goal.returns-then-within
returns-then-within c = rw (two-tests (goal.at.returns-then-within c).After-within, c.if-within.true)

pub returns-else-within : goal.returns-else-within
returns-else-within c = rw (two-tests (goal.at.returns-else-within c).After-within, c.if-within.false)
